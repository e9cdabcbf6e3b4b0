use Rattle.std.proofs.Common.{◌≡◌, ℕ, List, Bool, true, ◌&&◌, map, ap, sym, ◌∙◌, not}
use Rattle.std.specs.Set.{is_member}
use Rattle.mof_metamodel.specs.Characters.{same_name}
use Rattle.qvtr_types.specs.Equations.{equation_test}
use Rattle.script_scopes.proofs.DistinctLemmas.{met_member}
use Rattle.qvtr_types.proofs.equations.is_first.Goals as goal

pub returns-then-has_equation : goal.returns-then-has_equation
returns-then-has_equation c =
    let met : List (List ℕ) = map {A = List ℕ × ℕ} {B = List ℕ} (λ e. e.0) c.args.met.now in
    let passes : equation_test c.args.variables.now c.args.wanted c.args.name.now ≡ true = sym c.has_equation.ensures ∙ c.if-has_equation.true in
    ap not (c.contains.ensures ∙ met_member c.args.met.now c.args.name.now) ∙ sym (ap (λ (b : Bool). b && not (is_member same_name met c.args.name.now)) passes)
