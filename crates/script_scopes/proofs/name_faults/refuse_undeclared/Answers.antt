use Rattle.std.proofs.Common.{ℕ, List, map, ◌∙◌, subst}
use Rattle.std.specs.Prelude.{OnOk, All, Contains}
use Rattle.script_scopes.specs.Occurrences.{variables_of}
use Rattle.script_scopes.proofs.name_faults.refuse_undeclared.Goals as goal

pub returns-clause-none : goal.returns-clause-none
returns-clause-none c =
    subst (λ (ks : List (List ℕ)). OnOk c.refuse_unknown.result (All (Contains ks) (variables_of c.args.r.now))) c.in_ok-known.ensures
    (subst (λ (ns : List (List ℕ)). OnOk c.refuse_unknown.result (All (Contains (map {A = List ℕ × ℕ} {B = List ℕ} (λ e. e.0) c.in_ok-known.known)) ns)) (c.as_slice.ensures ∙ c.in_ok-names.ensures) c.refuse_unknown.ensures.known)
