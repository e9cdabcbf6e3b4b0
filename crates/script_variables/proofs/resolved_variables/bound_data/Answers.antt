use Rattle.std.proofs.Common.{◌≡◌, ℕ, List, true, false, get_or, ap, sym, subst, ◌∙◌}
use Rattle.std.specs.Prelude.{IfOk, Contains, chars, ◌↔◌}
use Rattle.script_scopes.specs.ScriptNames.{each_once}
use Rattle.script_variables.specs.Bindings.{binding_rules, IsDerivedNumber}
use Rattle.script_variables.specs.Derivations.{IsRuleBelow}
use Rattle.script_variables.proofs.BindingLaws.{rules_below}
use Rattle.script_variables.proofs.resolved_variables.bound_data.Goals as goal

pub derived-requires : goal.derived-requires
derived-requires c =
    let target : List ℕ = chars c.args.target.now in
    λ rule among. subst (λ (n : ℕ). IsRuleBelow n rule) (sym c.len.ensures)
    (rules_below target c.args.r.now (λ v. Unit {0}) c.args.types.now rule
    (subst (λ (rs : List (ℕ × List ℕ)). Contains rs rule)
    (c.in_ok-rules.ensures ∙ ap (λ (us : List (List ℕ)). binding_rules c.args.types.now us target c.args.r.now) (c.in_ok-universal.ensures ∙ ap each_once c.in_ok-named.ensures)) among))

pub returns : goal.returns
returns c =
    let target : List ℕ = chars c.args.target.now in
    subst (λ (rs : List (ℕ × List ℕ)). IfOk c.derived.result (λ bound. (n : ℕ) → (get_or bound.items n false ≡ true) ↔ IsDerivedNumber rs n))
    (c.in_ok-rules.ensures ∙ ap (λ (us : List (List ℕ)). binding_rules c.args.types.now us target c.args.r.now) (c.in_ok-universal.ensures ∙ ap each_once c.in_ok-named.ensures))
    c.derived.ensures
