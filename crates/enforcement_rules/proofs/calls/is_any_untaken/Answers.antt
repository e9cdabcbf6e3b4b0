use Rattle.std.proofs.Common.{◌≡◌, ◌∙◌, ℕ, List, ap, subst}
use Rattle.std.specs.Prelude.{IfOk}
use Rattle.enforcement_rules.specs.CallTests.{has_untaken, taken_by_clause}
use Rattle.enforcement_rules.proofs.calls.is_any_untaken.Goals as goal

pub returns : goal.returns
returns c =
    subst (λ (xs : List ℕ). IfOk c.has_untaken.result (λ b. b ≡ has_untaken c.args.task.now.program.now c.args.task.now.rel.now xs))
    (c.as_slice-2.ensures ∙ c.in_ok-taken.ensures ∙ ap (taken_by_clause c.args.task.now.program.now) c.as_slice.ensures) c.has_untaken.ensures
