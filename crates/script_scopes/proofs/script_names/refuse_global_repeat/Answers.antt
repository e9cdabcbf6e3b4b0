use Rattle.std.proofs.Common.{ℕ, List, ◌∙◌, subst}
use Rattle.std.specs.Prelude.{OnOk}
use Rattle.script_scopes.specs.Declarations.{IsRepeated}
use Rattle.script_scopes.proofs.script_names.refuse_global_repeat.Goals as goal

pub returns-clause-none : goal.returns-clause-none
returns-clause-none c = subst (λ (ns : List (List ℕ)). OnOk c.refuse_repeat.result ((v : List ℕ) → ¬ IsRepeated ns v)) (c.as_slice.ensures ∙ c.in_ok-names.ensures) c.refuse_repeat.ensures.none
