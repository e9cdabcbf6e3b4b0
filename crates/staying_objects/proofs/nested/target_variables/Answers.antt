use Rattle.std.proofs.Common.{◌≡◌, ◌++◌, ℕ, List, ◌∙◌}
use Rattle.std.proofs.lemmas.Result.{IfOk-weaker}
use Rattle.repair_semantics.specs.TargetItems.{nested_variables}
use Rattle.repair_semantics.specs.Deletions.{root_if_top}
use Rattle.staying_objects.specs.Nested.{root_if, variables_within}
use Rattle.staying_objects.proofs.NestedLaws.{variables_of_domain}
use Rattle.staying_objects.proofs.nested.target_variables.Goals as goal

pub returns-in-Some : goal.returns-in-Some
returns-in-Some c =
    let program = c.args.program.now in
    let rel = c.args.rel.now in
    let dom = c.in-Some.dom.now in
    IfOk-weaker c.domain_variables.result (λ (vs : List ℕ). vs ≡ root_if rel.top dom ++ variables_within dom)
    (λ (vs : List ℕ). vs ≡ root_if_top program rel ++ nested_variables program rel)
    (λ vs same. same ∙ variables_of_domain program rel dom c.in-Some.ensures)
    c.domain_variables.ensures
