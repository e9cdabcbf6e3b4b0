use Rattle.std.proofs.Common.{◌∙◌, [], refl, sym}
use Rattle.std.proofs.lemmas.Result.{IfOk-weaker}
use Rattle.template_match.specs.Search.{is_any_open, sought, values_of}
use Rattle.template_match.specs.Tasks.{problem_of}
use Rattle.template_match.proofs.OpenLaws.{none_open}
use Rattle.template_match.proofs.SearchLaws.{tested_found}
use Rattle.template_match.proofs.finding.found.Goals as goal

pub returns-else-is_any_vacant : goal.returns-else-is_any_vacant
returns-else-is_any_vacant c =
    let p = problem_of c.args.task.now in
    let a = c.args.roots.now.values in
    IfOk-weaker c.tested_roots.result _ _
    (λ bs is. tested_found p a [] (values_of bs) (is_any_open p a) refl (none_open p a (sought p) (sym c.is_any_vacant.ensures ∙ c.if-is_any_vacant.false)) c.requires.places is)
    c.tested_roots.ensures
