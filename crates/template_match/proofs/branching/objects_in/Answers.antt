use Rattle.std.proofs.Common.{sym, subst}
use Rattle.std.specs.Prelude.{Some}
use Rattle.template_match.specs.Untried.{HasObjects}
use Rattle.template_match.proofs.UntriedLaws.{indexed_objects}
use Rattle.template_match.proofs.branching.objects_in.Goals as goal

pub returns-in-Some-index_of : goal.returns-in-Some-index_of
returns-in-Some-index_of c =
    let models = c.args.task.now.models.now in
    subst (HasObjects models (Some (c.args.number, c.args.class))) (sym c.objects.ensures)
    (indexed_objects models c.args.number c.args.class c.in-Some.model.now (sym c.in-Some.ensures) c.extent-extent.result c.extent-extent.ensures)
