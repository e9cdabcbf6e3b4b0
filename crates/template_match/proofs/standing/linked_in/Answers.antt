use Rattle.std.proofs.Common.{sym, ap, ◌∙◌}
use Rattle.std.specs.Option.{option_copied}
use Rattle.qvtr_semantics.specs.Expressions.{setting}
use Rattle.template_match.proofs.StandingLaws.{told_links_stand}
use Rattle.template_match.proofs.standing.linked_in.Goals as goal

pub returns-in-Some : goal.returns-in-Some
returns-in-Some c =
    told_links_stand (setting c.args.task.now.program.now c.args.task.now.models.now) c.args.number c.args.object.0 c.args.prop.0 c.args.partner c.in-Some.model.now
    c.linked.result (sym c.get.ensures ∙ ap (λ o. option_copied o) c.in-Some.is) c.linked.ensures
