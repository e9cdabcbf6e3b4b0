use Rattle.std.proofs.Common.{sym, ap, ◌∙◌}
use Rattle.std.specs.Option.{option_copied}
use Rattle.qvtr_semantics.specs.Expressions.{setting}
use Rattle.template_match.proofs.HolderLaws.{back_told}
use Rattle.template_match.proofs.choosing.back_reference.Goals as goal

pub returns-in-Some : goal.returns-in-Some
returns-in-Some c =
    back_told (setting c.args.task.now.program.now c.args.task.now.models.now) c.args.number c.args.prop.0 c.args.object c.in-Some.model.now c.opposite_at.result
    (sym c.get.ensures ∙ ap (λ o. option_copied o) c.in-Some.is) c.end-end.ensures.kept c.opposite_at.ensures.reference c.opposite_at.ensures.opposite
