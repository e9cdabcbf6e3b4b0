use Rattle.std.proofs.Common.{sym}
use Rattle.template_match.specs.Tasks.{problem_of}
use Rattle.template_match.proofs.HolderLaws.{value_holders}
use Rattle.template_match.proofs.choosing.value_holders.Goals as goal

pub returns-in-Some-index_of : goal.returns-in-Some-index_of
returns-in-Some-index_of c k =
    value_holders (problem_of c.args.task.now) c.args.variable c.in-Some.model k c.args.prop.0 c.in-Some.field-0-1 c.args.value.now c.with_value.result.now (sym c.in-Some.ensures)
    (λ model there. c.with_value.ensures model (c.in-Some-index_of.ensures model there))
