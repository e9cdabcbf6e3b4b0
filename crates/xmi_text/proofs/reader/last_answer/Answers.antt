use Rattle.std.proofs.Common.{◌∙◌, ap, sym}
use Rattle.xmi_text.specs.Reading.{last_by, or_fault}
use Rattle.xmi_text.specs.declared.mark.Mark.TheVariants as marks
use Rattle.xmi_text.specs.declared.mark.Step.TheVariants as answers
use Rattle.xmi_text.proofs.reader.last_answer.Goals as goal

pub returns-in-None : goal.returns-in-None
returns-in-None c =
    sym (ap (λ b. last_by b c.args.state.now c.args.length) c.if-finished.true ∙ ap (or_fault (answers.Mark marks.End)) (sym c.end_fault.ensures ∙ c.in-None.is))

pub returns-in-None-fault : goal.returns-in-None-fault
returns-in-None-fault c =
    sym (ap (λ b. last_by b c.args.state.now c.args.length) c.if-finished.false ∙ ap (or_fault answers.NotYet) (sym c.fault.ensures ∙ c.in-None-fault.is))
