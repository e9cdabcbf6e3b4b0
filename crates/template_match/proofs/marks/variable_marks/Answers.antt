use Rattle.std.proofs.Common.{◌∙◌, arith, length, drop}
use Rattle.std.proofs.lemmas.List.{take_at}
use Rattle.template_match.proofs.MarkLaws.{fresh_marks}
use Rattle.template_match.proofs.marks.variable_marks.Goals as goal

pub returns : goal.returns
returns c =
    let new = c.mark_variables.new.marks in
    take_at new (drop (length new) c.in_ok-marks.marks.items) c.in_ok-marks.marks.len (omega arith)
    ∙ fresh_marks c.as_mut_slice.result.now new c.args.count c.args.variables.now (c.as_mut_slice.ensures.value
    ∙ c.in_ok-marks.ensures) c.mark_variables.ensures
