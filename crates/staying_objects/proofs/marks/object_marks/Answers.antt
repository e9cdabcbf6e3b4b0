use Rattle.std.proofs.Common.{◌∙◌, arith, length, drop, map}
use Rattle.std.proofs.lemmas.List.{take_at}
use Rattle.template_match.proofs.MarkLaws.{fresh_marks}
use Rattle.staying_objects.proofs.marks.object_marks.Goals as goal

pub returns : goal.returns
returns c =
    let new = c.mark_objects.new.marks in
    take_at new (drop (length new) c.in_ok-marks.marks.items) c.in_ok-marks.marks.len (omega arith)
    ∙ fresh_marks c.as_mut_slice.result.now new c.args.count (map (λ x. x.0) c.args.objects.now) (c.as_mut_slice.ensures.value
    ∙ c.in_ok-marks.ensures) c.mark_objects.ensures
