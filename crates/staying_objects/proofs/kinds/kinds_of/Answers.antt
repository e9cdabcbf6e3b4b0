use Rattle.std.proofs.Common.{◌∙◌}
use Rattle.staying_objects.proofs.KindLaws.{kinds-none}
use Rattle.staying_objects.proofs.kinds.kinds_of.Goals as goal

pub mark_all-requires : goal.mark_all-requires
mark_all-requires c =
    kinds-none c.args.meta.now c.as_mut_slice.result.now c.class_count.result (c.as_mut_slice.ensures.value
    ∙ c.in_ok-marks.ensures) c.class_count.ensures.count
