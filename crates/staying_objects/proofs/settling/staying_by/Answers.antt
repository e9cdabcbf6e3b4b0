use Rattle.std.proofs.Common.{◌∙◌}
use Rattle.staying_objects.proofs.FateLaws.{first_fates_are}
use Rattle.staying_objects.proofs.settling.staying_by.Goals as goal

pub settle_all-requires : goal.settle_all-requires
settle_all-requires c =
    first_fates_are c.args.repair.now c.as_mut_slice.result.now (c.as_mut_slice.ensures.value ∙ c.into_vec-fates.ensures
    ∙ c.in_ok-first_fates.ensures)
