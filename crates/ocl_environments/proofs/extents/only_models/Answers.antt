use Rattle.std.proofs.Common.{◌∙◌}
use Rattle.ocl_environments.proofs.extents.only_models.Goals as goal

pub returns : goal.returns
returns c = c.alone_models.ensures c.args.count (c.as_mut_slice.ensures.value ∙ c.in_ok-table.ensures)
