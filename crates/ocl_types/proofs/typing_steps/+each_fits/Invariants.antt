use Rattle.std.proofs.Common.{length}
use Rattle.ocl_types.proofs.typing_steps.+each_fits.Given as goal

abbrev pub decreases-each_fits : goal.decreases-each_fits
decreases-each_fits l = length l.params.now
