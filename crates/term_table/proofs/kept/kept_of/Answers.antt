-- No term is higher than there are terms.
use Rattle.std.proofs.Common.{arith}
use Rattle.term_table.proofs.KeptLaws.{keys_low}
use Rattle.term_table.proofs.kept.kept_of.Goals as goal

pub overflow_add-height : goal.overflow_add-height
overflow_add-height c = omega (arith, keys_low c.args.kept.now c.as_slice.result.now c.requires.low)
