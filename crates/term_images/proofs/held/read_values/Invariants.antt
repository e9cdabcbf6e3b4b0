use Rattle.std.proofs.Common.{◌≡◌, take}
use Rattle.term_images.specs.KeyReadings.{read_values}
use Rattle.term_images.proofs.held.read_values.Given as goal

abbrev pub invariant-loop-value : goal.invariant-loop-value
invariant-loop-value l = l.read ≡ read_values l.meta (take l.value-index l.values)
