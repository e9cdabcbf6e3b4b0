use Rattle.std.proofs.Common.{◌≡◌, drop}
use Rattle.term_images.specs.KeyReadings.{is_held}
use Rattle.term_images.proofs.passing.is_held.Given as goal

abbrev pub invariant-loop-one : goal.invariant-loop-one
invariant-loop-one l = is_held l.value (drop l.one-index l.held) ≡ is_held l.value l.held
