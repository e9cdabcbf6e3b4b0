use Rattle.std.proofs.Common.{◌≡◌, map, take}
use Rattle.term_images.specs.KeyReadings.{alone, held_at_each}
use Rattle.term_images.proofs.keys.key_values.Given as goal

abbrev pub invariant-loop-prop : goal.invariant-loop-prop
invariant-loop-prop l = held_at_each l.target.program.now l.target.model.now l.object.0 (take l.prop-index l.props) ≡ map alone l.values
