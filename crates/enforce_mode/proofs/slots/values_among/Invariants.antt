use Rattle.std.proofs.Common.{◌≡◌, map}
use Rattle.std.specs.List.{filter_map}
use Rattle.repair_semantics.specs.Candidates.{value_held}
use Rattle.slot_claims.specs.HeldValues.{held_by}
use Rattle.enforce_mode.proofs.slots.values_among.Given as goal

abbrev pub invariant-loop-one : goal.invariant-loop-one
invariant-loop-one l = l.values ≡ filter_map value_held (map held_by l.yielded)
