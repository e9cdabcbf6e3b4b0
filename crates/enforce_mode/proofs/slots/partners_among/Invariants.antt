use Rattle.std.proofs.Common.{◌≡◌, map, take}
use Rattle.std.specs.List.{filter_map}
use Rattle.object_tables.specs.declared.value.ObjId.{ObjId}
use Rattle.repair_semantics.specs.Candidates.{partner_held}
use Rattle.slot_claims.specs.HeldValues.{held_by}
use Rattle.enforce_mode.proofs.slots.partners_among.Given as goal

abbrev pub invariant-loop-one : goal.invariant-loop-one
invariant-loop-one l = map (λ (b : ObjId). b.0) l.partners ≡ filter_map partner_held (map held_by (take l.one-index l.held))
