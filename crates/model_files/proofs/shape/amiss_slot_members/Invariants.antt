use Rattle.std.proofs.Common.{◌≡◌}
use Rattle.serde_json.specs.View.{members_view}
use Rattle.model_files.specs.Shape.{amiss_slots_in}
use Rattle.model_files.proofs.shape.amiss_slot_members.Given as goal

abbrev pub invariant-loop-name : goal.invariant-loop-name
invariant-loop-name l = amiss_slots_in l.path (members_view l.name-iterator) ≡ amiss_slots_in l.path (members_view l.slots.entries)
