use Rattle.std.proofs.Common.{◌≡◌, drop}
use Rattle.serde_json.specs.View.{members_view}
use Rattle.mof_metamodel.specs.Tables.{prop_numbers}
use Rattle.model_files.specs.CanonJson.{with_slots, slots_data}
use Rattle.model_files.proofs.json_values.slots_of.Given as goal

-- what is left to put makes the slots of the object
abbrev pub invariant-loop-p : goal.invariant-loop-p
invariant-loop-p l = with_slots l.model l.o.0 (drop l.p-index (prop_numbers l.p-items)) (members_view l.slots.entries) ≡ slots_data l.model l.o.0
