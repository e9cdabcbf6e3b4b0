use Rattle.std.proofs.Common.{◌≡◌}
use Rattle.serde_json.specs.View.{members_view}
use Rattle.model_files.specs.JsonContent.{slots_list, wrong_slots}
use Rattle.model_files.specs.JsonSteps.{printed}
use Rattle.model_files.proofs.json_faults.wrong_members.Given as goal

abbrev pub invariant-loop-name : goal.invariant-loop-name
invariant-loop-name l =
    wrong_slots l.meta (printed l.speaker) l.class.0 (slots_list (members_view l.name-iterator))
    ≡ wrong_slots l.meta (printed l.speaker) l.class.0 (slots_list (members_view l.slots.entries))
