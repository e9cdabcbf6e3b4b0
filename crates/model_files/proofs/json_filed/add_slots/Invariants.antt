use Rattle.std.proofs.Common.{◌≡◌}
use Rattle.serde_json.specs.View.{members_view}
use Rattle.model_files.specs.JsonContent.{slots_list}
use Rattle.model_files.specs.JsonFiled.{with_slots}
use Rattle.model_files.specs.JsonSteps.{met_ids}
use Rattle.model_files.proofs.json_filed.add_slots.Given as goal

abbrev pub invariant-loop-name : goal.invariant-loop-name
invariant-loop-name l =
    with_slots l.meta (met_ids l.ids) l.owner.object l.owner.class.0 (slots_list (members_view l.name-iterator)) l.filed
    ≡ with_slots l.meta (met_ids l.ids) l.owner.object l.owner.class.0 (slots_list (members_view l.slots.entries)) l.fn.filed
