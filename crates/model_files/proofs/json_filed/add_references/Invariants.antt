use Rattle.std.proofs.Common.{◌≡◌, drop}
use Rattle.serde_json.specs.View.{items_view}
use Rattle.model_files.specs.JsonContent.{items_list}
use Rattle.model_files.specs.JsonFiled.{with_references}
use Rattle.model_files.specs.JsonSteps.{met_ids}
use Rattle.model_files.proofs.json_filed.add_references.Given as goal

abbrev pub invariant-loop-value : goal.invariant-loop-value
invariant-loop-value l =
    with_references (met_ids l.ids) l.slot (items_list (items_view (drop l.value-index l.values))) l.references
    ≡ with_references (met_ids l.ids) l.slot (items_list (items_view l.values)) l.fn.references
