use Rattle.std.proofs.Common.{◌≡◌, drop, Some}
use Rattle.serde_json.specs.View.{items_view}
use Rattle.model_files.specs.JsonContent.{items_list}
use Rattle.model_files.specs.JsonFiled.{with_values}
use Rattle.model_files.proofs.json_filed.add_values.Given as goal

abbrev pub invariant-loop-value : goal.invariant-loop-value
invariant-loop-value l =
    with_values l.meta l.slot (Some l.ty) (items_list (items_view (drop l.value-index l.values))) l.written
    ≡ with_values l.meta l.slot (Some l.ty) (items_list (items_view l.values)) l.fn.written
