use Rattle.std.proofs.Common.{◌≡◌, drop}
use Rattle.serde_json.specs.View.{items_view}
use Rattle.model_files.specs.Shape.{amiss_objects_in}
use Rattle.model_files.proofs.shape.amiss_object_items.Given as goal

abbrev pub invariant-loop-number : goal.invariant-loop-number
invariant-loop-number l = amiss_objects_in l.path l.number (items_view (drop l.number l.values)) ≡ amiss_objects_in l.path 0 (items_view l.values)
