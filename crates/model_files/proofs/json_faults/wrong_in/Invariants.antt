use Rattle.std.proofs.Common.{◌≡◌, drop, Some, chars}
use Rattle.serde_json.specs.View.{items_view}
use Rattle.model_files.specs.JsonContent.{items_list, wrong_in}
use Rattle.model_files.specs.JsonSteps.{printed}
use Rattle.model_files.proofs.json_faults.wrong_in.Given as goal

abbrev pub invariant-loop-value : goal.invariant-loop-value
invariant-loop-value l =
    wrong_in l.meta (printed l.speaker) (chars l.name) (Some l.ty) (items_list (items_view (drop l.value-index l.values)))
    ≡ wrong_in l.meta (printed l.speaker) (chars l.name) (Some l.ty) (items_list (items_view l.values))
