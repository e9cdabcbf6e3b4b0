use Rattle.std.proofs.Common.{◌≡◌, map, take}
use Rattle.serde_json.specs.View.{view}
use Rattle.model_files.specs.CanonJson.{value_data}
use Rattle.model_files.proofs.json_values.data_values.Given as goal

abbrev pub invariant-loop-datum : goal.invariant-loop-datum
invariant-loop-datum l = map view l.values ≡ map (value_data l.meta) (take l.datum-index l.held)
