use Rattle.std.proofs.Common.{◌≡◌, map}
use Rattle.serde_json.specs.View.{view}
use Rattle.model_files.specs.CanonJson.{object_data}
use Rattle.model_files.proofs.JsonLaws.{live_below}
use Rattle.model_files.proofs.json_values.object_values.Given as goal

abbrev pub invariant-loop-o : goal.invariant-loop-o
invariant-loop-o l = map view l.values ≡ map (object_data l.model) (live_below l.model l.o)
