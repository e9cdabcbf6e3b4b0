use Rattle.std.proofs.Common.{◌≡◌, map, take}
use Rattle.serde_json.specs.View.{view}
use Rattle.model_files.specs.CanonJson.{partner_data}
use Rattle.model_files.proofs.json_values.id_values.Given as goal

abbrev pub invariant-loop-b : goal.invariant-loop-b
invariant-loop-b l = map view l.values ≡ map (λ b. partner_data l.model b.0) (take l.b-index l.objects)
