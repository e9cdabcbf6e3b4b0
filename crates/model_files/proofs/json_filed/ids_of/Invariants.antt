use Rattle.std.proofs.Common.{◌≡◌, map, take}
use Rattle.std.specs.Prelude.{codes}
use Rattle.serde_json.specs.Find.{get}
use Rattle.serde_json.specs.View.{view}
use Rattle.model_files.specs.JsonContent.{text_of}
use Rattle.model_files.proofs.json_filed.ids_of.Given as goal

abbrev pub invariant-loop-value : goal.invariant-loop-value
invariant-loop-value l = l.ids ≡ map (λ v. text_of (get (codes "id") (view v))) (take l.value-index l.values)
