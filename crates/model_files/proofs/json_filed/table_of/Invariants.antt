use Rattle.std.proofs.Common.{◌≡◌, ◌++◌, map, drop}
use Rattle.serde_json.specs.View.{view}
use Rattle.model_files.specs.JsonContent.{written_of}
use Rattle.model_files.specs.JsonFiled.{AreNew}
use Rattle.model_files.specs.JsonSteps.{met_ids}
use Rattle.model_files.proofs.json_filed.table_of.Given as goal

abbrev pub invariant-loop-value : goal.invariant-loop-value
invariant-loop-value l =
    (met_ids l.ids ++ map (λ v. (written_of (view v)).id) (drop l.value-index l.values) ≡ map (λ v. (written_of (view v)).id) l.values)
    × AreNew (met_ids l.ids) (map (λ v. (written_of (view v)).id) (drop l.value-index l.values))
