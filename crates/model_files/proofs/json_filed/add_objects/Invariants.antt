use Rattle.std.proofs.Common.{◌≡◌, map, drop}
use Rattle.serde_json.specs.View.{view}
use Rattle.model_files.specs.JsonContent.{written_of}
use Rattle.model_files.specs.JsonFiled.{with_objects, HasApart, AreClassed}
use Rattle.model_files.specs.JsonSteps.{met_ids}
use Rattle.model_files.proofs.json_filed.add_objects.Given as goal

abbrev pub invariant-loop-number : goal.invariant-loop-number
invariant-loop-number l =
    (with_objects l.meta (met_ids l.ids) l.number (map (λ v. written_of (view v)) (drop l.number l.values)) l.filed
    ≡ with_objects l.meta (met_ids l.ids) 0 (map (λ v. written_of (view v)) l.values) l.fn.filed)
    × AreClassed l.meta (map (λ v. written_of (view v)) (drop l.number l.values))
    × (HasApart (map (λ v. written_of (view v)) (drop l.number l.values)) → HasApart (map (λ v. written_of (view v)) l.values))
