use Rattle.std.proofs.Common.{◌≡◌, map, take, drop, Some}
use Rattle.serde_json.specs.View.{view}
use Rattle.model_assembly.specs.Elements.{concrete_class}
use Rattle.model_files.specs.JsonContent.{written_of}
use Rattle.model_files.specs.JsonFiled.{AreClassed}
use Rattle.model_files.proofs.json_filed.classes_of.Given as goal

abbrev pub invariant-loop-value : goal.invariant-loop-value
invariant-loop-value l =
    (map (λ c. Some c.0) l.classes ≡ map (λ v. concrete_class l.meta (written_of (view v)).class) (take l.value-index l.values))
    × AreClassed l.meta (map (λ v. written_of (view v)) (drop l.value-index l.values))
