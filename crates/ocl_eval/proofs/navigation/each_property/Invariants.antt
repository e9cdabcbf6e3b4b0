use Rattle.std.proofs.Common.{◌≡◌, map, drop}
use Rattle.std.specs.List.{fold}
use Rattle.qvtr_semantics.specs.Objects.{property}
use Rattle.ocl_eval.specs.Progress.{advanced}
use Rattle.ocl_eval.specs.Worlds.{setting_of}
use Rattle.ocl_eval.proofs.navigation.each_property.Given as goal

abbrev pub invariant-loop-element : goal.invariant-loop-element
invariant-loop-element l = fold advanced l.progress (map (property (setting_of l.world) l.prop.0 l.fn.values) (drop l.element-index l.elements))
    ≡ fold advanced l.fn.begun (map (property (setting_of l.world) l.prop.0 l.fn.values) l.elements)
