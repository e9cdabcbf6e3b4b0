use Rattle.std.proofs.Common.{◌≡◌, map, take}
use Rattle.qvtr_semantics.specs.Objects.{value_datum}
use Rattle.ocl_eval.proofs.navigation.value_data.Given as goal

abbrev pub invariant-loop-value : goal.invariant-loop-value
invariant-loop-value l = l.found ≡ map (value_datum l.meta) (take l.value-index l.values)
