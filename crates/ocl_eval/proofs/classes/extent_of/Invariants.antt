use Rattle.std.proofs.Common.{◌≡◌, map}
use Rattle.std.specs.List.{filter, range_with_len}
use Rattle.qvtr_semantics.specs.Objects.{object_datum, conforms_at}
use Rattle.ocl_eval.proofs.classes.extent_of.Given as goal

abbrev pub invariant-loop-object : goal.invariant-loop-object
invariant-loop-object l = l.objects ≡ map (object_datum l.number) (filter (conforms_at l.model l.class.0) (range_with_len 0 l.object))
