use Rattle.std.proofs.Common.{◌≡◌, drop}
use Rattle.std.specs.Cmp.Lexicographic.{pointwise}
use Rattle.qvtr_semantics.specs.Data.{same_datum}
use Rattle.ocl_eval.proofs.equality.same_data.Given as goal

abbrev pub invariant-loop-i : goal.invariant-loop-i
invariant-loop-i l = pointwise same_datum l.ds l.es ≡ pointwise same_datum (drop l.i l.ds) (drop l.i l.es)
