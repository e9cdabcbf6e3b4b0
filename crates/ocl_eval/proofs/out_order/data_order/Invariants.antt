use Rattle.std.proofs.Common.{◌≡◌, drop}
use Rattle.std.specs.Cmp.Lexicographic.{slice_cmp}
use Rattle.ocl_eval.specs.Order.{datum_order}
use Rattle.ocl_eval.proofs.out_order.data_order.Given as goal

abbrev pub invariant-loop-i : goal.invariant-loop-i
invariant-loop-i l = slice_cmp datum_order (drop l.i l.ds) (drop l.i l.es) ≡ slice_cmp datum_order l.ds l.es
