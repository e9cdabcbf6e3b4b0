use Rattle.std.proofs.Common.{◌≡◌, drop}
use Rattle.std.specs.Cmp.Lexicographic.{slice_cmp}
use Rattle.ocl_eval.specs.Order.{out_order}
use Rattle.ocl_eval.proofs.out_order.outs_order.Given as goal

abbrev pub invariant-loop-i : goal.invariant-loop-i
invariant-loop-i l = slice_cmp out_order (drop l.i l.xs) (drop l.i l.ys) ≡ slice_cmp out_order l.xs l.ys
