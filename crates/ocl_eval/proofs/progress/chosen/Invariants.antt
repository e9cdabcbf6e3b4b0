use Rattle.std.proofs.Common.{◌≡◌, ◌++◌, drop}
use Rattle.std.specs.List.{items_where_true}
use Rattle.ocl_eval.proofs.progress.chosen.Given as goal

abbrev pub invariant-loop-i : goal.invariant-loop-i
invariant-loop-i l = l.list ++ items_where_true (drop l.i l.conditions) (drop l.i l.elements) ≡ items_where_true l.conditions l.elements
