use Rattle.std.proofs.Common.{◌≡◌, replicate}
use Rattle.call_graph.specs.declared.mark.Mark.TheVariants as marked
use Rattle.call_graph.proofs.cycle.new_marks.Given as goal

abbrev pub invariant-loop-i : goal.invariant-loop-i
invariant-loop-i l = l.marks.items ≡ replicate l._i marked.New
