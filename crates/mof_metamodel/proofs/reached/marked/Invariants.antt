use Rattle.std.proofs.Common.{◌≡◌, get_or, false}
use Rattle.std.specs.List.{filter, range_with_len}
use Rattle.mof_metamodel.proofs.reached.marked.Given as goal

-- those of the classes so far
abbrev pub invariant-loop-d : goal.invariant-loop-d
invariant-loop-d l = l.classes ≡ filter (λ d. get_or l.marks d false) (range_with_len 0 l.d)
