use Rattle.std.proofs.Common.{◌≡◌, ◌++◌, drop}
use Rattle.entry_tops.specs.TopOrder.{ranked_from}
use Rattle.entry_tops.proofs.order.ranked_tops.Given as goal

abbrev pub invariant-loop-i : goal.invariant-loop-i
invariant-loop-i l = l.ranked.items ++ ranked_from l.i (drop l.i l.rels) ≡ ranked_from 0 l.rels
