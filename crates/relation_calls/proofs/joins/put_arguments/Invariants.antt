use Rattle.std.proofs.Common.{◌≡◌, drop}
use Rattle.relation_calls.specs.Tables.{with_arguments}
use Rattle.relation_calls.proofs.joins.put_arguments.Given as goal

abbrev pub invariant-loop-i : goal.invariant-loop-i
invariant-loop-i l = with_arguments l.places.items (drop l.i l.domains) (drop l.i l.args) ≡ with_arguments l.fn.places.items l.domains l.args
