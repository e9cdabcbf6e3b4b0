use Rattle.std.proofs.Common.{◌≡◌, drop}
use Rattle.qvtr_semantics.specs.Calls.{with_roots}
use Rattle.relation_calls.proofs.making.put_roots.Given as goal

abbrev pub invariant-loop-i : goal.invariant-loop-i
invariant-loop-i l = with_roots l.values.items (drop l.i l.domains) (drop l.i l.given) ≡ with_roots l.fn.free.values l.domains l.given
