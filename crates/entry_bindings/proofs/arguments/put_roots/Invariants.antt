use Rattle.std.proofs.Common.{◌≡◌, drop}
use Rattle.entry_bindings.specs.Arguments.{put_roots}
use Rattle.entry_bindings.proofs.arguments.put_roots.Given as goal

abbrev pub invariant-loop-i : goal.invariant-loop-i
invariant-loop-i l = put_roots l.slots.items (drop l.i l.domains) (drop l.i l.given) ≡ put_roots l.fn.free l.domains l.given
