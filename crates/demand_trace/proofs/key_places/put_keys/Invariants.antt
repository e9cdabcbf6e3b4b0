use Rattle.std.proofs.Common.{◌≡◌, drop}
use Rattle.demand_trace.specs.Naming.{with_keys}
use Rattle.demand_trace.proofs.key_places.put_keys.Given as goal

abbrev pub invariant-loop-place : goal.invariant-loop-place
invariant-loop-place l = with_keys l.number l.place (drop l.place l.keys) l.table ≡ with_keys l.number 0 l.keys l.fn.table
