use Rattle.std.proofs.Common.{◌≡◌, ◌+◌, drop}
use Rattle.demand_trace.specs.Cuts.{own_count}
use Rattle.demand_trace.proofs.entries.own_count.Given as goal

abbrev pub invariant-loop-place : goal.invariant-loop-place
invariant-loop-place l = own_count l.number l.demands ≡ l.place + own_count l.number (drop l.place l.demands)
