use Rattle.std.proofs.Common.{◌≡◌, map}
use Rattle.std.specs.List.{range_with_len}
use Rattle.entry_finding.specs.Made.{other_number}
use Rattle.entry_finding.proofs.values.other_values.Given as goal

abbrev pub invariant-loop-variable : goal.invariant-loop-variable
invariant-loop-variable l = l.others ≡ map (other_number l.own l.all) (range_with_len 0 l.variable)
