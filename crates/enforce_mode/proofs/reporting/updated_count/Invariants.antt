use Rattle.std.proofs.Common.{◌≡◌, ◌≤◌, length}
use Rattle.std.specs.List.{filter, range_with_len}
use Rattle.repair_semantics.specs.Reports.{is_updated}
use Rattle.enforce_mode.proofs.reporting.updated_count.Given as goal

abbrev pub invariant-loop-o : goal.invariant-loop-o
invariant-loop-o l = record { few : l.count ≤ l.o; is : l.count ≡ length (filter (is_updated l.target l.made) (range_with_len 0 l.o)) }
