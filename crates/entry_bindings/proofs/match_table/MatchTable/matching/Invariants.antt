use Rattle.std.proofs.Common.{◌≡◌, ◌++◌}
use Rattle.entry_bindings.specs.Joins.{matching}
use Rattle.entry_bindings.specs.MatchKeys.{matches_of}
use Rattle.entry_bindings.proofs.match_table.MatchTable.matching.Given as goal

abbrev pub invariant-loop-key : goal.invariant-loop-key
invariant-loop-key l = l.found ++ matching (matches_of l.key-iterator) l.number l.given ≡ matching l.self l.number l.given
