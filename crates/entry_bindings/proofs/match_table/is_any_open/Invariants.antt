use Rattle.std.proofs.Common.{◌≡◌, drop}
use Rattle.std.specs.List.{list_any}
use Rattle.entry_bindings.specs.MatchKeys.{is_open}
use Rattle.entry_bindings.proofs.match_table.is_any_open.Given as goal

abbrev pub invariant-loop-argument : goal.invariant-loop-argument
invariant-loop-argument l = list_any is_open (drop l.argument-index l.given) ≡ list_any is_open l.given
