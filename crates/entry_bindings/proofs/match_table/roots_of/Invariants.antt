use Rattle.std.proofs.Common.{◌≡◌, map, take}
use Rattle.entry_bindings.specs.MatchKeys.{root_of}
use Rattle.entry_bindings.proofs.match_table.roots_of.Given as goal

abbrev pub invariant-loop-argument : goal.invariant-loop-argument
invariant-loop-argument l = l.roots ≡ map root_of (take l.argument-index l.given)
