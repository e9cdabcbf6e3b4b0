use Rattle.std.proofs.Common.{◌≡◌, map}
use Rattle.std.specs.List.{range_with_len}
use Rattle.entry_making.specs.Numbered.{number_or_datum}
use Rattle.entry_making.proofs.values.begun_values.Given as goal

abbrev pub invariant-loop-v : goal.invariant-loop-v
invariant-loop-v l = l.values.items ≡ map (number_or_datum l.b l.scope) (range_with_len 0 l.v)
