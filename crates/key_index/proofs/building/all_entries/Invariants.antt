use Rattle.std.proofs.Common.{◌≡◌}
use Rattle.std.specs.List.{flat_map, range_with_len}
use Rattle.key_index.specs.Entries.{entries_of}
use Rattle.key_index.proofs.building.all_entries.Given as goal

abbrev pub invariant-loop-object : goal.invariant-loop-object
invariant-loop-object l = l.holders.items ≡ flat_map (entries_of l.model) (range_with_len 0 l.object)
