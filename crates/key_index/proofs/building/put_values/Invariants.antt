use Rattle.std.proofs.Common.{◌≡◌, ◌++◌, map, take}
use Rattle.key_index.specs.Entries.{entry}
use Rattle.key_index.proofs.building.put_values.Given as goal

abbrev pub invariant-loop-value : goal.invariant-loop-value
invariant-loop-value l = l.holders.items ≡ l.fn.holders.items ++ map (entry l.object.0 l.prop.0) (take l.value-index l.values)
