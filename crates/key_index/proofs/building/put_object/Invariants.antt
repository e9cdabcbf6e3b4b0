use Rattle.std.proofs.Common.{◌≡◌, ◌++◌, take}
use Rattle.std.specs.List.{flat_map}
use Rattle.object_tables.specs.Models.{class_at}
use Rattle.key_index.specs.Entries.{entries_at, props_in}
use Rattle.key_index.proofs.building.put_object.Given as goal

abbrev pub invariant-loop-prop : goal.invariant-loop-prop
invariant-loop-prop l =
    l.holders.items ≡ l.fn.holders.items
    ++ flat_map (entries_at l.model l.object.0) (take l.prop-index (props_in l.model.meta (class_at l.model l.object.0)))
