use Rattle.std.proofs.Common.{◌≡◌, ◌++◌, map}
use Rattle.std.specs.List.{range_with_len}
use Rattle.mof_metamodel.specs.Tables.{place_in}
use Rattle.mof_metamodel.proofs.numbering.add_places.Given as goal

-- the places so far stand behind the others
abbrev pub invariant-loop-index : goal.invariant-loop-index
invariant-loop-index l = l.places.items ≡ l.fn.places.items ++ map (place_in l.class) (range_with_len 0 l.index)
