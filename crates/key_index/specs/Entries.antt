-- The entries of an index as they are gathered: of each object by number, of each of its properties in class order, of each value there.
use Rattle.std.specs.Prelude.{ℕ, List, [], map, length, Option, None, Some}
use Rattle.std.specs.List.{flat_map, range_with_len}
use Rattle.mof_metamodel.specs.declared.desc.MetaDesc.{MetaDesc}
use Rattle.mof_metamodel.specs.Metamodels.{props_of}
use Rattle.object_tables.specs.declared.value.Value.{Value}
use Rattle.object_tables.specs.Models.{ModelData, class_at, values_at}
use Rattle.key_index.specs.declared.holder.Holder.{Holder}

abbrev pub entry : ℕ → ℕ → Value → Holder
entry o p v = record { prop = record { 0 = p }; value = v; object = record { 0 = o } }

abbrev pub entries_at : ModelData → ℕ → ℕ → List Holder
entries_at m o p = map (entry o p) (values_at m o p)

-- the properties of a class, if there is one
abbrev pub props_in : MetaDesc → Option ℕ → List ℕ
props_in meta None = []
props_in meta (Some class) = props_of meta class

abbrev pub entries_of : ModelData → ℕ → List Holder
entries_of m o = flat_map (entries_at m o) (props_in m.meta (class_at m o))

abbrev pub entries : ModelData → List Holder
entries m = flat_map (entries_of m) (range_with_len 0 (length m.objects))
