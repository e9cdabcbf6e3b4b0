-- The order of entries, and the list of all (their order is this engine's own).
use Rattle.std.specs.Prelude.{List, Contains}
use Rattle.std.specs.Option.{option_cmp}
use Rattle.std.specs.List.Sorted.{IsStrictlySortedBy}
use Rattle.std.specs.Cmp.Lexicographic.{slice_cmp}
use Rattle.std.specs.Ordering.{nat_cmp, bool_cmp, ordering_then}
use Rattle.std.specs.declared.cmp.Ordering.{Ordering}
use Rattle.object_tables.specs.Models.{ModelData}
use Rattle.qv_syntax.specs.declared.program.Program.{Program}
use Rattle.repair_semantics.specs.declared.entry.Entry.{Entry}
use Rattle.repair_semantics.specs.Terms.{value_order}
use Rattle.repair_semantics.specs.EntryValues.{TermValues}
use Rattle.repair_semantics.specs.Entries.{IsEntry}

-- in the order of the variables; where one has no value it comes before each value
abbrev pub values_order : TermValues → TermValues → Ordering
values_order = slice_cmp (option_cmp value_order)

-- by relation, then by the values; of equal ones the one that isn't called comes first
abbrev pub entry_order : Entry → Entry → Ordering
entry_order e f = ordering_then (nat_cmp e.rel f.rel) (ordering_then (values_order e.values f.values) (bool_cmp e.called f.called))

-- the list of all entries in order
pub record AreEntries (program : Program) (models : List ModelData) (entries : List Entry) : Type 0 where
  pub sorted : IsStrictlySortedBy entry_order entries
  pub only : (e : Entry) → Contains entries e → IsEntry program models e
  pub all : (e : Entry) → IsEntry program models e → Contains entries e
