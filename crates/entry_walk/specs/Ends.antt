-- What the end of a walk over the calls of entries tells (QVT 1.3, sections 7.2 and 7.10.2; entries, and what is refused, are this
-- engine's own).
use Rattle.std.specs.Prelude.{◌≡◌, ◌≢◌, ◌↔◌, false, List, map, Contains, All, AllPairs}
use Rattle.object_tables.specs.Models.{ModelData}
use Rattle.qv_syntax.specs.declared.program.Program.{Program}
use Rattle.repair_semantics.specs.declared.term.Term.{Term}
use Rattle.repair_semantics.specs.declared.entry.Entry.{Entry}
use Rattle.repair_semantics.specs.declared.entry.EntryName.{EntryName}
use Rattle.repair_semantics.specs.Entries.{IsEntry}
use Rattle.repair_semantics.specs.EntryChains.{CyclicEntries, DeepEntries, IsUnmet}
use Rattle.entry_making.specs.CallNumbers.{call_of}
use Rattle.entry_finding.specs.declared.numbered_entry.NumberedEntry.{NumberedEntry}
use Rattle.entry_finding.specs.Found.{entry_in, entries_in, is_entry_unmet, IsEntryWithin, IsCallWithin, MakesDemands, IsUnmetAt}
use Rattle.entry_walk.specs.declared.ends.WalkEnd.{WalkEnd}
use Rattle.entry_walk.specs.declared.ends.WalkEnd.TheVariants as ends

-- these are all entries, each once; no chain over them is cyclic or too long, and none of them is unmet
pub record AreAllEntries (program : Program) (models : List ModelData) (terms : List Term) (es : List NumberedEntry) : Type 0 where
  pub exact : (e : Entry) → IsEntry program models e ↔ Contains (entries_in terms es) e
  pub distinct : AllPairs (λ d e. d ≢ e) (entries_in terms es)
  pub acyclic : (chain : List EntryName) → ¬ CyclicEntries program models chain
  pub short : (chain : List EntryName) → ¬ DeepEntries program models chain
  pub met : (e : Entry) → ¬ IsUnmet program models e
  pub unmet_none : (e : Entry) → Contains (entries_in terms es) e → is_entry_unmet program models e ≡ false
  pub demands : All (MakesDemands program models terms) es
  pub within : All (IsEntryWithin terms) es

-- all entries, or one chain or entry that is refused
abbrev pub IsWalkEnd : Program → List ModelData → List Term → WalkEnd → Type 0
IsWalkEnd program models terms (ends.Whole es) = AreAllEntries program models terms es
IsWalkEnd program models terms (ends.Cycle chain) = CyclicEntries program models (map (call_of terms) chain) × All (IsCallWithin terms) chain
IsWalkEnd program models terms (ends.Deep chain) = DeepEntries program models (map (call_of terms) chain) × All (IsCallWithin terms) chain
IsWalkEnd program models terms (ends.Unmet u) = IsUnmet program models (entry_in terms u.entry) × IsUnmetAt program models (entry_in terms u.entry) u.place × IsEntryWithin terms u.entry
