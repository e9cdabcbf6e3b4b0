-- What is found when a call in a where clause is explored: its entries, and the calls that they make (QVT 1.3, section 7.10.2).
use Rattle.std.specs.Prelude.{◌≡◌, ◌≢◌, ◌↔◌, false, List, map, Contains, All, AllPairs}
use Rattle.std.specs.List.{flat_map}
use Rattle.object_tables.specs.Models.{ModelData}
use Rattle.qv_syntax.specs.declared.program.Program.{Program}
use Rattle.repair_semantics.specs.declared.term.Term.{Term}
use Rattle.repair_semantics.specs.declared.entry.Entry.{Entry}
use Rattle.repair_semantics.specs.declared.entry.EntryName.{EntryName}
use Rattle.repair_semantics.specs.Entries.{IsEntry, entry_calls}
use Rattle.entry_making.specs.declared.numbered_call.NumberedCall.{NumberedCall}
use Rattle.entry_making.specs.CallNumbers.{call_of}
use Rattle.entry_finding.specs.declared.found.Found.{Found}
use Rattle.entry_finding.specs.declared.found.UnmetEntry.{UnmetEntry}
use Rattle.entry_finding.specs.Found.{entry_in, entries_in, is_entry_unmet, IsEntryWithin, IsCallWithin, MakesDemands, IsUnmetAt}
use Rattle.entry_tops.specs.declared.tops.Tops.{Tops}
use Rattle.entry_walk.specs.Walks.{IsOfCall}

-- an entry makes the call
abbrev pub IsMade : Program → List ModelData → EntryName → Type 0
IsMade program models c = (from : Entry) × IsEntry program models from × Contains (entry_calls program models from) c

-- the entries of a call are found, none of them is unmet, and the calls that they make are told in order
pub record IsExplored (program : Program) (models : List ModelData) (terms : List Term) (tops : Tops) (c : NumberedCall) (found : Found) : Type 0 where
  pub exact : (e : Entry) → Contains (entries_in terms found.entries) e ↔ IsOfCall program models (entries_in terms tops.entries) (call_of terms c) e
  pub distinct : AllPairs (λ d e. d ≢ e) (entries_in terms found.entries)
  pub met : (e : Entry) → Contains (entries_in terms found.entries) e → is_entry_unmet program models e ≡ false
  pub calls : map (call_of terms) found.calls ≡ flat_map (entry_calls program models) (entries_in terms found.entries)
  pub demands : All (MakesDemands program models terms) found.entries
  pub within : All (IsEntryWithin terms) found.entries
  pub calls_within : All (IsCallWithin terms) found.calls

-- the entry is one of the call, and is unmet
pub record IsUnmetOf (program : Program) (models : List ModelData) (terms : List Term) (tops : Tops) (c : NumberedCall) (u : UnmetEntry) : Type 0 where
  pub is : IsOfCall program models (entries_in terms tops.entries) (call_of terms c) (entry_in terms u.entry)
  pub place : IsUnmetAt program models (entry_in terms u.entry) u.place
  pub within : IsEntryWithin terms u.entry
