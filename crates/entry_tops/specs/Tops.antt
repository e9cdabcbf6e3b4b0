-- The entries of top relations (QVT 1.3, sections 7.2 and 7.10.2; entries, and terms by number, are this engine's own).
use Rattle.std.specs.Prelude.{◌≡◌, ◌≢◌, ℕ, false, List, map, Contains, All, AllPairs}
use Rattle.std.specs.List.{flat_map}
use Rattle.object_tables.specs.Models.{ModelData}
use Rattle.qv_syntax.specs.declared.program.Program.{Program}
use Rattle.qv_syntax.specs.declared.program.Rel.{Rel}
use Rattle.qvtr_semantics.specs.Satisfaction.{IsTop}
use Rattle.repair_semantics.specs.declared.term.Term.{Term}
use Rattle.repair_semantics.specs.declared.entry.Entry.{Entry}
use Rattle.repair_semantics.specs.EntryValues.{no_values}
use Rattle.repair_semantics.specs.Entries.{IsEntry, IsEntryWith, entry_calls}
use Rattle.entry_making.specs.CallNumbers.{call_of}
use Rattle.entry_bindings.specs.Matches.{names_in, AreNamesOf}
use Rattle.entry_bindings.specs.Asked.{AreMatchesWithin}
use Rattle.entry_finding.specs.declared.found.UnmetEntry.{UnmetEntry}
use Rattle.entry_finding.specs.Found.{entry_in, entries_in, is_entry_unmet, IsUnmetAt, IsEntryWithin, IsCallWithin, MakesDemands}
use Rattle.entry_tops.specs.declared.tops.Tops.{Tops}
use Rattle.entry_tops.specs.declared.tops.TopsEnd.{TopsEnd}
use Rattle.entry_tops.specs.declared.tops.TopsEnd.TheVariants as ends

-- the entry is one of a top relation, whose calls in the when clause have their matches among these
pub record IsTopBy (program : Program) (models : List ModelData) (tops : List Entry) (e : Entry) : Type 0 where
  pub number : ℕ
  pub rel : Rel
  pub top : IsTop program number rel
  pub matches : List Entry
  pub is : IsEntryWith program models number rel false (no_values rel) matches e
  pub among : (m : Entry) → Contains matches m → Contains tops m

-- all entries of top relations, of which none is unmet, with their names, the calls that they make and what they demand
pub record AreTopsFound (program : Program) (models : List ModelData) (terms : List Term) (tops : Tops) : Type 0 where
  pub only : (e : Entry) → Contains (entries_in terms tops.entries) e → IsEntry program models e × (e.called ≡ false)
  pub all : (e : Entry) → IsTopBy program models (entries_in terms tops.entries) e → Contains (entries_in terms tops.entries) e
  pub names : AreNamesOf program (names_in terms tops.matches) (entries_in terms tops.entries)
  pub names_within : AreMatchesWithin terms tops.matches
  pub distinct : AllPairs (λ d e. d ≢ e) (entries_in terms tops.entries)
  pub met : (e : Entry) → Contains (entries_in terms tops.entries) e → is_entry_unmet program models e ≡ false
  pub calls : map (call_of terms) tops.calls ≡ flat_map (entry_calls program models) (entries_in terms tops.entries)
  pub demands : All (MakesDemands program models terms) tops.entries
  pub within : All (IsEntryWithin terms) tops.entries
  pub calls_within : All (IsCallWithin terms) tops.calls

-- an entry of a top relation that is unmet, and the first place where
pub record IsUnmetTop (program : Program) (models : List ModelData) (terms : List Term) (u : UnmetEntry) : Type 0 where
  pub is : IsEntry program models (entry_in terms u.entry)
  pub top : u.entry.called ≡ false
  pub place : IsUnmetAt program models (entry_in terms u.entry) u.place
  pub within : IsEntryWithin terms u.entry

-- ---- what a search ends with

abbrev pub IfTopsMet : (Tops → Type 0) → TopsEnd → Type 0
IfTopsMet P (ends.Met tops) = P tops
IfTopsMet P (ends.Unmet u) = Unit {0}

abbrev pub IfTopsUnmet : (UnmetEntry → Type 0) → TopsEnd → Type 0
IfTopsUnmet P (ends.Met tops) = Unit {0}
IfTopsUnmet P (ends.Unmet u) = P u
