-- What is found of a relation with some roots: its entries by the numbers of terms, the calls that they make and what their items demand, or an
-- entry that is unmet (QVT 1.3, sections 7.2, 7.3 and 7.10.2; entries and terms by number are this engine's own).
use Rattle.std.specs.Prelude.{◌≡◌, ◌≢◌, ◌↔◌, ◌<◌, ℕ, Bool, true, false, List, map, length, Some, slice_get, Contains, All, AllPairs}
use Rattle.std.specs.List.{flat_map}
use Rattle.std.specs.Option.{option_map_or}
use Rattle.mof_metamodel.specs.declared.desc.MetaDesc.{MetaDesc}
use Rattle.object_tables.specs.Models.{ModelData}
use Rattle.qv_syntax.specs.declared.program.Program.{Program}
use Rattle.qv_syntax.specs.declared.program.Rel.{Rel}
use Rattle.repair_semantics.specs.declared.term.Term.{Term}
use Rattle.repair_semantics.specs.declared.entry.Entry.{Entry}
use Rattle.repair_semantics.specs.declared.entry.EntryName.{EntryName}
use Rattle.repair_semantics.specs.declared.entry.Place.{Place}
use Rattle.repair_semantics.specs.EntryValues.{TermValues}
use Rattle.repair_semantics.specs.Making.{entry_known}
use Rattle.repair_semantics.specs.Unmet.{unmet_at, is_unmet}
use Rattle.repair_semantics.specs.Entries.{entry_of, entry_calls}
use Rattle.repair_semantics.specs.Demands.{entry_demands}
use Rattle.reading_laws.specs.Roots.{HasRootsOf}
use Rattle.term_table.specs.TermTables.{values_in, IsWithin}
use Rattle.entry_making.specs.declared.item_demand.ItemDemand.{ItemDemand}
use Rattle.entry_making.specs.declared.numbered_call.NumberedCall.{NumberedCall}
use Rattle.entry_making.specs.Numbered.{IsValueWithin}
use Rattle.entry_making.specs.CallNumbers.{call_of}
use Rattle.entry_making.specs.DemandNumbers.{demand_of}
use Rattle.entry_bindings.specs.Asked.{HasPrimitiveRoots, IsEntryBinding}
use Rattle.entry_finding.specs.declared.numbered_entry.NumberedEntry.{NumberedEntry}
use Rattle.entry_finding.specs.declared.found.Found.{Found}
use Rattle.entry_finding.specs.declared.found.UnmetEntry.{UnmetEntry}
use Rattle.entry_finding.specs.declared.found.Finding.{Finding}
use Rattle.entry_finding.specs.declared.found.Finding.TheVariants as findings

-- ---- what numbers stand for

-- the entry with terms for the numbers
abbrev pub entry_in : List Term → NumberedEntry → Entry
entry_in terms e = record { rel = e.rel; called = e.called; values = values_in terms e.values; made = values_in terms e.made }

abbrev pub entries_in : List Term → List NumberedEntry → List Entry
entries_in terms es = map (entry_in terms) es

-- a demand of a term of the table, that it has a datum or a term of the table
pub record IsDemandWithin (terms : List Term) (d : ItemDemand) : Type 0 where
  pub owner : d.owner < length terms
  pub value : IsWithin terms d.value

-- each term of an entry is one of the table
pub record IsEntryWithin (terms : List Term) (e : NumberedEntry) : Type 0 where
  pub values : All (IsValueWithin terms) e.values
  pub made : All (IsValueWithin terms) e.made
  pub demands : All (IsDemandWithin terms) e.demands

-- each term of a call is one of the table
abbrev pub IsCallWithin : List Term → NumberedCall → Type 0
IsCallWithin terms c = All (IsWithin terms) c.roots

-- ---- one entry

-- the entry is unmet
abbrev pub is_entry_unmet : Program → List ModelData → Entry → Bool
is_entry_unmet program models e = option_map_or (λ rel. is_unmet program models rel (entry_known program models rel e.values)) (slice_get program.rels e.rel) false

-- this is the first place in text order at which the entry is unmet
pub record IsUnmetAt (program : Program) (models : List ModelData) (e : Entry) (place : Place) : Type 0 where
  pub rel : Rel
  pub found : slice_get program.rels e.rel ≡ Some rel
  pub first : unmet_at program models rel (entry_known program models rel e.values) ≡ Some place

-- its demands are those of the entry
abbrev pub MakesDemands : Program → List ModelData → List Term → NumberedEntry → Type 0
MakesDemands program models terms e = (number : ℕ) → map (demand_of terms number) e.demands ≡ entry_demands program models number (entry_in terms e)

-- ---- the entries of a relation with some roots

-- the relation is one of the direction, there is a place for each of its variables, and these are roots that its entries may have
pub record IsSought (metas : List MetaDesc) (program : Program) (models : List ModelData) (number : ℕ) (roots : TermValues) : Type 0 where
  pub rel : Rel
  pub found : slice_get program.rels number ≡ Some rel
  pub direction : rel.in_direction ≡ true
  pub places : length roots ≡ length rel.vars
  pub has : HasRootsOf metas program models rel roots
  pub primitive : HasPrimitiveRoots rel roots

-- the entry of a binding of the relation with these roots, whose calls in the when clause are among these names
pub record IsEntryAmong (program : Program) (models : List ModelData) (names : List EntryName) (number : ℕ) (called : Bool) (roots : TermValues) (e : Entry) : Type 0 where
  pub rel : Rel
  pub found : slice_get program.rels number ≡ Some rel
  pub binding : IsEntryBinding program models rel names roots e.values
  pub is : e ≡ entry_of program models number rel called e.values

-- these are all of them, each once, and none is unmet; with the calls that they make, in the order of the entries and of the text
pub record AreFound (program : Program) (models : List ModelData) (terms : List Term) (names : List EntryName) (number : ℕ) (called : Bool) (roots : TermValues) (found : Found) : Type 0 where
  pub exact : (e : Entry) → Contains (entries_in terms found.entries) e ↔ IsEntryAmong program models names number called roots e
  pub distinct : AllPairs (λ d e. d ≢ e) (entries_in terms found.entries)
  pub met : (e : Entry) → Contains (entries_in terms found.entries) e → is_entry_unmet program models e ≡ false
  pub calls : map (call_of terms) found.calls ≡ flat_map (entry_calls program models) (entries_in terms found.entries)
  pub demands : All (MakesDemands program models terms) found.entries
  pub within : All (IsEntryWithin terms) found.entries
  pub calls_within : All (IsCallWithin terms) found.calls

-- one of them is unmet, at this place
pub record IsUnmetAmong (program : Program) (models : List ModelData) (terms : List Term) (names : List EntryName) (number : ℕ) (called : Bool) (roots : TermValues) (u : UnmetEntry) : Type 0 where
  pub among : IsEntryAmong program models names number called roots (entry_in terms u.entry)
  pub place : IsUnmetAt program models (entry_in terms u.entry) u.place
  pub within : IsEntryWithin terms u.entry

-- where all of them are met
abbrev pub IfMet : (Found → Type 0) → Finding → Type 0
IfMet P (findings.Met found) = P found
IfMet P (findings.Unmet u) = Unit {0}

-- where one of them is unmet
abbrev pub IfUnmet : (UnmetEntry → Type 0) → Finding → Type 0
IfUnmet P (findings.Met found) = Unit {0}
IfUnmet P (findings.Unmet u) = P u
