-- One top relation after another: what is found for each is put behind the others (QVT 1.3, sections 7.2 and 7.10.2; entries are this engine's
-- own).
use Rattle.std.specs.Prelude.{◌≡◌, ◌≢◌, ℕ, false, List, ◌++◌, map, Some, slice_get, Contains, All, AllPairs}
use Rattle.std.specs.List.{flat_map}
use Rattle.object_tables.specs.Models.{ModelData}
use Rattle.qv_syntax.specs.declared.program.Program.{Program}
use Rattle.qv_syntax.specs.declared.program.Rel.{Rel}
use Rattle.qv_syntax.specs.declared.program.Dom.{Dom}
use Rattle.repair_semantics.specs.declared.term.Term.{Term}
use Rattle.repair_semantics.specs.declared.entry.Entry.{Entry}
use Rattle.repair_semantics.specs.EntryValues.{no_values}
use Rattle.repair_semantics.specs.Entries.{IsEntry, entry_calls}
use Rattle.entry_making.specs.CallNumbers.{call_of}
use Rattle.entry_bindings.specs.Matches.{names_in, AreNamesOf}
use Rattle.entry_bindings.specs.Asked.{AreMatchesWithin}
use Rattle.entry_finding.specs.declared.found.Found.{Found}
use Rattle.entry_finding.specs.declared.found.UnmetEntry.{UnmetEntry}
use Rattle.entry_finding.specs.Found.{entries_in, is_entry_unmet, IsEntryWithin, IsCallWithin, MakesDemands, AreFound, IsUnmetAmong}
use Rattle.entry_tops.specs.declared.tops.Tops.{Tops}
use Rattle.entry_tops.specs.Tops.{IsTopBy}
use Rattle.entry_tops.specs.EntryNames.{HasNamesOf}

-- with what was found for a relation with these domains behind the others
pub record IsWithFound (doms : List Dom) (found : Found) (before after : Tops) : Type 0 where
  pub entries : after.entries ≡ before.entries ++ found.entries
  pub calls : after.calls ≡ before.calls ++ found.calls
  pub matches : HasNamesOf doms found.entries before.matches after.matches

-- with the entries of the top relation of this number behind the others
pub record IsWithRelation (program : Program) (models : List ModelData) (terms : List Term) (number : ℕ) (before after : Tops) : Type 0 where
  pub rel : Rel
  pub at : slice_get program.rels number ≡ Some rel
  pub found : Found
  pub are : AreFound program models terms (names_in terms before.matches) number false (no_values rel) found
  pub put : IsWithFound rel.domains found before after

-- an entry of the top relation of this number is unmet
pub record IsUnmetWith (program : Program) (models : List ModelData) (terms : List Term) (number : ℕ) (before : Tops) (u : UnmetEntry) : Type 0 where
  pub rel : Rel
  pub at : slice_get program.rels number ≡ Some rel
  pub among : IsUnmetAmong program models terms (names_in terms before.matches) number false (no_values rel) u

-- ---- where some relations are done

-- the entries of the top relations of these numbers
pub record AreTopsOf (program : Program) (models : List ModelData) (done : List ℕ) (entries : List Entry) : Type 0 where
  pub only : (e : Entry) → Contains entries e → IsEntry program models e × (e.called ≡ false)
  pub of_done : (e : Entry) → Contains entries e → Contains done e.rel
  pub all : (e : Entry) (by : IsTopBy program models entries e) → Contains done by.number → Contains entries e

-- the entries of the top relations of these numbers, of which none is unmet, with their names, the calls that they make and what they demand
pub record AreTopsUpTo (program : Program) (models : List ModelData) (terms : List Term) (done : List ℕ) (tops : Tops) : Type 0 where
  pub are : AreTopsOf program models done (entries_in terms tops.entries)
  pub names : AreNamesOf program (names_in terms tops.matches) (entries_in terms tops.entries)
  pub names_within : AreMatchesWithin terms tops.matches
  pub distinct : AllPairs (λ d e. d ≢ e) (entries_in terms tops.entries)
  pub met : (e : Entry) → Contains (entries_in terms tops.entries) e → is_entry_unmet program models e ≡ false
  pub calls : map (call_of terms) tops.calls ≡ flat_map (entry_calls program models) (entries_in terms tops.entries)
  pub demands : All (MakesDemands program models terms) tops.entries
  pub within : All (IsEntryWithin terms) tops.entries
  pub calls_within : All (IsCallWithin terms) tops.calls
