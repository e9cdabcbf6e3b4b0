-- What is asked of the entries of a program, and of a reading of their terms (QVT 1.3, sections 7.2 and 7.10.2; entries, terms and chains that
-- are refused are this engine's own).
use Rattle.std.specs.Prelude.{◌≡◌, ℕ, false, List, Some, slice_get}
use Rattle.object_tables.specs.Models.{ModelData}
use Rattle.qv_syntax.specs.declared.program.Program.{Program}
use Rattle.qv_syntax.specs.declared.program.Rel.{Rel}
use Rattle.repair_semantics.specs.declared.term.Term.{Term}
use Rattle.repair_semantics.specs.declared.entry.Entry.{Entry}
use Rattle.repair_semantics.specs.declared.entry.EntryName.{EntryName}
use Rattle.repair_semantics.specs.Making.{entry_known}
use Rattle.repair_semantics.specs.Unmet.{is_unmet}
use Rattle.repair_semantics.specs.Entries.{IsEntry}
use Rattle.repair_semantics.specs.EntryChains.{CyclicEntries, DeepEntries}
use Rattle.repair_semantics.specs.Demands.{entry_demands}
use Rattle.reading_laws.specs.Readings.{Numbering, AllStand, HasTermsAmong}

-- each term that an entry knows is among these, and of a class that is a kind of its variable's
abbrev pub EntriesHaveTerms : Program → List ModelData → ModelData → List Term → Type 0
EntriesHaveTerms program sources m terms = (e : Entry) (rel : Rel) → IsEntry program sources e → slice_get program.rels e.rel ≡ Some rel
    → HasTermsAmong program m terms rel (entry_known program sources rel e.values).values

-- none is unmet, be it called in time or not
abbrev pub EntriesAreMet : Program → List ModelData → Type 0
EntriesAreMet program sources = (e : Entry) (rel : Rel) → IsEntry program sources e → slice_get program.rels e.rel ≡ Some rel
    → is_unmet program sources rel (entry_known program sources rel e.values) ≡ false

-- the demands of each stand in the model
abbrev pub EntriesStand : Program → List ModelData → ModelData → Numbering → Type 0
EntriesStand program sources m number = (e : Entry) → IsEntry program sources e → (k : ℕ) × AllStand program m number (entry_demands program sources k e)

-- no chain of calls between entries comes back to a call, and none is too long
pub record HasNoBadChain (program : Program) (sources : List ModelData) : Type 0 where
  pub no_cycle : (chain : List EntryName) → ¬ CyclicEntries program sources chain
  pub no_deep : (chain : List EntryName) → ¬ DeepEntries program sources chain
