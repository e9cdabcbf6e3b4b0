-- What is taken of a reading, and of the entries that are read in it.
use Rattle.std.specs.Prelude.{◌≡◌, ◌<◌, ℕ, true, false, List, length, Some, slice_get}
use Rattle.mof_metamodel.specs.declared.desc.MetaDesc.{MetaDesc}
use Rattle.object_tables.specs.Models.{ModelData}
use Rattle.qv_syntax.specs.declared.program.Program.{Program}
use Rattle.qv_syntax.specs.declared.program.Rel.{Rel}
use Rattle.qvtr_semantics.specs.Expressions.{variable, scope_of}
use Rattle.qvtr_semantics.specs.Templates.{Values}
use Rattle.qvtr_semantics.specs.Bindings.{Target}
use Rattle.template_match.specs.Sources.{is_target_variable}
use Rattle.repair_semantics.specs.declared.term.Term.{Term}
use Rattle.repair_semantics.specs.declared.term.TermValue.{TermValue}
use Rattle.repair_semantics.specs.declared.entry.Entry.{Entry}
use Rattle.repair_semantics.specs.EntryValues.{value_of}
use Rattle.repair_semantics.specs.Making.{entry_known}
use Rattle.repair_semantics.specs.Unmet.{is_unmet}
use Rattle.repair_semantics.specs.Entries.{IsUniversalTarget, IsEntry}
use Rattle.reading_laws.specs.Readings.{Numbering, IsReading, AreOver, HasTermsAmong, Reads}
use Rattle.enforcement_rules.specs.Calls.{IsTaken}

pub record Ground (metas : List MetaDesc) (program : Program) (sources models : List ModelData) (m : ModelData) (terms : List Term) (number : Numbering) : Type 0 where
  pub over : AreOver metas program sources models m
  pub reading : IsReading program m terms number
  -- a universal variable for objects of the target is taken by a call in the when clause
  pub taken : (place : ℕ) (rel : Rel) → slice_get program.rels place ≡ Some rel → rel.in_direction ≡ true → (v : ℕ) → IsUniversalTarget program rel v → IsTaken program rel.whens v
  -- the terms that an entry knows are among those of the reading
  pub among : (e : Entry) (rel : Rel) → IsEntry program sources e → slice_get program.rels e.rel ≡ Some rel → HasTermsAmong program m terms rel (entry_known program sources rel e.values).values
  -- no entry is unmet
  pub met : (e : Entry) (rel : Rel) → IsEntry program sources e → slice_get program.rels e.rel ≡ Some rel → is_unmet program sources rel (entry_known program sources rel e.values) ≡ false
  -- each variable has a value in what an entry knows
  pub total : (e : Entry) (rel : Rel) → IsEntry program sources e → slice_get program.rels e.rel ≡ Some rel → (v : ℕ) → v < length rel.vars
      → (x : TermValue) × (value_of (entry_known program sources rel e.values).values v ≡ Some x)
  -- a partner of an entry, as it is read, has the values that the entry makes, and so has its scope
  pub partners : (e : Entry) (rel : Rel) → IsEntry program sources e → slice_get program.rels e.rel ≡ Some rel → (c g : Values) → Reads program number e.values c → Target program models rel c g
      → Reads program number (entry_known program sources rel e.values).values g
  pub scopes : (e : Entry) (rel : Rel) → IsEntry program sources e → slice_get program.rels e.rel ≡ Some rel → (c g : Values) → Reads program number e.values c → Target program models rel c g
      → (v : ℕ) → is_target_variable program rel v ≡ false → variable (entry_known program sources rel e.values).scope v ≡ variable (scope_of g) v
