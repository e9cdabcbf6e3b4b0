-- What is said of the entries over some models as they are read there, in which terms have objects (QVT 1.3, sections 7.2, 7.3 and 7.10.2; terms
-- are this engine's own).
use Rattle.std.specs.Prelude.{◌≡◌, ℕ, false, List, Some, slice_get, Contains}
use Rattle.std.specs.List.{AllZip}
use Rattle.object_tables.specs.Models.{ModelData}
use Rattle.qv_syntax.specs.declared.program.Program.{Program}
use Rattle.qv_syntax.specs.declared.program.Rel.{Rel}
use Rattle.qv_syntax.specs.declared.typed.Typed.{Typed}
use Rattle.qvtr_semantics.specs.declared.datum.Datum.{Datum}
use Rattle.qvtr_semantics.specs.Outs.{datum_of}
use Rattle.qvtr_semantics.specs.Expressions.{value_for}
use Rattle.qvtr_semantics.specs.Templates.{Values}
use Rattle.qvtr_semantics.specs.Bindings.{Source, Target}
use Rattle.qvtr_semantics.specs.Calls.{RelationCall, calls_of, free}
use Rattle.source_laws.specs.SourceValues.{IsOfSources}
use Rattle.repair_semantics.specs.declared.term.Term.{Term}
use Rattle.repair_semantics.specs.declared.term.TermValue.{TermValue}
use Rattle.repair_semantics.specs.declared.term.TermValue.TheVariants as values
use Rattle.repair_semantics.specs.declared.entry.Entry.{Entry}
use Rattle.repair_semantics.specs.declared.entry.EntryName.{EntryName}
use Rattle.repair_semantics.specs.EntryValues.{value_of, root_values, known, given_value}
use Rattle.repair_semantics.specs.TargetItems.{Content, TargetItem, target_items}
use Rattle.repair_semantics.specs.Making.{entry_known, content_value}
use Rattle.repair_semantics.specs.Unmet.{is_unmet}
use Rattle.repair_semantics.specs.Entries.{IsUniversalTarget, TermSource, AreMatches, calls_in, entry_calls, IsEntry}
use Rattle.reading_laws.specs.Readings.{Numbering, read_value, Reads, ReadsCall}
use Rattle.reading_laws.specs.ReadCalls.{IsReadCall}

-- the entry is one of the relation
pub record IsEntryOf (program : Program) (models : List ModelData) (e : Entry) (rel : Rel) : Type 0 where
  pub is : IsEntry program models e
  pub found : slice_get program.rels e.rel ≡ Some rel

-- the values of the entry are read as the binding c, and all its values as the partner g, which meets the target
pub record IsReadAs (program : Program) (models : List ModelData) (number : Numbering) (e : Entry) (rel : Rel) (c g : Values) : Type 0 where
  pub own : Reads program number e.values c
  pub all : Reads program number (entry_known program models rel e.values).values g
  pub target : Target program models rel c g

-- a term among all values of an entry that is one of these
pub record IsAmongMatches (program : Program) (models : List ModelData) (matches : List Entry) (t : Term) : Type 0 where
  pub f : Entry
  pub among : Contains matches f
  pub rel : Rel
  pub found : slice_get program.rels f.rel ≡ Some rel
  pub v : ℕ
  pub at : value_of (entry_known program models rel f.values).values v ≡ Some (values.Term t)

pub record AreEntriesRead (program : Program) (models : List ModelData) (number : Numbering) : Type 0 where
  -- no entry is unmet
  pub met : (e : Entry) (rel : Rel) → IsEntryOf program models e rel → is_unmet program models rel (entry_known program models rel e.values) ≡ false
  -- a partner of an entry's binding gives each variable the value that the entry makes
  pub partners : (e : Entry) (rel : Rel) (c g : Values) → IsEntryOf program models e rel → Reads program number e.values c → Target program models rel c g → IsReadAs program models number e rel c g
  -- the values of an entry meet the source: of one that isn't called with free roots, of a called one with the roots of the call
  pub top_source : (e : Entry) (rel : Rel) (c : Values) → IsEntryOf program models e rel → e.called ≡ false → Reads program number e.values c → Source program models rel (free rel) c
  pub called_source : (from e : Entry) (call : EntryName) (rel : Rel) (to : RelationCall) (c : Values) → IsEntry program models from → Contains (entry_calls program models from) call
      → IsEntryOf program models e rel → slice_get program.rels call.rel ≡ Some rel → TermSource program models rel (root_values rel call.roots) e.values → ReadsCall program number call to
      → Reads program number e.values c → Source program models rel to.roots c
  -- the term of a universal variable is a value of a match
  pub universal : (e : Entry) (rel : Rel) (matches : List Entry) (v : ℕ) (t : Term) → IsEntryOf program models e rel
      → AreMatches program (calls_in program models (known e.values) rel.whens) matches → ((f : Entry) → Contains matches f → IsEntry program models f)
      → IsUniversalTarget program rel v → value_of e.values v ≡ Some (values.Term t) → IsAmongMatches program models matches t
  -- the calls of an entry are those of its binding and of the partner
  pub whens : (e : Entry) (rel : Rel) (c : Values) → IsEntryOf program models e rel → Reads program number e.values c
      → AllZip (IsReadCall program number) (calls_in program models (known e.values) rel.whens) (calls_of program models c rel.whens)
  pub wheres : (e : Entry) (rel : Rel) (c g : Values) → IsEntryOf program models e rel → IsReadAs program models number e rel c g
      → AllZip (IsReadCall program number) (calls_in program models (entry_known program models rel e.values) rel.wheres) (calls_of program models g rel.wheres)
  -- what an expression of an item gives the entry, it gives the partner; no object of the target is among the data
  pub given : (e : Entry) (rel : Rel) (c g : Values) (item : TargetItem) (ex : Typed) (x : TermValue) → IsEntryOf program models e rel → IsReadAs program models number e rel c g
      → Contains (target_items program rel) item → item.content ≡ Content.expression ex → given_value program models (entry_known program models rel e.values) ex ≡ Some x
      → (d : Datum) × (read_value program number x ≡ Some d) × (datum_of (value_for program models ex g) ≡ Some d)
  pub own : (e : Entry) (rel : Rel) (item : TargetItem) (d : Datum) → IsEntryOf program models e rel → Contains (target_items program rel) item
      → content_value program models (entry_known program models rel e.values) item.content ≡ Some (values.Val d) → IsOfSources program.target d
