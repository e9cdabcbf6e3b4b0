-- A partner over the models of the binding of an entry (QVT 1.3, section 7.2.1; entries and terms are this engine's own).
use Rattle.std.specs.Prelude.{◌≡◌, ℕ, true, List, Some, slice_get, Contains}
use Rattle.mof_metamodel.specs.declared.desc.MetaDesc.{MetaDesc}
use Rattle.object_tables.specs.Models.{ModelData}
use Rattle.qv_syntax.specs.declared.program.Program.{Program}
use Rattle.qv_syntax.specs.declared.program.Rel.{Rel}
use Rattle.qvtr_semantics.specs.Templates.{Values}
use Rattle.qvtr_semantics.specs.Bindings.{Target}
use Rattle.repair_semantics.specs.declared.term.Term.{Term}
use Rattle.repair_semantics.specs.EntryValues.{TermValues, term_of}
use Rattle.repair_semantics.specs.Entries.{TermSource}
use Rattle.reading_laws.specs.Readings.{Numbering, IsReading, AreOver, Reads}
use Rattle.reading_laws.specs.Roots.{HasRootsOf}

-- b is the binding of an entry of a relation of the direction, with these roots, whose terms are among those of the reading; c is that binding as
-- it is read, and g a partner of it
pub record HasPartner (metas : List MetaDesc) (program : Program) (sources models : List ModelData) (m : ModelData) (terms : List Term) (number : Numbering) (rel : Rel) (roots b : TermValues) (c g : Values) : Type 0 where
  pub over : AreOver metas program sources models m
  pub reading : IsReading program m terms number
  pub place : ℕ
  pub found : slice_get program.rels place ≡ Some rel
  pub direction : rel.in_direction ≡ true
  pub source : TermSource program sources rel roots b
  pub rooted : HasRootsOf metas program sources rel roots
  pub among : (v : ℕ) (t : Term) → term_of b v ≡ Some t → Contains terms t
  pub reads : Reads program number b c
  pub target : Target program models rel c g
