-- What values the roots of an entry have: those of the domains of its relation alone, terms for objects of the target and data for others, and
-- in a relation that isn't top all that its caller hands on (QVT 1.3, sections 7.10.2 and 7.11.1.4; terms are this engine's own).
use Rattle.std.specs.Prelude.{◌≡◌, ℕ, true, false, List, Some, Contains}
use Rattle.mof_metamodel.specs.declared.desc.MetaDesc.{MetaDesc}
use Rattle.object_tables.specs.Models.{ModelData}
use Rattle.qv_syntax.specs.declared.program.Program.{Program}
use Rattle.qv_syntax.specs.declared.program.Rel.{Rel}
use Rattle.qv_syntax.specs.declared.program.Dom.{Dom}
use Rattle.qv_syntax.specs.Relations.{IsTargetDomain}
use Rattle.qvtr_semantics.specs.declared.datum.Datum.{Datum}
use Rattle.qvtr_semantics.specs.Expressions.{setting}
use Rattle.template_match.specs.Sources.{is_target_variable}
use Rattle.evaluation_laws.specs.Scopes.{AreRootsGiven}
use Rattle.repair_semantics.specs.declared.term.Term.{Term}
use Rattle.repair_semantics.specs.declared.term.TermValue.{TermValue}
use Rattle.repair_semantics.specs.declared.term.TermValue.TheVariants as values
use Rattle.repair_semantics.specs.EntryValues.{TermValues, value_of, data_in}

pub record HasRootsOf (metas : List MetaDesc) (program : Program) (sources : List ModelData) (rel : Rel) (roots : TermValues) : Type 0 where
  -- only roots of domains have values
  pub of_domains : (v : ℕ) (x : TermValue) → value_of roots v ≡ Some x → (dom : Dom) × Contains rel.domains dom × (dom.root ≡ v)
  -- a datum is of no variable for objects of the target, and a term of one
  pub data_values : (v : ℕ) (d : Datum) → value_of roots v ≡ Some (values.Val d) → is_target_variable program rel v ≡ false
  pub terms : (v : ℕ) (t : Term) → value_of roots v ≡ Some (values.Term t) → is_target_variable program rel v ≡ true
  -- the caller gives data of their types, and the root of the target domain
  pub given : rel.top ≡ false → AreRootsGiven metas (setting program sources) rel (data_in roots)
  pub handed : rel.top ≡ false → (dom : Dom) → IsTargetDomain program rel dom → (t : Term) × (value_of roots dom.root ≡ Some (values.Term t))
