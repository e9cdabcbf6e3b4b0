-- Models of the target in which terms have objects, and bindings over them in which values of variables are read (QVT 1.3, sections 7.2 and
-- 7.10.2; terms are this engine's own). The target as it was, with images, is one, and the model that enforcement makes is one.
use Rattle.std.specs.Prelude.{◌≡◌, ℕ, true, List, map, length, Option, None, Some, slice_get, Contains}
use Rattle.std.specs.Option.{option_map}
use Rattle.mof_metamodel.specs.declared.desc.MetaDesc.{MetaDesc}
use Rattle.mof_metamodel.specs.declared.desc.PropId.{PropId}
use Rattle.object_tables.specs.Models.{ModelData}
use Rattle.object_tables.specs.Validity.{Valid}
use Rattle.qv_syntax.specs.declared.program.Program.{Program}
use Rattle.qv_syntax.specs.declared.program.Rel.{Rel}
use Rattle.qvtr_semantics.specs.declared.datum.Datum.{Datum}
use Rattle.qvtr_semantics.specs.Objects.{conforms_at, is_kind_of, object_datum}
use Rattle.qvtr_semantics.specs.Templates.{Values, value_at}
use Rattle.qvtr_semantics.specs.Calls.{RelationCall}
use Rattle.repair_semantics.specs.declared.term.Term.{Term, out-Term}
use Rattle.repair_semantics.specs.declared.term.TermValue.{TermValue, out-TermValue}
use Rattle.repair_semantics.specs.declared.term.TermValue.TheOpen as of
use Rattle.repair_semantics.specs.declared.demand.Demand.{Demand}
use Rattle.repair_semantics.specs.declared.entry.EntryName.{EntryName}
use Rattle.repair_semantics.specs.Terms.{term_in}
use Rattle.repair_semantics.specs.EntryValues.{TermValues, value_of, term_of, root_values}
use Rattle.repair_semantics.specs.TargetItems.{target_metamodel, class_of_variable, key_of}
use Rattle.repair_semantics.specs.Claims.{Held}
use Rattle.repair_semantics.specs.Conflicts.{held_in}
use Rattle.repair_semantics.specs.Images.{holds, holds_key}
use Rattle.repair_semantics.specs.Deletions.{managed_classes}
use Rattle.repair_semantics.specs.Candidates.{held_by_number}
use Rattle.enforcement_rules.specs.Rules.{IsEnforceable}
use Rattle.source_laws.specs.Agreement.{AgreeBut}
use Rattle.evaluation_laws.specs.Evaluable.{IsEvaluable}
use Rattle.reading_laws.specs.Keyed.{TellsByKeys}

-- ---- terms

-- the number of a term's object, if it has one
abbrev pub Numbering : Type 0
Numbering = Term → Option ℕ

-- a value as a slot holds it
abbrev pub held_as : Numbering → TermValue → Option (Held ℕ)
held_as number x = held_by_number number (held_in (out-TermValue x))

-- the object is of the term's class, which has a key, and holds the term's key values
pub record HoldsKeyOf (program : Program) (m : ModelData) (number : Numbering) (t : Term) (n : ℕ) : Type 0 where
  pub props : List PropId
  pub key : key_of program (out-Term t).class.0 ≡ Some props
  pub conforms : conforms_at m (out-Term t).class.0 n ≡ true
  pub holds : holds_key program m n props (map (held_as number) (out-Term t).keys) ≡ true

-- The objects that these terms have hold their keys, two of them have two objects, those within their keys are among them, and each object of a
-- class of which enforcement makes objects is that of one of them.
pub record IsReading (program : Program) (m : ModelData) (terms : List Term) (number : Numbering) : Type 0 where
  pub holds : (t : Term) (n : ℕ) → Contains terms t → number t ≡ Some n → HoldsKeyOf program m number t n
  pub apart : (t u : Term) (n : ℕ) → Contains terms t → Contains terms u → number t ≡ Some n → number u ≡ Some n → t ≡ u
  pub within : (t : Term) (x : TermValue) (u : Term) → Contains terms t → Contains (out-Term t).keys x → term_in x ≡ Some u → Contains terms u
  pub all : (class n : ℕ) → Contains (managed_classes program) class → conforms_at m class n ≡ true → (t : Term) × Contains terms t × (number t ≡ Some n)

-- each of these terms has an object
abbrev pub HaveObjects : List Term → Numbering → Type 0
HaveObjects terms number = (t : Term) → Contains terms t → (n : ℕ) × (number t ≡ Some n)

-- ---- demands

-- the model holds what a demand says
pub record Stands (program : Program) (m : ModelData) (number : Numbering) (d : Demand) : Type 0 where
  pub owner : ℕ
  pub owner_is : number d.owner ≡ Some owner
  pub held : Held ℕ
  pub held_is : held_as number d.value ≡ Some held
  pub holds : holds program m owner d.prop.0 held ≡ true

-- all of them do
abbrev pub AllStand : Program → ModelData → Numbering → List Demand → Type 0
AllStand program m number demands = (d : Demand) → Contains demands d → Stands program m number d

-- ---- values

-- a datum as it is, and a term by its object
abbrev pub read_part : Program → Numbering → of.TermValue-F TermValue Term → Option Datum
read_part program number (of.Val d) = Some d
read_part program number (of.Term t) = option_map (λ n. object_datum program.target n) (number t)

abbrev pub read_value : Program → Numbering → TermValue → Option Datum
read_value program number x = read_part program number (out-TermValue x)

-- a binding over the models has the values of the variables, each as it is read, and no others
pub record Reads (program : Program) (number : Numbering) (b : TermValues) (c : Values) : Type 0 where
  pub places : length c ≡ length b
  pub given : (v : ℕ) (x : TermValue) → value_of b v ≡ Some x → (d : Datum) × (value_at c v ≡ Some d) × (read_value program number x ≡ Some d)
  pub none : (v : ℕ) → value_of b v ≡ None → value_at c v ≡ None

-- each term that a variable has is among these, and of a class that is a kind of the variable's
pub record HasTermsAmong (program : Program) (m : ModelData) (terms : List Term) (rel : Rel) (b : TermValues) : Type 0 where
  pub among : (v : ℕ) (t : Term) → term_of b v ≡ Some t → Contains terms t
  pub typed : (v : ℕ) (t : Term) (class : ℕ) → term_of b v ≡ Some t → class_of_variable rel v ≡ Some class → is_kind_of m.meta (out-Term t).class.0 class ≡ true

-- a call over the models is one between entries, as it is read
pub record ReadsCall (program : Program) (number : Numbering) (from : EntryName) (to : RelationCall) : Type 0 where
  pub rel : to.rel ≡ from.rel
  pub roots : (called : Rel) → slice_get program.rels from.rel ≡ Some called → Reads program number (root_values called from.roots) to.roots

-- ---- models

-- The program may be enforced, and is evaluated over these models, of which m is the target, while its entries are those over the sources: both
-- have the same models but for the target, and that has the same metamodel.
pub record AreOver (metas : List MetaDesc) (program : Program) (sources models : List ModelData) (m : ModelData) : Type 0 where
  pub enforceable : IsEnforceable metas program
  pub evaluable : IsEvaluable metas program models
  pub over_sources : IsEvaluable metas program sources
  pub others : AgreeBut program.target sources models
  pub target : slice_get models program.target ≡ Some m
  pub metamodel : target_metamodel program sources ≡ m.meta
  pub valid : Valid m
  pub tells : TellsByKeys program m
