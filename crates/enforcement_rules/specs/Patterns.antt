-- What the target domain and the where clause of a relation have to be so that they say all of the target (QVT 1.3, sections 7.10.2 and
-- 7.11.2).
use Rattle.std.specs.Prelude.{◌≡◌, ◌≢◌, ℕ, List, Option, Some, false, Contains}
use Rattle.mof_metamodel.specs.declared.desc.MetaDesc.{MetaDesc}
use Rattle.mof_metamodel.specs.declared.desc.ClassId.{ClassId}
use Rattle.mof_metamodel.specs.declared.desc.PropId.{PropId}
use Rattle.mof_metamodel.specs.declared.desc.PropType.{PropType}
use Rattle.mof_metamodel.specs.Metamodels.{class_at, type_of}
use Rattle.qv_syntax.specs.declared.ty.Ty.{Ty}
use Rattle.qv_syntax.specs.declared.ty.Ty.TheVariants as types
use Rattle.qv_syntax.specs.declared.typed.Typed.{Typed}
use Rattle.qv_syntax.specs.declared.typed.Node.TheVariants as nodes
use Rattle.qv_syntax.specs.declared.program.Program.{Program}
use Rattle.qv_syntax.specs.declared.program.Rel.{Rel}
use Rattle.qv_syntax.specs.declared.program.Dom.{Dom}
use Rattle.qv_syntax.specs.declared.program.Marker.TheVariants as markers
use Rattle.qv_syntax.specs.declared.program.Tmpl.{Tmpl, out-Tmpl}
use Rattle.qv_syntax.specs.declared.program.Item.{Item}
use Rattle.qv_syntax.specs.declared.program.ItemValue.TheVariants as items
use Rattle.qv_syntax.specs.declared.program.Conj.{Conj}
use Rattle.qv_syntax.specs.declared.program.Conj.TheVariants as conjuncts
use Rattle.qv_syntax.specs.Parts.{HasItem}
use Rattle.qv_syntax.specs.Relations.{IsTargetDomain, IsUniversal, IsDataVariable}
use Rattle.ocl_environments.specs.Environments.{meta_at}
use Rattle.ocl_environments.specs.Conformance.{TypeConforms}
use Rattle.ocl_environments.specs.Navigation.{value_type}
use Rattle.enforcement_rules.specs.declared.standing.Place.{Place}
use Rattle.enforcement_rules.specs.KnownVariables.{NamesOf, IsKnown}
use Rattle.enforcement_rules.specs.TargetParts.{IsObjectVariable, IsTargetVariable, IsTargetTemplate, target_meta, target_desc}

-- E1: its target domain is marked enforce
pub record IsUnmarked (program : Program) (rel : Rel) : Type 0 where
  pub dom : Dom
  pub of : IsTargetDomain program rel dom
  pub other : dom.marker ≢ markers.Enforce

-- ---- E3

-- each variable of the relation that the expression names is known
abbrev pub IsOverKnown : Program → Rel → Typed → Type 0
IsOverKnown program rel e = (v : ℕ) → NamesOf rel e v → IsKnown program rel v

-- a conjunct of where is a call, an equation for an existential data variable, or a condition over known variables
abbrev pub IsSettledConjunct : Program → Rel → Conj → Type 0
IsSettledConjunct program rel (conjuncts.Cond e) = IsOverKnown program rel e
IsSettledConjunct program rel (conjuncts.Equation v e) = IsDataVariable rel v × (¬ IsUniversal program rel v)
IsSettledConjunct program rel (conjuncts.Call number args) = Unit {0}

-- objects of the type may stand at the property of the metamodel of this number: the type conforms to that of the property's values
pub record FitsProperty (metas : List MetaDesc) (meta : ℕ) (prop : PropId) (ty : Ty) : Type 0 where
  pub of : PropType
  pub typed : type_of (meta_at metas meta) prop.0 ≡ Some of
  pub conforms : TypeConforms metas ty (value_type meta of)

-- An item of a target template is a nested template or a target object variable alone, of a class that fits the property, or a data
-- expression over known variables, and never `null`.
pub data IsSettledItem (metas : List MetaDesc) (program : Program) (rel : Rel) (item : Item) : Type 0 where
  nested : (part : Tmpl) → item.value ≡ items.Nested part
      → FitsProperty metas (target_meta program) item.prop (types.Class (target_meta program) (out-Tmpl part).class) → IsSettledItem metas program rel item
  object : (v meta : ℕ) (class : ClassId) → item.value ≡ items.Expr (record { ty = types.Class meta class; node = nodes.Variable v })
      → IsTargetVariable program rel v → FitsProperty metas (target_meta program) item.prop (types.Class meta class) → IsSettledItem metas program rel item
  data_value : (e : Typed) → item.value ≡ items.Expr e → ((meta : ℕ) (class : ClassId) → e.ty ≢ types.Class meta class) → IsOverKnown program rel e
      → IsSettledItem metas program rel item

-- E3: each conjunct of where and each item of a target template is settled
pub data HasUnsettledPart (metas : List MetaDesc) (program : Program) (rel : Rel) : Type 0 where
  conjunct : (c : Conj) → Contains rel.wheres c → ¬ IsSettledConjunct program rel c → HasUnsettledPart metas program rel
  item : (t : Tmpl) (at : Option Place) (item : Item) → IsTargetTemplate program rel t at → HasItem t item → ¬ IsSettledItem metas program rel item
      → HasUnsettledPart metas program rel

-- ---- E4

-- the root of the target domain, in a relation that isn't top: its caller hands it on
pub record IsHandedOn (program : Program) (rel : Rel) (v : ℕ) : Type 0 where
  pub called : rel.top ≡ false
  pub dom : Dom
  pub of : IsTargetDomain program rel dom
  pub root : dom.root ≡ v

-- a variable of the target model with a target template of a concrete class
pub record HasConcreteTemplate (metas : List MetaDesc) (program : Program) (rel : Rel) (v : ℕ) : Type 0 where
  pub of_target : IsTargetVariable program rel v
  pub t : Tmpl
  pub at : Option Place
  pub is : IsTargetTemplate program rel t at
  pub var : (out-Tmpl t).var ≡ v
  pub concrete : (class_at (target_desc metas program) (out-Tmpl t).class.0).is_abstract ≡ false

-- E4: each existential object variable belongs to the target model and has a target template of a concrete class
pub record HasUnmadeObject (metas : List MetaDesc) (program : Program) (rel : Rel) : Type 0 where
  pub v : ℕ
  pub object : IsObjectVariable rel v
  pub existential : ¬ IsUniversal program rel v
  pub own : ¬ IsHandedOn program rel v
  pub unmade : ¬ HasConcreteTemplate metas program rel v
