-- What the keys of the target's classes have to be so that each object that a relation makes is told by them (QVT 1.3, section 7.10.2).
use Rattle.std.specs.Prelude.{◌≡◌, ◌≢◌, ◌<◌, ℕ, List, Option, Some, false, slice_get, Contains}
use Rattle.mof_metamodel.specs.declared.desc.MetaDesc.{MetaDesc}
use Rattle.mof_metamodel.specs.declared.desc.ClassId.{ClassId}
use Rattle.mof_metamodel.specs.declared.desc.PropId.{PropId}
use Rattle.mof_metamodel.specs.Metamodels.{class_count, prop_at, opposite_of, Conforms}
use Rattle.qv_syntax.specs.declared.typed.Typed.{Typed}
use Rattle.qv_syntax.specs.declared.program.Program.{Program}
use Rattle.qv_syntax.specs.declared.program.Rel.{Rel}
use Rattle.qv_syntax.specs.declared.program.Key.{Key}
use Rattle.qv_syntax.specs.declared.program.Tmpl.{Tmpl, out-Tmpl}
use Rattle.qv_syntax.specs.declared.program.Item.{Item}
use Rattle.qv_syntax.specs.declared.program.ItemValue.{ItemValue}
use Rattle.qv_syntax.specs.declared.program.ItemValue.TheVariants as items
use Rattle.qv_syntax.specs.Parts.{HasItem}
use Rattle.qv_syntax.specs.TypeRules.{is_single}
use Rattle.enforcement_rules.specs.declared.standing.Place.{Place}
use Rattle.enforcement_rules.specs.KnownVariables.{NamesOf}
use Rattle.enforcement_rules.specs.TargetParts.{IsMade, target_meta, target_desc}

-- the key of exactly this class of the target's metamodel
pub record IsKeyOf (program : Program) (class : ClassId) (key : Key) : Type 0 where
  pub among : Contains program.keys key
  pub meta : key.meta ≡ target_meta program
  pub of : key.class ≡ class

-- ---- E5

-- the template stands at a property whose opposite this is
pub record IsOpposite (desc : MetaDesc) (at : Option Place) (prop : PropId) : Type 0 where
  pub place : Place
  pub is : at ≡ Some place
  pub opposite : opposite_of desc place.prop.0 ≡ Some prop.0

-- an item of the template gives the property, or the template's parent does
pub data IsGiven (desc : MetaDesc) (t : Tmpl) (at : Option Place) (prop : PropId) : Type 0 where
  by_item : (item : Item) → HasItem t item → item.prop ≡ prop → IsGiven desc t at prop
  by_parent : IsOpposite desc at prop → IsGiven desc t at prop

-- the class of the template has a key, and each property of it is given
pub record IsKeyed (metas : List MetaDesc) (program : Program) (t : Tmpl) (at : Option Place) : Type 0 where
  pub key : Key
  pub is : IsKeyOf program (out-Tmpl t).class key
  pub given : (prop : PropId) → Contains key.props prop → IsGiven (target_desc metas program) t at prop

-- E5: the class of a template whose objects the relation makes has a key, and each key property is given by an item of the template or is
-- the opposite of the property at which the template stands in its parent
pub record HasUnkeyedTemplate (metas : List MetaDesc) (program : Program) (rel : Rel) : Type 0 where
  pub t : Tmpl
  pub at : Option Place
  pub made : IsMade program rel t at
  pub unkeyed : ¬ IsKeyed metas program t at

-- ---- E6

-- E6: the key properties of such a class are single
pub record HasManyValuedKey (metas : List MetaDesc) (program : Program) (rel : Rel) : Type 0 where
  pub t : Tmpl
  pub at : Option Place
  pub made : IsMade program rel t at
  pub key : Key
  pub is : IsKeyOf program (out-Tmpl t).class key
  pub prop : PropId
  pub among : Contains key.props prop
  pub many : is_single (prop_at (target_desc metas program) prop.0).upper ≡ false

-- ---- E7

-- E7: no class of the target's metamodel conforms to two classes that have keys
pub record HasTwoKeys (metas : List MetaDesc) (program : Program) : Type 0 where
  pub class : ℕ
  pub within : class < class_count (target_desc metas program)
  pub first : ClassId
  pub first_key : Key
  pub first_is : IsKeyOf program first first_key
  pub first_conforms : Conforms (target_desc metas program) class first.0
  pub second : ClassId
  pub second_key : Key
  pub second_is : IsKeyOf program second second_key
  pub second_conforms : Conforms (target_desc metas program) class second.0
  pub two : first ≢ second

-- ---- E8

-- the first item of the template at the property
pub record IsFirstItem (t : Tmpl) (prop : PropId) (item : Item) : Type 0 where
  pub place : ℕ
  pub found : slice_get (out-Tmpl t).items place ≡ Some item
  pub is : item.prop ≡ prop
  pub first : (earlier : ℕ) (other : Item) → earlier < place → slice_get (out-Tmpl t).items earlier ≡ Some other → other.prop ≢ prop

-- the value of an item has the variable: the expression names it, or it is the nested template's
pub data HasVariable (rel : Rel) (value : ItemValue) (v : ℕ) : Type 0 where
  expression : (e : Typed) → value ≡ items.Expr e → NamesOf rel e v → HasVariable rel value v
  nested : (part : Tmpl) → value ≡ items.Nested part → (out-Tmpl part).var ≡ v → HasVariable rel value v

-- The variable stands in the key value of a property: in that of the first item, or else it is the parent by the opposite.
pub data IsInKeyValue (desc : MetaDesc) (rel : Rel) (t : Tmpl) (at : Option Place) (prop : PropId) (v : ℕ) : Type 0 where
  by_item : (item : Item) → IsFirstItem t prop item → HasVariable rel item.value v → IsInKeyValue desc rel t at prop v
  by_parent : ((item : Item) → HasItem t item → item.prop ≢ prop) → (o : IsOpposite desc at prop) → o.place.parent ≡ v → IsInKeyValue desc rel t at prop v

-- the second variable stands in a key value of the first one's objects
pub record DependsOn (metas : List MetaDesc) (program : Program) (rel : Rel) (v w : ℕ) : Type 0 where
  pub t : Tmpl
  pub at : Option Place
  pub made : IsMade program rel t at
  pub var : (out-Tmpl t).var ≡ v
  pub key : Key
  pub is : IsKeyOf program (out-Tmpl t).class key
  pub prop : PropId
  pub among : Contains key.props prop
  pub stands : IsInKeyValue (target_desc metas program) rel t at prop w

-- directly or through others
pub data DependsThrough (metas : List MetaDesc) (program : Program) (rel : Rel) : ℕ → ℕ → Type 0 where
  direct : (v w : ℕ) → DependsOn metas program rel v w → DependsThrough metas program rel v w
  more : (v w u : ℕ) → DependsOn metas program rel v w → DependsThrough metas program rel w u → DependsThrough metas program rel v u

-- E8: the variables in key values depend on each other without a cycle
pub record HasKeyCycle (metas : List MetaDesc) (program : Program) (rel : Rel) : Type 0 where
  pub v : ℕ
  pub cycle : DependsThrough metas program rel v v
