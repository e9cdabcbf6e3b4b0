-- Objects of the models: what stands at their properties, their classes, and the objects of a class (OCL 2.4, sections 7.5.3, 11.3.1 and
-- 7.5.10 (allInstances); MOF 2.5.1, 13.4).
use Rattle.std.specs.Prelude.{ℕ, Bool, false, ◌==◌, List, [], ◌∷◌, map, length, Option, None, Some, slice_get, if◌then◌else◌}
use Rattle.std.specs.List.{filter, list_any, range_with_len}
use Rattle.std.specs.Option.{option_map}
use Rattle.mof_metamodel.specs.declared.desc.MetaDesc.{MetaDesc}
use Rattle.mof_metamodel.specs.Metamodels.{props_of, type_of, lineage_of}
use Rattle.object_tables.specs.declared.value.Value.{Value}
use Rattle.object_tables.specs.declared.value.Value.TheVariants as values
use Rattle.object_tables.specs.Models.{ModelData, class_at, is_class_type, values_at, partners_at}
use Rattle.qv_syntax.specs.declared.query.ModelSlot.{ModelSlot}
use Rattle.qv_syntax.specs.declared.type_tree.Kind.TheVariants.{Set, OrderedSet}
use Rattle.qv_syntax.specs.declared.typed.Values.{Values}
use Rattle.qv_syntax.specs.declared.typed.Values.TheVariants as gives
use Rattle.qvtr_semantics.specs.declared.datum.Datum.{Datum}
use Rattle.qvtr_semantics.specs.declared.datum.Datum.TheVariants.{Obj, Val}
use Rattle.qvtr_semantics.specs.declared.out.Out.{Out}
use Rattle.qvtr_semantics.specs.declared.out.Out.TheVariants as outs
use Rattle.qvtr_semantics.specs.Outs.{and_then, given, boolean}
use Rattle.qvtr_semantics.specs.Data.{in_order}

-- the models of a script, with the number of the metamodel of each
pub record Setting : Type 0 where
  pub slots : List ModelSlot
  pub models : List ModelData

abbrev pub meta_number : Option ModelSlot → ℕ
meta_number None = 0
meta_number (Some slot) = slot.meta

abbrev pub meta_of : Setting → ℕ → ℕ
meta_of s m = meta_number (slice_get s.slots m)

abbrev pub object_datum : ℕ → ℕ → Datum
object_datum m o = Obj m (record { 0 = o })

-- a literal goes with the number of its metamodel
abbrev pub value_datum : ℕ → Value → Datum
value_datum meta (values.Lit e n) = Val meta (values.Lit e n)
value_datum meta v = Val 0 v

abbrev pub is_number_among : ℕ → List ℕ → Bool
is_number_among n ns = list_any (λ k. k == n) ns

-- the class is the other one or inherits from it
abbrev pub is_kind_of : MetaDesc → ℕ → ℕ → Bool
is_kind_of meta class other = is_number_among other (lineage_of meta class)

-- ---- what stands at a property

abbrev pub data_at : Setting → ℕ → ModelData → ℕ → ℕ → List Datum
data_at s m model o p =
    if is_class_type (type_of model.meta p) then map (object_datum m) (partners_at model o p)
    else map (value_datum (meta_of s m)) (values_at model o p)

-- the values or partners of a live object at a property of its class
abbrev pub held_by : Setting → ℕ → ℕ → ℕ → Option (List Datum)
held_by s m o p =
    and_then (slice_get s.models m) (λ model.
    and_then (class_at model o) (λ class.
    if is_number_among p (props_of model.meta class) then Some (data_at s m model o p) else None))

abbrev pub held_at : Setting → Datum → ℕ → Option (List Datum)
held_at s (Obj m o) p = held_by s m o.0 p
held_at s (Val m v) p = None

-- a single property gives its value or null
abbrev pub single : List Datum → Out
single [] = outs.Null
single (d ∷ ds) = outs.One d

-- what navigation gives: the value of a single property, and the elements of one of many values as a Set in value order, or as an
-- OrderedSet where the property is ordered
abbrev pub navigated : Values → List Datum → Out
navigated gives.Single ds = single ds
navigated gives.Set ds = outs.Many Set (in_order ds)
navigated gives.OrderedSet ds = outs.Many OrderedSet ds

abbrev pub property : Setting → ℕ → Values → Datum → Out
property s p values d = given (held_at s d p) (navigated values)

-- ---- classes

-- the metamodel and the class of an object
pub record ObjectClass : Type 0 where
  pub meta : MetaDesc
  pub class : ℕ

abbrev pub class_of : Setting → Datum → Option ObjectClass
class_of s (Obj m o) = and_then (slice_get s.models m) (λ model. option_map (λ class. record { meta = model.meta; class = class }) (class_at model o.0))
class_of s (Val m v) = None

-- oclIsTypeOf, oclIsKindOf and oclAsType of an object
abbrev pub is_type_of : Setting → ℕ → Datum → Out
is_type_of s class d = given (class_of s d) (λ c. boolean (c.class == class))

abbrev pub is_of_kind : Setting → ℕ → Datum → Out
is_of_kind s class d = given (class_of s d) (λ c. boolean (is_kind_of c.meta c.class class))

abbrev pub as_type : Setting → ℕ → Datum → Out
as_type s class d = given (class_of s d) (λ c. if is_kind_of c.meta c.class class then outs.One d else outs.Invalid)

-- ---- the objects of a class

abbrev pub conforms_if : MetaDesc → ℕ → Option ℕ → Bool
conforms_if meta class None = false
conforms_if meta class (Some c) = is_kind_of meta c class

abbrev pub conforms_at : ModelData → ℕ → ℕ → Bool
conforms_at model class o = conforms_if model.meta class (class_at model o)

-- the live objects of a model whose class is the class or inherits from it, by number
abbrev pub extent_of : ModelData → ℕ → List ℕ
extent_of model class = filter (conforms_at model class) (range_with_len 0 (length model.objects))

abbrev pub extent : Setting → ℕ → ℕ → Out
extent s m class = given (slice_get s.models m) (λ model. outs.Many Set (map (object_datum m) (extent_of model class)))
