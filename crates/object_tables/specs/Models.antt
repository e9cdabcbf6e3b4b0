-- A model as its contracts see it: a metamodel's description and objects by their numbers (MOF 2.5.1, Reflection; links between
-- objects are pairs of an association, which is a reference without an opposite, or a reference and its opposite).
use Rattle.std.specs.Prelude.{◌≤◌, ◌⊎◌, ◌&&◌, nat_lt, All, AllPairs, count_by, is_some, ◌≡◌, ◌≢◌, ℕ, suc, ◌==◌, Bool, true, false, not, if◌then◌else◌, List, [], ◌∷◌, ◌++◌, map, filter, length, replicate, Option, None, Some, IsSome, option_map, slice_index_or, Contains, IsTrue}
use Rattle.mof_metamodel.specs.declared.desc.MetaDesc.{MetaDesc}
use Rattle.mof_metamodel.specs.declared.desc.PropType.{PropType}
use Rattle.mof_metamodel.specs.declared.desc.PropType.TheVariants as types
use Rattle.mof_metamodel.specs.Metamodels.{props_of, prop_at, type_of, opposite_of, enum_at, Conforms, class_at as meta_class}
use Rattle.object_tables.specs.declared.limit.TheConstants.{MAX_OBJECTS}
use Rattle.mof_metamodel.specs.Characters.{is_storable_text}
use Rattle.object_tables.specs.declared.limit.TheConstants.{MAX_ADDED}
use Rattle.object_tables.specs.declared.value.Value.{Value}
use Rattle.object_tables.specs.declared.value.Value.TheVariants as values
use Rattle.object_tables.specs.Lists.{update_at}
use Rattle.object_tables.specs.Objects.{Object, Slot}

-- the metamodel, and by its number each object, or nothing where the object is gone; their length is the next number
pub record ModelData : Type 0 where
  pub meta : MetaDesc
  pub objects : List (Option Object)

abbrev pub object_at : ModelData → ℕ → Option Object
object_at m o = slice_index_or m.objects o None

abbrev pub IsLive : ModelData → ℕ → Type 0
IsLive m o = IsSome (object_at m o)

abbrev pub class_at : ModelData → ℕ → Option ℕ
class_at m o = option_map (λ ob. ob.class) (object_at m o)

abbrev pub id_at : ModelData → ℕ → Option (List ℕ)
id_at m o = option_map (λ ob. ob.id) (object_at m o)

-- Slots by property

abbrev pub no_slot : Slot
no_slot = record { values = []; partners = [] }

-- the first place of a number in a list, or the list's length
abbrev pub index_of : List ℕ → ℕ → ℕ
index_of [] p = 0
index_of (q ∷ qs) p = if q == p then 0 else suc (index_of qs p)

-- the place of a property in the class order of a class
abbrev pub slot_number : MetaDesc → ℕ → ℕ → ℕ
slot_number meta class p = index_of (props_of meta class) p

abbrev pub slot_in : MetaDesc → ℕ → Option Object → Slot
slot_in meta p None = no_slot
slot_in meta p (Some object) = slice_index_or object.slots (slot_number meta object.class p) no_slot

-- the values of an object at an attribute
abbrev pub values_at : ModelData → ℕ → ℕ → List Value
values_at m o p = (slot_in m.meta p (object_at m o)).values

-- the partners of an object at a reference, in their order
abbrev pub partners_at : ModelData → ℕ → ℕ → List ℕ
partners_at m o p = (slot_in m.meta p (object_at m o)).partners

-- b is a partner of a at p
abbrev pub IsLinked : ModelData → ℕ → ℕ → ℕ → Type 0
IsLinked m p a b = Contains (partners_at m a p) b

-- a property of a class type is a reference, another one an attribute
abbrev pub is_class_type : Option PropType → Bool
is_class_type (Some (types.Class c)) = true
is_class_type t = false

-- the class conforms to the class that is the type
abbrev pub ConformsTo : MetaDesc → ℕ → Option PropType → Type 0
ConformsTo meta class (Some (types.Class c)) = Conforms meta class c.0
ConformsTo meta class t = ⊥

-- the property is one of the object's class, and a reference
pub record IsReferenceOf (m : ModelData) (o p : ℕ) : Type 0 where
  pub class : ℕ
  pub class_is : class_at m o ≡ Some class
  pub has : Contains (props_of m.meta class) p
  pub reference : is_class_type (type_of m.meta p) ≡ true

-- the property is one of the object's class, and an attribute
pub record IsAttributeOf (m : ModelData) (o p : ℕ) : Type 0 where
  pub class : ℕ
  pub class_is : class_at m o ≡ Some class
  pub has : Contains (props_of m.meta class) p
  pub attribute : is_class_type (type_of m.meta p) ≡ false

-- Containment

-- a contains o by p, a composite reference
pub record IsContainedIn (m : ModelData) (o a p : ℕ) : Type 0 where
  pub composite : (prop_at m.meta p).composite ≡ true
  pub linked : IsLinked m p a o

-- nothing contains the object
abbrev pub IsTop : ModelData → ℕ → Type 0
IsTop m o = (a p : ℕ) → ¬ IsContainedIn m o a p

-- Edits

-- the slot of one object at a property changed
abbrev pub with_object_slot : MetaDesc → ℕ → (Slot → Slot) → Option Object → Option Object
with_object_slot meta p f None = None
with_object_slot meta p f (Some object) = Some (record object { slots = update_at object.slots (slot_number meta object.class p) f })

abbrev pub with_slot : ModelData → ℕ → ℕ → (Slot → Slot) → ModelData
with_slot m o p f = record m { objects = update_at m.objects o (with_object_slot m.meta p f) }

-- these values stand at an attribute
abbrev pub with_values : ModelData → ℕ → ℕ → List Value → ModelData
with_values m o p values = with_slot m o p (λ s. record s { values = values })

-- the partners stand in this order
abbrev pub with_order : ModelData → ℕ → ℕ → List ℕ → ModelData
with_order m o p order = with_slot m o p (λ s. record s { partners = order })

-- another partner stands last
abbrev pub with_partner : ModelData → ℕ → ℕ → ℕ → ModelData
with_partner m o p b = with_slot m o p (λ s. record s { partners = s.partners ++ b ∷ [] })

-- a list without a number
abbrev pub without_number : ℕ → List ℕ → List ℕ
without_number b xs = filter (λ x. not (x == b)) xs

-- a partner is gone
abbrev pub without_partner : ModelData → ℕ → ℕ → ℕ → ModelData
without_partner m o p b = with_slot m o p (λ s. record s { partners = without_number b s.partners })

-- the same at the opposite, where there is one
abbrev pub at_opposite : (ModelData → ℕ → ℕ → ℕ → ModelData) → ModelData → Option ℕ → ℕ → ℕ → ModelData
at_opposite edit m None b a = m
at_opposite edit m (Some q) b a = edit m b q a

-- a and b are a pair of the association of p: each stands last at the other
abbrev pub linked : ModelData → ℕ → ℕ → ℕ → ModelData
linked m p a b = at_opposite with_partner (with_partner m a p b) (opposite_of m.meta p) b a

-- they are no pair of it any more
abbrev pub unlinked : ModelData → ℕ → ℕ → ℕ → ModelData
unlinked m p a b = at_opposite without_partner (without_partner m a p b) (opposite_of m.meta p) b a

-- one more object, without values and partners
abbrev pub new_object : MetaDesc → ℕ → List ℕ → Object
new_object meta class id = record { class = class; id = id; slots = replicate (length (props_of meta class)) no_slot }

abbrev pub added : ModelData → ℕ → List ℕ → ModelData
added m class id = record m { objects = m.objects ++ Some (new_object m.meta class id) ∷ [] }

abbrev pub slot_without : ℕ → Slot → Slot
slot_without o s = record s { partners = without_number o s.partners }

abbrev pub object_without : ℕ → Option Object → Option Object
object_without o None = None
object_without o (Some object) = Some (record object { slots = map (slot_without o) object.slots })

-- an object is gone, and all pairs with it
abbrev pub deleted : ModelData → ℕ → ModelData
deleted m o = record m { objects = update_at (map (object_without o) m.objects) o (λ _. None) }

-- how many objects are live
abbrev pub live_count : ModelData → ℕ
live_count m = count_by is_some m.objects

-- the object is live, and of a class that conforms to the type of the reference
pub record IsPartnerFor (m : ModelData) (p b : ℕ) : Type 0 where
  pub class : ℕ
  pub class_is : class_at m b ≡ Some class
  pub conforms : ConformsTo m.meta class (type_of m.meta p)

-- the object that a link would make contained, if it would make one so, has no container yet
pub record IsFree (m : ModelData) (p a b : ℕ) : Type 0 where
  pub part : (prop_at m.meta p).composite ≡ true → IsTop m b
  pub whole : (q : ℕ) → opposite_of m.meta p ≡ Some q → (prop_at m.meta q).composite ≡ true → IsTop m a

-- some object has the identifier
abbrev pub HasId : ModelData → List ℕ → Type 0
HasId m id = (o : ℕ) × (id_at m o ≡ Some id)

-- there are as many live objects, or numbers, as a model may have
abbrev pub IsFull : ModelData → Type 0
IsFull m = (MAX_OBJECTS ≤ live_count m) ⊎ (MAX_ADDED ≤ length m.objects)

-- an object of the class and the identifier can be added
pub record IsAddable (m : ModelData) (class : ℕ) (id : List ℕ) : Type 0 where
  pub room : ¬ IsFull m
  pub concrete : (meta_class m.meta class).is_abstract ≡ false
  pub new : ¬ HasId m id

-- the value is of the type; a text is storable, and a literal one of the enumeration
abbrev pub is_value_of : MetaDesc → Option PropType → Value → Bool
is_value_of meta (Some types.Str) (values.Str text) = is_storable_text text
is_value_of meta (Some types.Int) (values.Int i) = true
is_value_of meta (Some types.Bool) (values.Bool b) = true
is_value_of meta (Some (types.Enum e)) (values.Lit f n) = (e.0 == f.0) && nat_lt n (length (enum_at meta e.0).literals)
is_value_of meta t v = false

-- the values may stand at the attribute
pub record IsSlotOf (meta : MetaDesc) (p : ℕ) (vs : List Value) : Type 0 where
  pub typed : All (λ v. IsTrue (is_value_of meta (type_of meta p) v)) vs
  pub distinct : AllPairs (λ x y. x ≢ y) vs
