-- What the description of a metamodel says of its classes, enumerations and properties: the class part of MOF.
-- They go by numbers. Those of classes and of enumerations are their places in the description, from 0, and those of
-- properties their places among the properties of all classes, class by class. A number past the end has nothing.
use Rattle.std.specs.Prelude.{◌≡◌, ℕ, zero, suc, ◌+◌, ◌<◌, IfSome, Bool, false, ◌||◌, List, [], ◌∷◌, ◌++◌, Option, None, Some, map, take, length, sum_by, position, nat_eq, codes, Contains, if◌then◌else◌, slice_index_or, filter, filter_map}
use Rattle.std.specs.List.{list_any, flat_map, range_with_len}
use Rattle.std.specs.Option.{option_map, option_or, unwrap_or, option_and_then}
pub use Rattle.mof_metamodel.specs.Characters.{same_name}
use Rattle.mof_metamodel.specs.declared.desc.MetaDesc.{MetaDesc}
use Rattle.mof_metamodel.specs.declared.desc.ClassDesc.{ClassDesc}
use Rattle.mof_metamodel.specs.declared.desc.EnumDesc.{EnumDesc}
use Rattle.mof_metamodel.specs.declared.desc.PropDesc.{PropDesc}
use Rattle.mof_metamodel.specs.declared.desc.OppDesc.{OppDesc}
use Rattle.mof_metamodel.specs.declared.desc.Prop.{Prop}
use Rattle.mof_metamodel.specs.declared.desc.PropType.{PropType}
use Rattle.mof_metamodel.specs.declared.desc.PropType.TheVariants as types

-- Classes and enumerations

abbrev pub class_count : MetaDesc → ℕ
class_count desc = length desc.classes

abbrev pub enum_count : MetaDesc → ℕ
enum_count desc = length desc.enums

-- the number of the first class of this name
abbrev pub class_number : MetaDesc → List ℕ → Option ℕ
class_number desc name = position (λ c. same_name name c.name) desc.classes

-- the number of the first enumeration of this name
abbrev pub enum_number : MetaDesc → List ℕ → Option ℕ
enum_number desc name = position (λ e. same_name name e.name) desc.enums

abbrev pub no_class : ClassDesc
no_class = record { name = []; is_abstract = false; supers = []; props = [] }

abbrev pub no_enum : EnumDesc
no_enum = record { name = []; literals = [] }

abbrev pub class_at : MetaDesc → ℕ → ClassDesc
class_at desc c = slice_index_or desc.classes c no_class

abbrev pub enum_at : MetaDesc → ℕ → EnumDesc
enum_at desc e = slice_index_or desc.enums e no_enum

-- the literal of this number, from 0, of the enumeration
abbrev pub literal_at : MetaDesc → ℕ → ℕ → List ℕ
literal_at desc e i = slice_index_or (enum_at desc e).literals i []

-- the number of the first literal of this name in the enumeration
abbrev pub literal_number : MetaDesc → ℕ → List ℕ → Option ℕ
literal_number desc e name = position (same_name name) (enum_at desc e).literals

-- the superclasses that the class writes, in their order, repeats included
abbrev pub supers_of : MetaDesc → ℕ → List ℕ
supers_of desc c = filter_map (class_number desc) (class_at desc c).supers

-- Conformance

-- the classes of the path are each written as a superclass of the one before, from c to d
abbrev pub IsPath : MetaDesc → ℕ → List ℕ → ℕ → Type 0
IsPath desc c [] d = c ≡ d
IsPath desc c (e ∷ path) d = Contains (supers_of desc c) e × IsPath desc e path d

-- c is d, or reaches it by superclasses
abbrev pub Conforms : MetaDesc → ℕ → ℕ → Type 0
Conforms desc c d = (path : List ℕ) × IsPath desc c path d

-- c reaches d by one superclass or more
abbrev pub Reaches : MetaDesc → ℕ → ℕ → Type 0
Reaches desc c d = (e : ℕ) × (path : List ℕ) × Contains (supers_of desc c) e × IsPath desc e path d

-- the class reaches itself by superclasses
abbrev pub IsCircular : MetaDesc → ℕ → Type 0
IsCircular desc c = Reaches desc c c

-- Class order

-- the list, with the item at its end where it lacks it
abbrev pub with_item : List ℕ → ℕ → List ℕ
with_item xs x = if list_any (nat_eq x) xs then xs else xs ++ x ∷ []

-- the items of both lists, each once and at its first place
abbrev pub united : List ℕ → List ℕ → List ℕ
united xs [] = xs
united xs (y ∷ ys) = united (with_item xs y) ys

-- the same of a list and of several lists; none where one of them is missing
abbrev pub all_united : List ℕ → List (Option (List ℕ)) → Option (List ℕ)
all_united xs [] = Some xs
all_united xs (None ∷ rest) = None
all_united xs ((Some ys) ∷ rest) = all_united (united xs ys) rest

-- The class and those that it inherits from, in class order: for each superclass in the written order its classes, each once
-- and at its first place, and then the class itself. There are none within n steps where a path of n superclasses begins there.
abbrev pub lineage_within : MetaDesc → ℕ → ℕ → Option (List ℕ)
lineage_within desc zero c = None
lineage_within desc (suc n) c = option_map (λ cs. with_item cs c) (all_united [] (map (lineage_within desc n) (supers_of desc c)))

-- whether c is d, or reaches it by at most n superclasses
abbrev pub conforms_within : MetaDesc → ℕ → ℕ → ℕ → Bool
conforms_within desc zero c d = nat_eq c d
conforms_within desc (suc n) c d = nat_eq c d || list_any (λ e. conforms_within desc n e d) (supers_of desc c)

-- the class and those that it inherits from, by number
abbrev pub reached_classes : MetaDesc → ℕ → List ℕ
reached_classes desc c = filter (conforms_within desc (class_count desc) c) (range_with_len 0 (class_count desc))

-- The class and those that it inherits from: in class order, or by number where the class reaches a circle of superclasses
-- and so has no class order.
abbrev pub lineage_of : MetaDesc → ℕ → List ℕ
lineage_of desc c = unwrap_or (lineage_within desc (class_count desc) c) (reached_classes desc c)

-- Properties

-- the properties of classes from this number on, each with the number of the class that owns it
abbrev pub declared_from : ℕ → List ClassDesc → List (ℕ × PropDesc)
declared_from c [] = []
declared_from c (d ∷ ds) = map (λ p. (c, p)) d.props ++ declared_from (c + 1) ds

-- the properties of all classes by their numbers
abbrev pub declared_props : MetaDesc → List (ℕ × PropDesc)
declared_props desc = declared_from 0 desc.classes

abbrev pub prop_count : MetaDesc → ℕ
prop_count desc = length (declared_props desc)

abbrev pub no_prop : PropDesc
no_prop = record { name = []; type_name = []; lower = 0; upper = None; composite = false; ordered = false; opposite = None }

abbrev pub declared_at : MetaDesc → ℕ → ℕ × PropDesc
declared_at desc p = slice_index_or (declared_props desc) p (0, no_prop)

-- the class that owns the property, and the property as it is written
abbrev pub owner_of : MetaDesc → ℕ → ℕ
owner_of desc p = (declared_at desc p).0

abbrev pub prop_at : MetaDesc → ℕ → PropDesc
prop_at desc p = (declared_at desc p).1

-- the number of the first property that the class owns: how many properties the classes before it own
abbrev pub first_own : MetaDesc → ℕ → ℕ
first_own desc c = sum_by (λ d. length d.props) (take c desc.classes)

-- the properties that the class owns
abbrev pub own_props : MetaDesc → ℕ → List ℕ
own_props desc c = range_with_len (first_own desc c) (length (class_at desc c).props)

-- The properties of the class, those of every class that it reaches by superclasses included. In class order they are: for each
-- superclass in the written order its properties, each once and at its first place, and then the class's own.
abbrev pub props_of : MetaDesc → ℕ → List ℕ
props_of desc c = flat_map (own_props desc) (lineage_of desc c)

-- the items of a list and of several lists, each once and at its first place
abbrev pub united_lists : List ℕ → List (List ℕ) → List ℕ
united_lists xs [] = xs
united_lists xs (ys ∷ rest) = united_lists (united xs ys) rest

-- what the class inherits: the properties of its superclasses in the written order, each once and at its first place
abbrev pub inherited_props : MetaDesc → ℕ → List ℕ
inherited_props desc c = united_lists [] (map (props_of desc) (supers_of desc c))

abbrev pub is_primitive : List ℕ → Bool
is_primitive name = same_name name (codes "String") || same_name name (codes "Integer") || same_name name (codes "Boolean")

-- the enumeration, or else the class, of this name
abbrev pub declared_type : MetaDesc → List ℕ → Option PropType
declared_type desc name = option_or (option_map (λ e. types.Enum (record { 0 = e })) (enum_number desc name)) (option_map (λ c. types.Class (record { 0 = c })) (class_number desc name))

-- the type of this name: a primitive, or else an enumeration, or else a class
abbrev pub type_named : MetaDesc → List ℕ → Option PropType
type_named desc name =
    if same_name name (codes "String") then Some types.Str
    else if same_name name (codes "Integer") then Some types.Int
    else if same_name name (codes "Boolean") then Some types.Bool
    else declared_type desc name

abbrev pub type_of : MetaDesc → ℕ → Option PropType
type_of desc p = type_named desc (prop_at desc p).type_name

-- the number of the property of this name that the class of this number owns
abbrev pub own_number : MetaDesc → ℕ → List ℕ → Option ℕ
own_number desc c name = option_map (λ i. first_own desc c + i) (position (λ p. same_name name p.name) (class_at desc c).props)

-- what is found first for a number of the list
abbrev pub first_found : (ℕ → Option ℕ) → List ℕ → Option ℕ
first_found find_in [] = None
first_found find_in (c ∷ cs) = option_or (find_in c) (first_found find_in cs)

-- the property of this name of the class, inherited ones included: the first in class order
abbrev pub prop_number : MetaDesc → ℕ → List ℕ → Option ℕ
prop_number desc c name = first_found (λ a. own_number desc a name) (lineage_of desc c)

abbrev pub opposite_number : MetaDesc → Option OppDesc → Option ℕ
opposite_number desc None = None
opposite_number desc (Some o) = option_and_then (λ c. own_number desc c o.prop) (class_number desc o.class)

-- the opposite of the property
abbrev pub opposite_of : MetaDesc → ℕ → Option ℕ
opposite_of desc p = opposite_number desc (prop_at desc p).opposite

-- the class or the enumeration of the type is one of the description
abbrev pub IsTypeOf : MetaDesc → PropType → Type 0
IsTypeOf desc types.Str = Unit {0}
IsTypeOf desc types.Int = Unit {0}
IsTypeOf desc types.Bool = Unit {0}
IsTypeOf desc (types.Enum e) = e.0 < enum_count desc
IsTypeOf desc (types.Class c) = c.0 < class_count desc

-- the property by its number, its names resolved
pub record IsProp (desc : MetaDesc) (p : ℕ) (prop : Prop) : Type 0 where
  pub name : prop.name ≡ (prop_at desc p).name
  pub owner : prop.owner.0 ≡ owner_of desc p
  pub owner_within : prop.owner.0 < class_count desc
  pub type_is : type_of desc p ≡ Some prop.ty
  pub type_within : IsTypeOf desc prop.ty
  pub lower : prop.lower ≡ (prop_at desc p).lower
  pub upper : prop.upper ≡ (prop_at desc p).upper
  pub composite : prop.composite ≡ (prop_at desc p).composite
  pub ordered : prop.ordered ≡ (prop_at desc p).ordered
  pub opposite : option_map (λ q. q.0) prop.opposite ≡ opposite_of desc p
  pub opposite_within : IfSome prop.opposite (λ q. q.0 < prop_count desc)
