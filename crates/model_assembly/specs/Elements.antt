-- What the elements of a tree are in the profile (XMI 2.5.1, clauses 7 and 9): the document, objects, values, references, and what
-- may not stand there. Objects are numbered in document order.
--
-- Places in a tree count, in document order, the start of each element, its attributes, its runs of characters and its end. What
-- stands directly behind a start tag has the place of what follows in the tree.
use Rattle.std.specs.Prelude.{ℕ, suc, ◌+◌, Bool, is_some, List, [], ◌∷◌, ◌++◌, length, filter, Option, None, Some, if◌then◌else◌}
use Rattle.std.specs.Option.{option_map, unwrap_or}
use Rattle.mof_metamodel.specs.declared.desc.MetaDesc.{MetaDesc}
use Rattle.mof_metamodel.specs.declared.desc.PropType.{PropType}
use Rattle.mof_metamodel.specs.declared.desc.PropType.TheVariants as types
use Rattle.mof_metamodel.specs.Metamodels.{class_number, class_at, prop_number, prop_at, type_of}
use Rattle.object_tables.specs.Models.{is_class_type}
use Rattle.xmi_text.specs.Trees.{Nodes, Ends, Run, Element, Tree}
use Rattle.model_assembly.specs.declared.fault.Externs.{Externs}
pub use Rattle.model_assembly.specs.declared.role.ObjectRole.{ObjectRole}
pub use Rattle.model_assembly.specs.declared.role.Role.{Role}
pub use Rattle.model_assembly.specs.declared.role.Role.TheVariants.{Document, Skipped, AnObject, AValue, AReference, Neither, Alien, Stranger, Misplaced}
use Rattle.model_assembly.specs.Attributes.{Attrs, local_part, is_document_name, is_skipped_name, is_alien_name, written_type}
use Rattle.model_assembly.specs.References.{Target, element_target}
use Rattle.model_assembly.specs.Profile.{class_name}

-- Classes

-- the class, unless it is abstract
abbrev pub concrete : MetaDesc → Option ℕ → Option ℕ
concrete meta None = None
concrete meta (Some c) = if (class_at meta c).is_abstract then None else Some c

-- the concrete class of this name
abbrev pub concrete_class : MetaDesc → List ℕ → Option ℕ
concrete_class meta name = concrete meta (class_number meta name)

-- the name of the class of an element: the local part of what it writes as its type, or else this name
abbrev pub class_named_by : Attrs → List ℕ → List ℕ
class_named_by attrs name = unwrap_or (option_map local_part (written_type attrs)) name

-- the name of the class that is a property's type
abbrev pub type_class_name : MetaDesc → Option PropType → List ℕ
type_class_name meta (Some (types.Class c)) = class_name meta c.0
type_class_name meta type = []

-- What an element is

abbrev pub object_role : MetaDesc → ℕ → List ℕ → Option (ℕ × ℕ) → Role
object_role meta number named within = AnObject (record { number = number; named = named; class = concrete_class meta named; within = within })

-- a top object
abbrev pub top_role : MetaDesc → ℕ → List ℕ → Attrs → Role
top_role meta number name attrs = object_role meta number (class_named_by attrs (local_part name)) None

-- in the document
abbrev pub role_in_document : MetaDesc → ℕ → List ℕ → Attrs → Role
role_in_document meta number name attrs =
    if is_skipped_name name then Skipped
    else if is_alien_name name then Alien
    else top_role meta number name attrs

-- the root
abbrev pub role_of_root : MetaDesc → List ℕ → Attrs → Role
role_of_root meta name attrs = if is_document_name name then Document else role_in_document meta 0 name attrs

-- at a reference of an object: a reference, or else a contained object
abbrev pub role_at_reference : MetaDesc → ℕ → ℕ → ℕ → Attrs → Option Target → Role
role_at_reference meta number o p attrs (Some target) = AReference o p target
role_at_reference meta number o p attrs None =
    if (prop_at meta p).composite
    then object_role meta number (class_named_by attrs (type_class_name meta (type_of meta p))) (Some (o, p))
    else Neither o p

-- at a property of an object, or at none
abbrev pub role_at : MetaDesc → Externs → ℕ → ℕ → Attrs → Option ℕ → Role
role_at meta outside number o attrs None = Stranger o
role_at meta outside number o attrs (Some p) =
    if is_class_type (type_of meta p) then role_at_reference meta number o p attrs (element_target outside attrs) else AValue o p

-- in an object of a class
abbrev pub role_in_object : MetaDesc → Externs → ℕ → ℕ → ℕ → List ℕ → Attrs → Role
role_in_object meta outside number o c name attrs =
    if is_skipped_name name then Skipped
    else if is_alien_name name then Alien
    else role_at meta outside number o attrs (prop_number meta c name)

-- in the element of a value or of a reference
abbrev pub role_in_property : ℕ → ℕ → List ℕ → Role
role_in_property o p name =
    if is_skipped_name name then Skipped
    else if is_alien_name name then Alien
    else Misplaced o p

abbrev pub role_in_class : MetaDesc → Externs → ℕ → ℕ → Option ℕ → List ℕ → Attrs → Role
role_in_class meta outside number o None name attrs = Skipped
role_in_class meta outside number o (Some c) name attrs = role_in_object meta outside number o c name attrs

-- an element in one of this role, where the next object has this number
abbrev pub role_in : MetaDesc → Externs → Role → ℕ → List ℕ → Attrs → Role
role_in meta outside Document number name attrs = role_in_document meta number name attrs
role_in meta outside (AnObject object) number name attrs = role_in_class meta outside number object.number object.class name attrs
role_in meta outside (AValue o p) number name attrs = role_in_property o p name
role_in meta outside (AReference o p target) number name attrs = role_in_property o p name
role_in meta outside Skipped number name attrs = Skipped
role_in meta outside (Neither o p) number name attrs = Skipped
role_in meta outside Alien number name attrs = Skipped
role_in meta outside (Stranger o) number name attrs = Skipped
role_in meta outside (Misplaced o p) number name attrs = Skipped

-- All elements

-- an element of the tree: its place, what it is, and what it writes
pub record Item : Type 0 where
  pub place : ℕ
  pub role : Role
  pub name : List ℕ
  pub attrs : Attrs
  pub inner : Nodes

-- how many places nodes take
abbrev pub room_of : Nodes → ℕ
room_of Ends = 0
room_of (Run characters more) = suc (room_of more)
room_of (Element name attrs inner more) = (length attrs + (room_of inner + 2)) + room_of more

-- the place of an attribute of an element, by its number, and that directly behind its start tag
abbrev pub attr_place : ℕ → ℕ → ℕ
attr_place place number = suc (place + number)

abbrev pub inner_place : ℕ → Attrs → ℕ
inner_place place attrs = suc (place + length attrs)

abbrev pub behind_place : ℕ → Attrs → Nodes → ℕ
behind_place place attrs inner = place + (length attrs + (room_of inner + 2))

abbrev pub object_of : Role → Option ObjectRole
object_of (AnObject object) = Some object
object_of role = None

abbrev pub is_object : Item → Bool
is_object item = is_some (object_of item.role)

-- the number of the next object behind the start of an element of this role, and behind these elements
abbrev pub number_in : Role → ℕ → ℕ
number_in role number = if is_some (object_of role) then suc number else number

abbrev pub number_behind : List Item → ℕ → ℕ
number_behind items number = number + length (filter is_object items)

-- elements in document order; what stands in one that is skipped is skipped
abbrev pub item_with : Item → List Item → List Item
item_with item inner = item ∷ inner

abbrev pub items_in : MetaDesc → Externs → Role → Nodes → ℕ → ℕ → List Item
items_in meta outside parent Ends place number = []
items_in meta outside parent (Run characters more) place number = items_in meta outside parent more (suc place) number
items_in meta outside parent (Element name attrs inner more) place number =
    let role = role_in meta outside parent number name attrs in
    let own = item_with (record { place = place; role = role; name = name; attrs = attrs; inner = inner })
    (items_in meta outside role inner (inner_place place attrs) (number_in role number)) in
    own ++ items_in meta outside parent more (behind_place place attrs inner) (number_behind own number)

-- those of a tree
abbrev pub items : MetaDesc → Externs → Tree → List Item
items meta outside tree =
    let role = role_of_root meta tree.name tree.attrs in
    item_with (record { place = 0; role = role; name = tree.name; attrs = tree.attrs; inner = tree.inner })
    (items_in meta outside role tree.inner (inner_place 0 tree.attrs) (number_in role 0))

-- the elements that are objects, by their numbers
abbrev pub object_items : List Item → List Item
object_items all = filter is_object all
