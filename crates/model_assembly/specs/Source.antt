-- What the elements of a file write: identifiers, values and references by objects and properties (XMI 2.5.1, clauses 7 and 9).
use Rattle.std.specs.Prelude.{ℕ, suc, ◌==◌, ◌&&◌, Bool, false, not, nat_eq, is_some, List, [], ◌∷◌, ◌++◌, length, map, filter, filter_map, position, codes, slice_get, Option, None, Some, if◌then◌else◌}
use Rattle.std.specs.List.{list_any}
use Rattle.std.specs.Option.{unwrap_or}
use Rattle.std.specs.Fmt.{decimal}
use Rattle.mof_metamodel.specs.declared.desc.MetaDesc.{MetaDesc}
use Rattle.mof_metamodel.specs.Characters.{same_name, is_identifier_text}
use Rattle.mof_metamodel.specs.Metamodels.{united, prop_number}
use Rattle.xmi_text.specs.Trees.{Nodes, Ends, Run, Element, Tree}
use Rattle.model_assembly.specs.declared.fault.Externs.{Externs}
use Rattle.model_assembly.specs.Attributes.{Attrs, value_where, written_id, is_nil}
use Rattle.model_assembly.specs.References.{Target, Named, Extern, Contained, Nowhere, attribute_targets}
use Rattle.model_assembly.specs.Elements.{Item, Role, ObjectRole, AnObject, AValue, AReference, items, object_items, object_of, concrete_class}

-- a tree of elements, read by a metamodel
pub record Source : Type 0 where
  pub meta : MetaDesc
  pub outside : Externs
  pub tree : Tree

abbrev pub all_items : Source → List Item
all_items s = items s.meta s.outside s.tree

-- Objects of the file

abbrev pub item_at : Source → ℕ → Option Item
item_at s o = slice_get (object_items (all_items s)) o

abbrev pub class_in : Option ObjectRole → Option ℕ
class_in None = None
class_in (Some object) = object.class

abbrev pub item_class : Item → Option ℕ
item_class item = class_in (object_of item.role)

-- the identifier of an object that writes none: `_` and its number
abbrev pub given_id : ℕ → List ℕ
given_id number = 95 ∷ decimal number

abbrev pub ids_from : ℕ → List Item → List (List ℕ)
ids_from number [] = []
ids_from number (item ∷ rest) = unwrap_or (written_id item.attrs) (given_id number) ∷ ids_from (suc number) rest

-- the identifiers of the objects of the file, by number
abbrev pub file_ids : Source → List (List ℕ)
file_ids s = ids_from 0 (object_items (all_items s))

-- the identifier that is printed: what is written, if it is an identifier
abbrev pub proper : List ℕ → ℕ → List ℕ
proper id number = if is_identifier_text id then id else given_id number

abbrev pub printed_id : Source → ℕ → List ℕ
printed_id s o = proper (unwrap_or (slice_get (file_ids s) o) []) o

-- Primitive types that are named and aren't in the file

abbrev pub is_extern : List ℕ → Target → Bool
is_extern name (Extern other) = same_name name other
is_extern name target = false

abbrev pub uses : List ℕ → Role → Bool
uses name (AReference o p target) = is_extern name target
uses name role = false

abbrev pub primitive_class : MetaDesc → Option ℕ
primitive_class meta = concrete_class meta (codes "PrimitiveType")

abbrev pub is_added : Source → List ℕ → Bool
is_added s name =
    list_any (λ item. uses name item.role) (all_items s) && (not (list_any (same_name name) (file_ids s)) && is_some (primitive_class s.meta))

abbrev pub added_names : Source → List (List ℕ)
added_names s = filter (is_added s) (codes "String" ∷ codes "Integer" ∷ codes "Boolean" ∷ [])

-- All objects, those of the file first

abbrev pub all_ids : Source → List (List ℕ)
all_ids s = file_ids s ++ added_names s

abbrev pub all_classes : Source → List (Option ℕ)
all_classes s = map item_class (object_items (all_items s)) ++ map (λ name. primitive_class s.meta) (added_names s)

abbrev pub object_count : Source → ℕ
object_count s = length (all_ids s)

abbrev pub id_of : Source → ℕ → List ℕ
id_of s o = unwrap_or (slice_get (all_ids s) o) []

abbrev pub class_of : Source → ℕ → Option ℕ
class_of s o = unwrap_or (slice_get (all_classes s) o) None

-- Values

-- the name is that of the property in the class
abbrev pub is_number : Option ℕ → ℕ → Bool
is_number None p = false
is_number (Some q) p = q == p

abbrev pub attr_in : MetaDesc → Option ℕ → ℕ → Attrs → Option (List ℕ)
attr_in meta None p attrs = None
attr_in meta (Some c) p attrs = value_where (λ name. is_number (prop_number meta c name) p) attrs

-- what an object of the file writes as an attribute of the property
abbrev pub attr_of : MetaDesc → ℕ → Option Item → Option (List ℕ)
attr_of meta p None = None
attr_of meta p (Some item) = attr_in meta (item_class item) p item.attrs

abbrev pub attr_text : Source → ℕ → ℕ → Option (List ℕ)
attr_text s o p = attr_of s.meta p (item_at s o)

abbrev pub listed : Option (List ℕ) → List (List ℕ)
listed None = []
listed (Some text) = text ∷ []

-- the runs of characters directly in an element, joined
abbrev pub text_in : Nodes → List ℕ
text_in Ends = []
text_in (Run characters more) = characters ++ text_in more
text_in (Element name attrs inner more) = text_in more

abbrev pub is_at : ℕ → ℕ → ℕ → ℕ → Bool
is_at o p object property = (object == o) && (property == p)

-- whether an element is a value of the object at the property
abbrev pub is_value_at : ℕ → ℕ → Role → Bool
is_value_at o p (AValue object property) = is_at o p object property
is_value_at o p role = false

abbrev pub element_text : ℕ → ℕ → Item → Option (List ℕ)
element_text o p item = if is_value_at o p item.role && not (is_nil item.attrs) then Some (text_in item.inner) else None

-- the texts that an object of the file writes at an attribute: as an attribute, and then as elements
abbrev pub texts_at : Source → ℕ → ℕ → List (List ℕ)
texts_at s o p = listed (attr_text s o p) ++ filter_map (element_text o p) (all_items s)

-- References

-- the targets of an attribute
abbrev pub targets_of : Option (List ℕ) → List Target
targets_of None = []
targets_of (Some text) = attribute_targets text

abbrev pub target_if : Bool → Target → Option Target
target_if holds target = if holds then Some target else None

abbrev pub part_target : ℕ → ℕ → ℕ → Option (ℕ × ℕ) → Option Target
part_target o p number None = None
part_target o p number (Some container) = target_if (is_at o p container.0 container.1) (Contained number)

-- the target of an element of the object at the property
abbrev pub element_target_at : ℕ → ℕ → Role → Option Target
element_target_at o p (AReference object property target) = target_if (is_at o p object property) target
element_target_at o p (AnObject object) = part_target o p object.number object.within
element_target_at o p role = None

abbrev pub element_targets : Source → ℕ → ℕ → List Target
element_targets s o p = filter_map (λ item. element_target_at o p item.role) (all_items s)

-- what an object of the file writes at a reference: as an attribute, and then as elements
abbrev pub targets_at : Source → ℕ → ℕ → List Target
targets_at s o p = targets_of (attr_text s o p) ++ element_targets s o p

-- the object that a target is
abbrev pub number_of : Source → List ℕ → Option ℕ
number_of s id = position (same_name id) (all_ids s)

abbrev pub target_number : Source → Target → Option ℕ
target_number s (Named id) = number_of s id
target_number s (Extern name) = number_of s name
target_number s (Contained object) = Some object
target_number s (Nowhere text) = None

-- the objects that an object names at a reference, each once and at its first place
abbrev pub named_at : Source → ℕ → ℕ → List ℕ
named_at s o p = united [] (filter_map (target_number s) (targets_at s o p))

abbrev pub names : Source → ℕ → ℕ → ℕ → Bool
names s o p b = list_any (nat_eq b) (named_at s o p)
