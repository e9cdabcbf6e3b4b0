-- Which kinds of faults stand at an element, seen by itself (XMI 2.5.1, clause 7).
use Rattle.std.specs.Prelude.{◌≡◌, ◌⊎◌, ℕ, suc, ◌||◌, ◌&&◌, Bool, true, false, not, is_some, List, [], ◌∷◌, codes, slice_get, Contains, Option, None, Some, if◌then◌else◌}
use Rattle.mof_metamodel.specs.declared.desc.MetaDesc.{MetaDesc}
use Rattle.mof_metamodel.specs.Characters.{is_identifier_text}
use Rattle.mof_metamodel.specs.Metamodels.{prop_number, type_of}
use Rattle.object_tables.specs.Models.{is_class_type, ConformsTo}
use Rattle.xmi_text.specs.Trees.{Nodes, Ends, Run, Element}
use Rattle.model_assembly.specs.Attributes.{Attrs, first_attr, value_where, is_id_name, is_type_name, is_idref_name, is_nil_name, is_href_name, is_kept_name, is_passed_name, is_nil}
use Rattle.model_assembly.specs.Elements as elements
use Rattle.model_assembly.specs.Elements.{Item, Role, ObjectRole, attr_place, inner_place, behind_place}
use Rattle.model_assembly.specs.Profile.{prop_name}
use Rattle.model_assembly.specs.Source.{Source, given_id, printed_id, text_in}
use Rattle.model_assembly.specs.Values.{is_all_blank, value_of}

-- Places in an element

-- the place of an attribute that was found, or the element's
abbrev pub found_place : ℕ → Option (ℕ × List ℕ) → ℕ
found_place place None = place
found_place place (Some found) = attr_place place found.0

abbrev pub type_place : Item → ℕ
type_place item = found_place item.place (first_attr is_type_name item.attrs)

abbrev pub id_place : Item → ℕ
id_place item = found_place item.place (first_attr is_id_name item.attrs)

-- the runs of characters directly in an element, with their places
abbrev pub runs_in : Nodes → ℕ → List (ℕ × List ℕ)
runs_in Ends place = []
runs_in (Run characters more) place = (place, characters) ∷ runs_in more (suc place)
runs_in (Element name attrs inner more) place = runs_in more (behind_place place attrs inner)

abbrev pub runs : Item → List (ℕ × List ℕ)
runs item = runs_in item.inner (inner_place item.place item.attrs)

-- the place of the first run, or that directly behind the start tag
abbrev pub first_place : ℕ → List (ℕ × List ℕ) → ℕ
first_place place [] = place
first_place place (run ∷ rest) = run.0

abbrev pub text_place : Item → ℕ
text_place item = first_place (inner_place item.place item.attrs) (runs item)

-- this attribute stands at this place of the element
abbrev pub IsAttrAt : Item → ℕ → List ℕ → List ℕ → Type 0
IsAttrAt item place name text = (number : ℕ) × (slice_get item.attrs number ≡ Some (name, text)) × (place ≡ attr_place item.place number)

-- characters that aren't all blank stand in the element
abbrev pub IsTextAt : Item → ℕ → Type 0
IsTextAt item place = (characters : List ℕ) × Contains (runs item) (place, characters) × (is_all_blank characters ≡ false)

-- UnknownClass

abbrev pub IsAlien : Item → Role → ℕ → List ℕ → Type 0
IsAlien item elements.Alien place name = (place ≡ item.place) × (name ≡ item.name)
IsAlien item (elements.AnObject object) place name = (object.class ≡ None) × (place ≡ type_place item) × (name ≡ object.named)
IsAlien item role place name = ⊥

-- no concrete class has the name, or the element isn't of the profile
abbrev pub IsUnknownClass : Item → ℕ → List ℕ → Type 0
IsUnknownClass item place name = IsAlien item item.role place name

-- UnknownProperty

-- what an attribute of the document, of an object, of a value's and of a reference's element may not be
abbrev pub is_unknown_of_object : MetaDesc → Option ℕ → List ℕ → Bool
is_unknown_of_object meta None name = false
is_unknown_of_object meta (Some c) name =
    if is_id_name name || is_type_name name then false
    else is_kept_name name || not (is_some (prop_number meta c name))

abbrev pub is_unknown_of_reference : Attrs → List ℕ → Bool
is_unknown_of_reference attrs name =
    if is_some (value_where is_idref_name attrs) then not (is_idref_name name || is_type_name name) else not (is_href_name name || is_type_name name)

abbrev pub is_unknown_of : MetaDesc → Role → Attrs → List ℕ → Bool
is_unknown_of meta elements.Document attrs name = true
is_unknown_of meta (elements.AnObject object) attrs name = is_unknown_of_object meta object.class name
is_unknown_of meta (elements.AValue o p) attrs name = not (is_nil_name name)
is_unknown_of meta (elements.AReference o p target) attrs name = is_unknown_of_reference attrs name
is_unknown_of meta role attrs name = false

-- the attribute isn't passed over, and has no meaning at the element
abbrev pub is_unknown_attr : MetaDesc → Item → List ℕ → Bool
is_unknown_attr meta item name = not (is_passed_name name) && is_unknown_of meta item.role item.attrs name

-- the identifier that is printed of a fault in the element
abbrev pub no_id : List ℕ
no_id = codes "-"

abbrev pub id_in : Source → Role → List ℕ
id_in s (elements.AnObject object) = printed_id s object.number
id_in s (elements.AValue o p) = printed_id s o
id_in s (elements.AReference o p target) = printed_id s o
id_in s (elements.Neither o p) = printed_id s o
id_in s (elements.Misplaced o p) = printed_id s o
id_in s (elements.Stranger o) = printed_id s o
id_in s elements.Document = no_id
id_in s elements.Skipped = no_id
id_in s elements.Alien = no_id

abbrev pub IsStranger : Item → Role → ℕ → List ℕ → Type 0
IsStranger item (elements.Stranger o) place prop = (place ≡ item.place) × (prop ≡ item.name)
IsStranger item role place prop = ⊥

abbrev pub IsUnknownAttr : Source → Item → ℕ → List ℕ → Type 0
IsUnknownAttr s item place prop = (text : List ℕ) × IsAttrAt item place prop text × (is_unknown_attr s.meta item prop ≡ true)

-- the element or an attribute of it names no property, or has no meaning there
abbrev pub IsUnknownProperty : Source → Item → ℕ → List ℕ → List ℕ → Type 0
IsUnknownProperty s item place id prop = (id ≡ id_in s item.role) × (IsStranger item item.role place prop ⊎ IsUnknownAttr s item place prop)

-- WrongValue

-- an identifier that is empty or holds a blank
pub record IsWrongId (item : Item) (object : ObjectRole) (place : ℕ) (id : List ℕ) (prop : Option (List ℕ)) : Type 0 where
  pub written : List ℕ
  pub found : value_where is_id_name item.attrs ≡ Some written
  pub wrong : is_identifier_text written ≡ false
  pub place_is : place ≡ id_place item
  pub id_is : id ≡ given_id object.number
  pub prop_is : prop ≡ None

-- an attribute whose text is no value of the property
pub record IsWrongAttr (s : Source) (item : Item) (object : ObjectRole) (place : ℕ) (id : List ℕ) (prop : Option (List ℕ)) : Type 0 where
  pub class : ℕ
  pub class_is : object.class ≡ Some class
  pub name : List ℕ
  pub text : List ℕ
  pub attr : IsAttrAt item place name text
  pub property : ℕ
  pub property_is : prop_number s.meta class name ≡ Some property
  pub attribute : is_class_type (type_of s.meta property) ≡ false
  pub wrong : value_of s.meta (type_of s.meta property) text ≡ None
  pub id_is : id ≡ printed_id s object.number
  pub prop_is : prop ≡ Some name

-- characters in the element of an object of a known class
pub record IsTextInObject (s : Source) (item : Item) (object : ObjectRole) (place : ℕ) (id : List ℕ) (prop : Option (List ℕ)) : Type 0 where
  pub known : is_some object.class ≡ true
  pub text : IsTextAt item place
  pub id_is : id ≡ printed_id s object.number
  pub prop_is : prop ≡ None

-- a contained object whose class doesn't conform to the property's type
pub record IsWrongPart (s : Source) (item : Item) (object : ObjectRole) (place : ℕ) (id : List ℕ) (prop : Option (List ℕ)) : Type 0 where
  pub container : ℕ
  pub property : ℕ
  pub within : object.within ≡ Some (container, property)
  pub class : ℕ
  pub class_is : object.class ≡ Some class
  pub other : ¬ ConformsTo s.meta class (type_of s.meta property)
  pub place_is : place ≡ item.place
  pub id_is : id ≡ printed_id s container
  pub prop_is : prop ≡ Some (prop_name s.meta property)

abbrev pub IsWrongObject : Source → Item → ObjectRole → ℕ → List ℕ → Option (List ℕ) → Type 0
IsWrongObject s item object place id prop =
    IsWrongId item object place id prop ⊎ (IsWrongAttr s item object place id prop ⊎ (IsTextInObject s item object place id prop ⊎ IsWrongPart s item object place id prop))

-- a text that is no value of the property, in an element that has one
pub record IsWrongText (s : Source) (item : Item) (p place : ℕ) : Type 0 where
  pub valued : is_nil item.attrs ≡ false
  pub wrong : value_of s.meta (type_of s.meta p) (text_in item.inner) ≡ None
  pub place_is : place ≡ text_place item

-- a fault in an element at a property of an object
abbrev pub IsOfProperty : Source → ℕ → ℕ → List ℕ → Option (List ℕ) → Type 0
IsOfProperty s o p id prop = (id ≡ printed_id s o) × (prop ≡ Some (prop_name s.meta p))

abbrev pub IsWrong : Source → Item → Role → ℕ → List ℕ → Option (List ℕ) → Type 0
IsWrong s item elements.Document place id prop = IsTextAt item place × (id ≡ no_id) × (prop ≡ None)
IsWrong s item (elements.AnObject object) place id prop = IsWrongObject s item object place id prop
IsWrong s item (elements.AValue o p) place id prop = IsWrongText s item p place × IsOfProperty s o p id prop
IsWrong s item (elements.AReference o p target) place id prop = IsTextAt item place × IsOfProperty s o p id prop
IsWrong s item (elements.Neither o p) place id prop = (place ≡ item.place) × IsOfProperty s o p id prop
IsWrong s item (elements.Misplaced o p) place id prop = (place ≡ item.place) × IsOfProperty s o p id prop
IsWrong s item role place id prop = ⊥

-- a text or an element stands where it may not, or a text isn't what it is to be
abbrev pub IsWrongValue : Source → Item → ℕ → List ℕ → Option (List ℕ) → Type 0
IsWrongValue s item place id prop = IsWrong s item item.role place id prop
