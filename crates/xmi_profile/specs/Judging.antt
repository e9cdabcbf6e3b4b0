-- The first fault of the elements of a list, each seen by itself: the least place, and at one place the least kind.
use Rattle.std.specs.Prelude.{ℕ, suc, ◌==◌, ◌||◌, ◌&&◌, Bool, false, not, nat_lt, nat_le, is_some, List, [], ◌∷◌, slice_get, Option, None, Some, if◌then◌else◌}
use Rattle.std.specs.Option.{unwrap_or}
use Rattle.mof_metamodel.specs.declared.desc.MetaDesc.{MetaDesc}
use Rattle.mof_metamodel.specs.declared.desc.PropType.{PropType}
use Rattle.mof_metamodel.specs.Characters.{is_identifier_text}
use Rattle.mof_metamodel.specs.Metamodels.{prop_number, type_of}
use Rattle.object_tables.specs.Models.{is_class_type}
use Rattle.model_assembly.specs.declared.fault.ModelFault.{ModelFault}
use Rattle.model_assembly.specs.declared.fault.ModelFault.TheVariants as faults
use Rattle.xmi_profile.specs.declared.element.Element.{Element}
pub use Rattle.xmi_profile.specs.declared.judging.Found.{Found}
use Rattle.xmi_profile.specs.declared.names.Own.TheVariants as owns
use Rattle.model_assembly.specs.AssemblyFirsts.{conforms_to}
use Rattle.model_assembly.specs.Attributes.{Attrs, value_where, is_passed_name, is_nil}
use Rattle.model_assembly.specs.declared.role.Role.TheVariants as elements
use Rattle.model_assembly.specs.declared.role.Role.{Role}
use Rattle.model_assembly.specs.declared.role.ObjectRole.{ObjectRole}
use Rattle.model_assembly.specs.Elements.{attr_place, inner_place}
use Rattle.model_assembly.specs.FirstFault.{rank}
use Rattle.model_assembly.specs.Judged.{is_unknown_of, no_id}
use Rattle.model_assembly.specs.Profile.{prop_name}
use Rattle.xmi_profile.specs.Scanning.{is_own, number_where}
use Rattle.model_assembly.specs.Source.{given_id, proper}
use Rattle.model_assembly.specs.Values.{value_of}

-- a fault with its place

abbrev pub is_first : Found → Found → Bool
is_first a b = nat_lt a.place b.place || ((a.place == b.place) && nat_le (rank a.fault) (rank b.fault))

abbrev pub first_of : Option Found → Option Found → Option Found
first_of None b = b
first_of (Some a) None = Some a
first_of (Some a) (Some b) = if is_first a b then Some a else Some b

-- the identifier that is printed of an object, given those of the file
abbrev pub printed_of : List (List ℕ) → ℕ → List ℕ
printed_of ids o = proper (unwrap_or (slice_get ids o) []) o

-- the identifier that is printed of a fault in an element of this role
abbrev pub id_by : List (List ℕ) → Role → List ℕ
id_by ids (elements.AnObject object) = printed_of ids object.number
id_by ids (elements.AValue o p) = printed_of ids o
id_by ids (elements.AReference o p target) = printed_of ids o
id_by ids (elements.Neither o p) = printed_of ids o
id_by ids (elements.Misplaced o p) = printed_of ids o
id_by ids (elements.Stranger o) = printed_of ids o
id_by ids elements.Document = no_id
id_by ids elements.Skipped = no_id
id_by ids elements.Alien = no_id

-- Places

-- of the first attribute whose name passes, or else the element's
abbrev pub place_by : ℕ → Option ℕ → ℕ
place_by place None = place
place_by place (Some number) = attr_place place number

abbrev pub place_of : (List ℕ → Bool) → Element → ℕ
place_of passes e = place_by e.place (number_where passes e.attrs)

-- of the first run of characters, or else directly behind the start tag
abbrev pub text_place : Element → ℕ
text_place e = unwrap_or e.text_at (inner_place e.place e.attrs)

-- Attributes

abbrev pub is_no_value : MetaDesc → Option PropType → List ℕ → Bool
is_no_value meta type text = not (is_some (value_of meta type text))

abbrev pub is_wrong_value : MetaDesc → List ℕ → Option ℕ → Bool
is_wrong_value meta text None = false
is_wrong_value meta text (Some p) = if is_class_type (type_of meta p) then false else is_no_value meta (type_of meta p) text

-- of an object of this class, an attribute whose text is no value of the property
abbrev pub is_wrong_attr : MetaDesc → Option ℕ → List ℕ → List ℕ → Bool
is_wrong_attr meta None name text = false
is_wrong_attr meta (Some c) name text = is_wrong_value meta text (prop_number meta c name)

abbrev pub class_by : Role → Option ℕ
class_by (elements.AnObject object) = object.class
class_by role = None

abbrev pub is_unknown : MetaDesc → Element → List ℕ → Bool
is_unknown meta e name = not (is_passed_name name) && is_unknown_of meta e.role e.attrs name

abbrev pub attr_fault : MetaDesc → List (List ℕ) → Element → List ℕ × List ℕ → Option ModelFault
attr_fault meta ids e attr =
    if is_unknown meta e attr.0 then Some (faults.UnknownProperty (id_by ids e.role) attr.0)
    else if is_wrong_attr meta (class_by e.role) attr.0 attr.1 then Some (faults.WrongValue (id_by ids e.role) (Some attr.0))
    else None

-- the first fault of attributes, of which the first has this number
abbrev pub found_at : ℕ → ModelFault → Found
found_at place fault = record { place = place; fault = fault }

abbrev pub or_later : ℕ → Option ModelFault → Option Found → Option Found
or_later place None later = later
or_later place (Some fault) later = Some (found_at place fault)

abbrev pub attrs_fault : MetaDesc → List (List ℕ) → Element → ℕ → Attrs → Option Found
attrs_fault meta ids e number [] = None
attrs_fault meta ids e number (a ∷ attrs) = or_later (attr_place e.place number) (attr_fault meta ids e a) (attrs_fault meta ids e (suc number) attrs)

-- The rest of an element

-- a wrong value of an object's property
abbrev pub wrong_of : MetaDesc → List (List ℕ) → ℕ → ℕ → ModelFault
wrong_of meta ids o p = faults.WrongValue (printed_of ids o) (Some (prop_name meta p))

abbrev pub found_if : Option ℕ → ModelFault → Option Found
found_if None fault = None
found_if (Some place) fault = Some (found_at place fault)

-- characters stand where none may: in the document, and in an object
abbrev pub document_fault : Element → Option Found
document_fault e = found_if e.odd_at (faults.WrongValue no_id None)

abbrev pub text_fault : List (List ℕ) → Element → ℕ → Option Found
text_fault ids e o = found_if e.odd_at (faults.WrongValue (printed_of ids o) None)

abbrev pub reference_fault : MetaDesc → List (List ℕ) → Element → ℕ → ℕ → Option Found
reference_fault meta ids e o p = found_if e.odd_at (wrong_of meta ids o p)

abbrev pub value_fault : MetaDesc → List (List ℕ) → Element → ℕ → ℕ → Option Found
value_fault meta ids e o p =
    if is_nil e.attrs || not (is_no_value meta (type_of meta p) e.text) then None else Some (found_at (text_place e) (wrong_of meta ids o p))

-- an identifier that is none
abbrev pub id_fault_by : Element → ℕ → Option (List ℕ) → Option Found
id_fault_by e o None = None
id_fault_by e o (Some id) =
    if is_identifier_text id then None else Some (found_at (place_of (is_own owns.Id) e) (faults.WrongValue (given_id o) None))

abbrev pub id_fault : Element → ℕ → Option Found
id_fault e o = id_fault_by e o (value_where (is_own owns.Id) e.attrs)

abbrev pub class_fault : Element → List ℕ → Option Found
class_fault e named = Some (found_at (place_of (is_own owns.Type) e) (faults.UnknownClass named))

-- a contained object whose class doesn't conform to the property's type
abbrev pub part_fault : MetaDesc → List (List ℕ) → Element → ℕ → Option (ℕ × ℕ) → Option Found
part_fault meta ids e class None = None
part_fault meta ids e class (Some within) =
    if conforms_to meta class (type_of meta within.1) then None else Some (found_at e.place (wrong_of meta ids within.0 within.1))

-- of an object, given its class
abbrev pub fault_by_class : MetaDesc → List (List ℕ) → Element → ObjectRole → Option ℕ → Option Found
fault_by_class meta ids e object None = class_fault e object.named
fault_by_class meta ids e object (Some class) = first_of (text_fault ids e object.number) (part_fault meta ids e class object.within)

abbrev pub object_fault : MetaDesc → List (List ℕ) → Element → ObjectRole → Option Found
object_fault meta ids e object = first_of (id_fault e object.number) (fault_by_class meta ids e object object.class)

abbrev pub role_fault : MetaDesc → List (List ℕ) → Element → Role → Option Found
role_fault meta ids e elements.Document = document_fault e
role_fault meta ids e (elements.AnObject object) = object_fault meta ids e object
role_fault meta ids e (elements.AValue o p) = value_fault meta ids e o p
role_fault meta ids e (elements.AReference o p target) = reference_fault meta ids e o p
role_fault meta ids e (elements.Neither o p) = Some (found_at e.place (wrong_of meta ids o p))
role_fault meta ids e (elements.Misplaced o p) = Some (found_at e.place (wrong_of meta ids o p))
role_fault meta ids e (elements.Stranger o) = Some (found_at e.place (faults.UnknownProperty (printed_of ids o) e.name))
role_fault meta ids e elements.Alien = Some (found_at e.place (faults.UnknownClass e.name))
role_fault meta ids e elements.Skipped = None

-- Elements

abbrev pub element_fault : MetaDesc → List (List ℕ) → Element → Option Found
element_fault meta ids e = first_of (attrs_fault meta ids e 0 e.attrs) (role_fault meta ids e e.role)

-- the first of this fault and those of elements
abbrev pub first_fault : MetaDesc → List (List ℕ) → Option Found → List Element → Option Found
first_fault meta ids found [] = found
first_fault meta ids found (e ∷ es) = first_fault meta ids (first_of found (element_fault meta ids e)) es
