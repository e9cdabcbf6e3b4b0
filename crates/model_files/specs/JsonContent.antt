-- What a model as a value of JSON says, and its faults. Its objects are in the order of the list. What they write is what a tree of
-- elements writes (XMI 2.5.1, clause 9): each slot of a reference as an attribute of identifiers, also where it is empty, and each value
-- as a child element. So links, their orders and the faults of references are those of such a tree.
use Rattle.std.specs.Prelude.{◌≡◌, ◌<◌, ◌≤◌, ℕ, suc, Bool, false, not, is_some, List, [], ◌∷◌, ◌++◌, length, map, codes, chars, Option, None, Some, if◌then◌else◌}
use Rattle.std.specs.Fmt.{signed_decimal}
use Rattle.std.specs.List.{list_any}
use Rattle.std.specs.Option.{option_map, option_and_then, option_or, unwrap_or}
use Rattle.serde_json.specs.Data.{Data, boolean, number, string, array, object, Items, no_items, item, Members, no_members, member}
use Rattle.serde_json.specs.Find.{get_member, as_i64}
use Rattle.object_tables.specs.declared.limit.TheConstants.{MAX_OBJECTS}
use Rattle.object_tables.specs.declared.limit.LimitKind.{LimitKind}
use Rattle.object_tables.specs.declared.limit.LimitKind.TheVariants as limits
use Rattle.mof_metamodel.specs.declared.desc.MetaDesc.{MetaDesc}
use Rattle.mof_metamodel.specs.declared.desc.PropType.{PropType}
use Rattle.mof_metamodel.specs.declared.desc.PropType.TheVariants as types
use Rattle.mof_metamodel.specs.Characters.{same_name, is_storable_text, is_identifier_text}
use Rattle.mof_metamodel.specs.Metamodels.{prop_number, type_of, literal_number, literal_at}
use Rattle.object_tables.specs.declared.value.Value.{Value}
use Rattle.object_tables.specs.declared.value.Value.TheVariants as values
use Rattle.object_tables.specs.Models.{ModelData, is_class_type}
use Rattle.xmi_text.specs.Trees.{Nodes, Ends, Run, Element}
use Rattle.model_assembly.specs.declared.fault.Externs.TheVariants as externs
use Rattle.model_assembly.specs.declared.fault.ModelFault.{ModelFault}
use Rattle.model_assembly.specs.declared.fault.ModelFault.TheVariants as faults
use Rattle.model_assembly.specs.Elements.{concrete_class}
use Rattle.model_assembly.specs.FirstFault.{IsFirstFault, IsModel}
use Rattle.model_assembly.specs.Profile.{xmi_document, xmi_id, xmi_type}
use Rattle.model_assembly.specs.Source.{Source, proper}
use Rattle.model_files.specs.Shape.{first_amiss}

-- Objects as they are written

-- an object of the list: its class, its identifier, and its slots by name
pub record Written : Type 0 where
  pub class : List ℕ
  pub id : List ℕ
  pub slots : List (List ℕ × List Data)

abbrev pub items_list : Items → List Data
items_list no_items = []
items_list (item d ds) = d ∷ items_list ds

abbrev pub in_list : Data → List Data
in_list (array ds) = items_list ds
in_list d = []

abbrev pub slots_list : Members → List (List ℕ × List Data)
slots_list no_members = []
slots_list (member name d others) = (chars name, in_list d) ∷ slots_list others

abbrev pub in_slots : Data → List (List ℕ × List Data)
in_slots (object slots) = slots_list slots
in_slots d = []

abbrev pub text_of : Option Data → List ℕ
text_of (Some (string s)) = chars s
text_of d = []

abbrev pub slots_of : Option Data → List (List ℕ × List Data)
slots_of None = []
slots_of (Some d) = in_slots d

abbrev pub written_of : Data → Written
written_of (object members) =
    record { class = text_of (get_member (codes "class") members); id = text_of (get_member (codes "id") members); slots = slots_of (get_member (codes "slots") members) }
written_of d = record { class = []; id = []; slots = [] }

abbrev pub list_at : Option Data → List Data
list_at None = []
list_at (Some d) = in_list d

-- the objects of a value that has the form of a model
abbrev pub objects_of : Data → List Written
objects_of (object members) = map written_of (list_at (get_member (codes "objects") members))
objects_of d = []

-- Values

-- the value of the type that an item is
abbrev pub text_value : List ℕ → Option Value
text_value text = if is_storable_text text then Some (values.Str text) else None

abbrev pub value_of : MetaDesc → Option PropType → Data → Option Value
value_of meta (Some types.Str) (string s) = text_value (chars s)
value_of meta (Some types.Int) (number n) = option_map (λ i. values.Int i) (as_i64 n)
value_of meta (Some types.Bool) (boolean b) = Some (values.Bool b)
value_of meta (Some (types.Enum e)) (string s) = option_map (λ n. values.Lit e n) (literal_number meta e.0 (chars s))
value_of meta type d = None

-- whether an item is an identifier
abbrev pub is_reference : Data → Bool
is_reference (string s) = is_identifier_text (chars s)
is_reference d = false

-- whether an item may stand in a slot of this type
abbrev pub may_stand : MetaDesc → Option PropType → Data → Bool
may_stand meta type d = if is_class_type type then is_reference d else is_some (value_of meta type d)

-- Faults that are told by their place: the first by objects; in an object its class comes first, then its identifier, and then its
-- slots by name, each with its items in order

-- the fault, unless the test holds
abbrev pub unless : Bool → ModelFault → Option ModelFault
unless holds fault = if holds then None else Some fault

abbrev pub wrong_in : MetaDesc → List ℕ → List ℕ → Option PropType → List Data → Option ModelFault
wrong_in meta id name type [] = None
wrong_in meta id name type (d ∷ ds) =
    option_or (unless (may_stand meta type d) (faults.WrongValue id (Some name))) (wrong_in meta id name type ds)

abbrev pub wrong_at : MetaDesc → List ℕ → List ℕ → Option ℕ → List Data → Option ModelFault
wrong_at meta id name None ds = Some (faults.UnknownProperty id name)
wrong_at meta id name (Some p) ds = wrong_in meta id name (type_of meta p) ds

abbrev pub wrong_slots : MetaDesc → List ℕ → ℕ → List (List ℕ × List Data) → Option ModelFault
wrong_slots meta id c [] = None
wrong_slots meta id c (slot ∷ slots) = option_or (wrong_at meta id slot.0 (prop_number meta c slot.0) slot.1) (wrong_slots meta id c slots)

-- an identifier is one, and no earlier object has it
abbrev pub wrong_id : List (List ℕ) → ℕ → List ℕ → Option ModelFault
wrong_id earlier place id =
    option_or (unless (is_identifier_text id) (faults.WrongValue (proper id place) None))
    (unless (not (list_any (same_name id) earlier)) (faults.DuplicateId id))

abbrev pub wrong_object : MetaDesc → List (List ℕ) → ℕ → Written → Option ℕ → Option ModelFault
wrong_object meta earlier place written None = Some (faults.UnknownClass written.class)
wrong_object meta earlier place written (Some c) =
    option_or (wrong_id earlier place written.id) (wrong_slots meta (proper written.id place) c written.slots)

abbrev pub wrong_from : MetaDesc → List (List ℕ) → ℕ → List Written → Option ModelFault
wrong_from meta earlier place [] = None
wrong_from meta earlier place (written ∷ rest) =
    option_or (wrong_object meta earlier place written (concrete_class meta written.class)) (wrong_from meta (earlier ++ written.id ∷ []) (suc place) rest)

abbrev pub first_wrong : MetaDesc → List Written → Option ModelFault
first_wrong meta objects = wrong_from meta [] 0 objects

-- The tree that writes the same

-- texts with a blank between
abbrev pub with_blanks : List (List ℕ) → List ℕ
with_blanks [] = []
with_blanks (text ∷ []) = text
with_blanks (text ∷ other ∷ rest) = text ++ 32 ∷ with_blanks (other ∷ rest)

abbrev pub item_text : Data → List ℕ
item_text d = text_of (Some d)

abbrev pub value_text : MetaDesc → Option Value → List ℕ
value_text meta None = []
value_text meta (Some (values.Str text)) = text
value_text meta (Some (values.Int i)) = signed_decimal i
value_text meta (Some (values.Bool b)) = if b then codes "true" else codes "false"
value_text meta (Some (values.Lit e n)) = literal_at meta e.0 n

abbrev pub type_in : MetaDesc → ℕ → List ℕ → Option PropType
type_in meta c name = option_and_then (type_of meta) (prop_number meta c name)

-- the slots of references, as attributes
abbrev pub reference_attrs : MetaDesc → ℕ → List (List ℕ × List Data) → List (List ℕ × List ℕ)
reference_attrs meta c [] = []
reference_attrs meta c (slot ∷ slots) =
    if is_class_type (type_in meta c slot.0) then (slot.0, with_blanks (map item_text slot.1)) ∷ reference_attrs meta c slots else reference_attrs meta c slots

-- the values of a slot in front of others, each as an element
abbrev pub value_elements : MetaDesc → List ℕ → Option PropType → List Data → Nodes → Nodes
value_elements meta name type [] more = more
value_elements meta name type (d ∷ ds) more =
    Element name [] (Run (value_text meta (value_of meta type d)) Ends) (value_elements meta name type ds more)

abbrev pub slot_elements : MetaDesc → ℕ → List (List ℕ × List Data) → Nodes
slot_elements meta c [] = Ends
slot_elements meta c (slot ∷ slots) =
    if is_class_type (type_in meta c slot.0) then slot_elements meta c slots
    else value_elements meta slot.0 (type_in meta c slot.0) slot.1 (slot_elements meta c slots)

abbrev pub class_in : MetaDesc → Written → ℕ
class_in meta written = unwrap_or (concrete_class meta written.class) 0

abbrev pub object_elements : MetaDesc → List Written → Nodes
object_elements meta [] = Ends
object_elements meta (written ∷ rest) =
    let c = class_in meta written in
    Element written.class ((xmi_id, written.id) ∷ (xmi_type, written.class) ∷ reference_attrs meta c written.slots) (slot_elements meta c written.slots)
    (object_elements meta rest)

abbrev pub source_of : MetaDesc → Data → Source
source_of meta d =
    record { meta = meta; outside = externs.None; tree = record { name = xmi_document; attrs = []; inner = object_elements meta (objects_of d) } }

-- Models and faults

-- the value of JSON is this model
pub record SpellsModel (meta : MetaDesc) (d : Data) (m : ModelData) : Type 0 where
  pub shape : first_amiss d ≡ None
  pub right : first_wrong meta (objects_of d) ≡ None
  pub model : IsModel (source_of meta d) m

-- there are more objects than a model may have
pub record HasTooMany (d : Data) : Type 0 where
  pub shape : first_amiss d ≡ None
  pub more : MAX_OBJECTS < length (objects_of d)

-- the fault is the first that is told by its place
pub record IsFirstOfPlaces (meta : MetaDesc) (d : Data) (fault : ModelFault) : Type 0 where
  pub shape : first_amiss d ≡ None
  pub fewer : length (objects_of d) ≤ MAX_OBJECTS
  pub first : first_wrong meta (objects_of d) ≡ Some fault

-- no fault is told by its place, and of those of references, of validity and of depth this is the first
pub record IsFirstOfOthers (meta : MetaDesc) (d : Data) (fault : ModelFault) : Type 0 where
  pub shape : first_amiss d ≡ None
  pub fewer : length (objects_of d) ≤ MAX_OBJECTS
  pub right : first_wrong meta (objects_of d) ≡ None
  pub first : IsFirstFault (source_of meta d) fault

-- the fault is the one that is told of a value that has the form of a model
abbrev pub IsLimit : MetaDesc → Data → LimitKind → Type 0
IsLimit meta d limits.Objects = HasTooMany d
IsLimit meta d limits.Depth = IsFirstOfOthers meta d (faults.Limit limits.Depth)

abbrev pub IsFirstContentFault : MetaDesc → Data → ModelFault → Type 0
IsFirstContentFault meta d (faults.UnknownClass name) = IsFirstOfPlaces meta d (faults.UnknownClass name)
IsFirstContentFault meta d (faults.UnknownProperty id prop) = IsFirstOfPlaces meta d (faults.UnknownProperty id prop)
IsFirstContentFault meta d (faults.WrongValue id prop) = IsFirstOfPlaces meta d (faults.WrongValue id prop)
IsFirstContentFault meta d (faults.DuplicateId id) = IsFirstOfPlaces meta d (faults.DuplicateId id)
IsFirstContentFault meta d (faults.Dangling id prop reference) = IsFirstOfOthers meta d (faults.Dangling id prop reference)
IsFirstContentFault meta d (faults.TwoContainers id) = IsFirstOfOthers meta d (faults.TwoContainers id)
IsFirstContentFault meta d (faults.Mismatch id prop other other_prop) = IsFirstOfOthers meta d (faults.Mismatch id prop other other_prop)
IsFirstContentFault meta d (faults.Invalid breach id) = IsFirstOfOthers meta d (faults.Invalid breach id)
IsFirstContentFault meta d (faults.Limit kind) = IsLimit meta d kind
