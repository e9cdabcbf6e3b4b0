-- A model as a value of JSON (RFC 8259), and its text: the objects by number, each with its class, its identifier, and its slots by the
-- names of their properties (UML 2.5.1, 9.8.3: a slot has the values of one property). A slot is left out where it is empty, and
-- where it would repeat what the container's slot says.
use Rattle.std.specs.Prelude.{ℕ, List, [], ◌∷◌, ◌++◌, map, codes, encode_utf8_all, is_some, if◌then◌else◌}
use Rattle.serde_json.specs.Data.{unsigned, Data, boolean, number, string, array, object, Members, no_members, member, put}
use Rattle.serde_json.specs.Find.{of_integer}
use Rattle.serde_json.specs.View.{items_of}
use Rattle.serde_json.specs.Written.{compact_text}
use Rattle.mof_metamodel.specs.declared.desc.MetaDesc.{MetaDesc}
use Rattle.mof_metamodel.specs.Metamodels.{literal_at}
use Rattle.object_tables.specs.declared.value.Value.{Value}
use Rattle.object_tables.specs.declared.value.Value.TheVariants as values
use Rattle.object_tables.specs.Models.{ModelData, object_at, values_at, partners_at}
use Rattle.model_assembly.specs.declared.form.Form.{Form}
use Rattle.model_assembly.specs.declared.form.Form.TheVariants.{Attribute, Elements, Identifiers, Parts, Nesting}
use Rattle.model_assembly.specs.Forms.{form_of}
use Rattle.model_assembly.specs.Profile.{prop_name, id_text, class_text, object_props, live_numbers}

-- a text, as its bytes in UTF-8
abbrev pub text_data : List ℕ → Data
text_data text = string (encode_utf8_all text)

-- a value of an attribute: a text, an Integer, a Boolean, or the name of a literal
abbrev pub value_data : MetaDesc → Value → Data
value_data meta (values.Str text) = text_data text
value_data meta (values.Int i) = number (of_integer i)
value_data meta (values.Bool b) = boolean b
value_data meta (values.Lit e n) = text_data (literal_at meta e.0 n)

-- a partner, by its identifier
abbrev pub partner_data : ModelData → ℕ → Data
partner_data m b = text_data (id_text m b)

-- what stands in the slot of an object at a property of this form
abbrev pub data_by : ModelData → ℕ → ℕ → Form → List Data
data_by m o p Attribute = map (value_data m.meta) (values_at m o p)
data_by m o p Elements = map (value_data m.meta) (values_at m o p)
data_by m o p Identifiers = map (partner_data m) (partners_at m o p)
data_by m o p Parts = map (partner_data m) (partners_at m o p)
data_by m o p Nesting = []

abbrev pub slot_data : ModelData → ℕ → ℕ → List Data
slot_data m o p = data_by m o p (form_of m.meta p)

-- the slots with one more, unless it is empty
abbrev pub with_slot : List ℕ → List Data → Members → Members
with_slot name [] slots = slots
with_slot name (d ∷ ds) slots = put (encode_utf8_all name) (array (items_of (d ∷ ds))) slots

-- the slots with those of an object at these properties
abbrev pub with_slots : ModelData → ℕ → List ℕ → Members → Members
with_slots m o [] slots = slots
with_slots m o (p ∷ ps) slots = with_slots m o ps (with_slot (prop_name m.meta p) (slot_data m o p) slots)

abbrev pub slots_data : ModelData → ℕ → Members
slots_data m o = with_slots m o (object_props m o) no_members

abbrev pub object_data : ModelData → ℕ → Data
object_data m o =
    object
    (member (codes "class") (text_data (class_text m o))
    (member (codes "id") (text_data (id_text m o))
    (member (codes "slots") (object (slots_data m o)) no_members)))

-- an object of this number, if there is one
abbrev pub live_data : ModelData → ℕ → List Data
live_data m o = if is_some (object_at m o) then object_data m o ∷ [] else []

abbrev pub objects_data : ModelData → List Data
objects_data m = map (object_data m) (live_numbers m)

abbrev pub model_data : ModelData → Data
model_data m =
    object
    (member (codes "metamodel") (text_data m.meta.name)
    (member (codes "objects") (array (items_of (objects_data m)))
    (member (codes "version") (number (unsigned 1)) no_members)))

-- the text of a model: one line
abbrev pub canon_json : ModelData → List ℕ
canon_json m = compact_text (model_data m) ++ 10 ∷ []
