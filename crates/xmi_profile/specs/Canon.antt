-- The canonical text of a model as XMI (XMI 2.5.1, clause 9), as the calls of a writer that make it: two lines of head, a line for
-- the start of each object's element and of each value, each element's end under its start, and a line of foot.
use Rattle.std.specs.Prelude.{ℕ, zero, suc, ◌-◌, ◌==◌, Bool, not, List, [], ◌∷◌, ◌++◌, map, filter, length, codes, encode_utf8_all, if◌then◌else◌}
use Rattle.std.specs.List.{flat_map}
use Rattle.std.specs.Fmt.{signed_decimal}
use Rattle.mof_metamodel.specs.declared.desc.MetaDesc.{MetaDesc}
use Rattle.object_tables.specs.declared.limit.TheConstants.{MAX_DEPTH}
use Rattle.mof_metamodel.specs.Metamodels.{literal_at}
use Rattle.object_tables.specs.declared.value.Value.{Value}
use Rattle.object_tables.specs.declared.value.Value.TheVariants as values
use Rattle.object_tables.specs.Models.{ModelData, values_at, partners_at}
use Rattle.xmi_text.specs.Calls.{Call, Open, Attr, Data, Close, Declare, Line, wrote}
use Rattle.xmi_text.specs.Writing.{nothing}
use Rattle.model_assembly.specs.declared.form.Form.{Form}
use Rattle.model_assembly.specs.declared.form.Form.TheVariants as forms
use Rattle.model_assembly.specs.Forms.{form_of}
use Rattle.model_assembly.specs.Profile.{xmi_namespace, xmi_version, xmi_document, xmi_id, xmi_type, prop_name, class_text, id_text, object_props, live_numbers, is_part}

-- the text of a value (XML Schema 1.0 part 2, 3.2 and 3.3: the canonical lexical forms)
abbrev pub boolean_text : Bool → List ℕ
boolean_text b = if b then codes "true" else codes "false"

abbrev pub value_text : MetaDesc → Value → List ℕ
value_text meta (values.Str text) = text
value_text meta (values.Int i) = signed_decimal i
value_text meta (values.Bool b) = boolean_text b
value_text meta (values.Lit e n) = literal_at meta e.0 n

-- texts with one space between
abbrev pub spaced_behind : List ℕ → List (List ℕ) → List ℕ
spaced_behind text [] = text
spaced_behind text (next ∷ rest) = text ++ 32 ∷ spaced_behind next rest

abbrev pub spaced : List (List ℕ) → List ℕ
spaced [] = []
spaced (text ∷ rest) = spaced_behind text rest

-- the name of an object's class in the metamodel's namespace
abbrev pub typed_name : ModelData → ℕ → List ℕ
typed_name m o = 109 ∷ 58 ∷ class_text m o

-- Attributes

-- the attribute of a single value, where there is one
abbrev pub value_attr : MetaDesc → ℕ → List Value → List Call
value_attr meta p [] = []
value_attr meta p (v ∷ vs) = Attr (prop_name meta p) (value_text meta v) ∷ []

-- the attribute of partners, where there are some
abbrev pub partners_attr : ModelData → ℕ → List ℕ → List Call
partners_attr m p [] = []
partners_attr m p (b ∷ bs) = Attr (prop_name m.meta p) (spaced (map (id_text m) (b ∷ bs))) ∷ []

abbrev pub attr_by : ModelData → ℕ → ℕ → Form → List Call
attr_by m o p forms.Attribute = value_attr m.meta p (values_at m o p)
attr_by m o p forms.Identifiers = partners_attr m p (partners_at m o p)
attr_by m o p forms.Elements = []
attr_by m o p forms.Parts = []
attr_by m o p forms.Nesting = []

-- what is written of a property in the start tag
abbrev pub attr_calls : ModelData → ℕ → ℕ → List Call
attr_calls m o p = attr_by m o p (form_of m.meta p)

-- the start tag of an object's element
abbrev pub tag_calls : ModelData → List ℕ → ℕ → List Call
tag_calls m element o =
    Open element ∷ Attr xmi_id (id_text m o) ∷ Attr xmi_type (typed_name m o) ∷ flat_map (attr_calls m o) (object_props m o)

-- Child elements

-- the element of one value of many
abbrev pub value_element : MetaDesc → ℕ → ℕ → Value → List Call
value_element meta depth p v = Line depth ∷ Open (prop_name meta p) ∷ Data (value_text meta v) ∷ Close ∷ []

-- what is written of a property in child elements, given how a contained object is
abbrev pub children_by : ModelData → ℕ → (List ℕ → ℕ → List Call) → ℕ → ℕ → Form → List Call
children_by m depth part o p forms.Elements = flat_map (value_element m.meta depth p) (values_at m o p)
children_by m depth part o p forms.Parts = flat_map (part (prop_name m.meta p)) (partners_at m o p)
children_by m depth part o p forms.Attribute = []
children_by m depth part o p forms.Identifiers = []
children_by m depth part o p forms.Nesting = []

abbrev pub child_calls : ModelData → ℕ → (List ℕ → ℕ → List Call) → ℕ → ℕ → List Call
child_calls m depth part o p = children_by m depth part o p (form_of m.meta p)

-- children and the end of their element, which stands on a line of its own where there are some
abbrev pub ended : ℕ → List Call → List Call
ended depth children = if length children == 0 then Close ∷ [] else children ++ (Line depth ∷ Close ∷ [])

-- Objects

-- the depth of an object in which objects may nest so many levels deep; a top object's is 1
abbrev pub depth_over : ℕ → ℕ
depth_over levels = MAX_DEPTH - levels

-- an object's element of this name, where it and its parts may nest so many levels deep
abbrev pub object_calls : ModelData → ℕ → List ℕ → ℕ → List Call
object_calls m zero element o = []
object_calls m (suc levels) element o =
    Line (depth_over levels) ∷ (tag_calls m element o
    ++ ended (depth_over levels) (flat_map (child_calls m (suc (depth_over levels)) (object_calls m levels) o) (object_props m o)))

-- a top object's element
abbrev pub top_calls : ModelData → ℕ → List Call
top_calls m o = object_calls m MAX_DEPTH (typed_name m o) o

-- the objects without a container, by number
abbrev pub top_numbers : ModelData → List ℕ
top_numbers m = filter (λ o. not (is_part m o)) (live_numbers m)

-- Documents

abbrev pub head : MetaDesc → List Call
head meta =
    Declare ∷ Line 0 ∷ Open xmi_document ∷ Attr (codes "xmi:version") xmi_version ∷ Attr (codes "xmlns:xmi") xmi_namespace
    ∷ Attr (codes "xmlns:m") meta.name ∷ []

abbrev pub foot : List Call
foot = Line 0 ∷ Close ∷ Line 0 ∷ []

-- all calls
abbrev pub canon_calls : ModelData → List Call
canon_calls m = head m.meta ++ (flat_map (top_calls m) (top_numbers m) ++ foot)

-- the canonical text
abbrev pub canon : ModelData → List ℕ
canon m = (wrote nothing (canon_calls m)).text

-- and its bytes
abbrev pub canon_bytes : ModelData → List ℕ
canon_bytes m = encode_utf8_all (canon m)
