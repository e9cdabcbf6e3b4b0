-- When calls of a writer may come one after another. What makes numbers characters is left out, since each text of the code has such alone.
use Rattle.std.specs.Prelude.{◌≡◌, ◌==◌, ◌<◌, ◌&&◌, ℕ, suc, Bool, not, List, [], ◌∷◌, IsTrue, length, is_some, All, map, if◌then◌else◌}
use Rattle.std.specs.List.{flat_map}
use Rattle.mof_metamodel.specs.Characters.{is_storable_text}
use Rattle.xmi_text.specs.Names.{is_name}
use Rattle.mof_metamodel.specs.declared.desc.MetaDesc.{MetaDesc}
use Rattle.mof_metamodel.specs.Metamodels.{enum_at}
use Rattle.object_tables.specs.declared.value.Value.{Value}
use Rattle.object_tables.specs.declared.value.Value.TheVariants as values
use Rattle.object_tables.specs.Models.{ModelData, object_at, values_at, partners_at, IsLive}
use Rattle.object_tables.specs.declared.value.ObjId.{ObjId}
use Rattle.xmi_text.specs.Writing.{Written, is_empty, is_inside, may_open, may_attr}
use Rattle.xmi_text.specs.Calls.{Call, Open, Attr, Data, Close, Declare, Line, after_call, wrote}
use Rattle.model_assembly.specs.declared.form.Form.{Form}
use Rattle.model_assembly.specs.declared.form.Form.TheVariants as forms
use Rattle.model_assembly.specs.Profile.{prop_name, id_text, object_props, is_part}
use Rattle.xmi_profile.specs.Canon.{value_text, value_element, child_calls, depth_over, object_calls, top_calls}

-- a call may come: the writer's conditions are met
abbrev pub Can : Written → Call → Type 0
Can w (Open name) = IsTrue (is_name name) × IsTrue (may_open w)
Can w (Attr name value) = IsTrue (is_name name) × IsTrue (is_storable_text value) × IsTrue (may_attr w name)
Can w (Data text) = IsTrue (is_storable_text text) × IsTrue (is_inside w)
Can w Close = IsTrue (is_inside w)
Can w Declare = IsTrue (is_empty w)
Can w (Line depth) = Unit {0}

-- each call may come where it comes
abbrev pub CanWrite : Written → List Call → Type 0
CanWrite w [] = Unit {0}
CanWrite w (call ∷ calls) = Can w call × CanWrite (after_call w call) calls

-- what is left of calls can be written, and then all is written
abbrev pub Left : Written → List Call → Written → Type 0
Left w calls end = CanWrite w calls × (wrote w calls ≡ end)

-- there are calls
abbrev pub has_some : List Call → Bool
has_some calls = not (length calls == 0)

-- the children of an object in which objects may nest so many levels deep
abbrev pub children_calls : ModelData → ℕ → ℕ → List Call
children_calls m levels o = flat_map (child_calls m (suc (depth_over levels)) (object_calls m levels) o) (object_props m o)

-- those at one property
abbrev pub calls_of : ModelData → ℕ → ℕ → ℕ → List Call
calls_of m levels o p = child_calls m (suc (depth_over levels)) (object_calls m levels) o p

-- an element that holds the text of a value
abbrev pub text_value : MetaDesc → ℕ → List ℕ → Value → List Call
text_value meta depth name v = Line depth ∷ Open name ∷ Data (value_text meta v) ∷ Close ∷ []

-- the values of an attribute as elements
abbrev pub value_elements : ModelData → ℕ → ℕ → ℕ → List Call
value_elements m depth o p = flat_map (value_element m.meta depth p) (values_at m o p)

-- the elements of contained objects in which objects may nest so many levels deep
abbrev pub part_elements : ModelData → ℕ → ℕ → ℕ → List Call
part_elements m levels o p = flat_map (object_calls m levels (prop_name m.meta p)) (partners_at m o p)

-- the end of an element that has children, or none
abbrev pub end_calls : ℕ → Bool → List Call
end_calls depth some = if some then Line depth ∷ Close ∷ [] else Close ∷ []

-- the object is live, and has no container
abbrev pub is_top_object : ModelData → ℕ → Bool
is_top_object m o = is_some (object_at m o) && not (is_part m o)

-- the element of the object of this number, if it is a top object
abbrev pub calls_at : ModelData → ℕ → List Call
calls_at m o = if is_top_object m o then top_calls m o else []

-- the value is one whose text the metamodel tells
abbrev pub IsTold : MetaDesc → Value → Type 0
IsTold meta (values.Lit e n) = n < length (enum_at meta e.0).literals
IsTold meta v = Unit {0}

abbrev pub AreLive : ModelData → List ObjId → Type 0
AreLive m objects = All (λ o. IsLive m o.0) objects

-- the identifiers of objects
abbrev pub ids_of : ModelData → List ObjId → List (List ℕ)
ids_of m objects = map (λ o. id_text m o.0) objects

-- the form of a reference that is composite, or whose opposite is, and that of an attribute that has at most one value
abbrev pub chosen_form : Bool → Bool → Bool → Bool → Form
chosen_form class composite opposed one =
    if class then (if composite then forms.Parts else if opposed then forms.Nesting else forms.Identifiers)
    else if one then forms.Attribute
    else forms.Elements
