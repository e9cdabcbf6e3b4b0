-- The flat lists of what elements write: attributes of objects come first, elements behind them, and then the names of primitive
-- types that are added (XMI 2.5.1, clauses 7 and 9).
use Rattle.std.specs.Prelude.{ℕ, suc, ◌<◌, ◌≤◌, ◌^◌, ◌&&◌, Bool, nat_eq, All, IfSome, List, [], ◌∷◌, ◌++◌, length, drop, codes, slice_get, Option, None, Some, if◌then◌else◌}
use Rattle.std.specs.List.{list_any}
use Rattle.std.specs.Option.{unwrap_or}
use Rattle.mof_metamodel.specs.declared.desc.ClassId.{ClassId}
use Rattle.mof_metamodel.specs.declared.desc.MetaDesc.{MetaDesc}
use Rattle.object_tables.specs.declared.limit.TheConstants.{MAX_OBJECTS}
use Rattle.mof_metamodel.specs.Characters.{same_name}
use Rattle.mof_metamodel.specs.Metamodels.{prop_number, props_of, type_of}
use Rattle.mof_metamodel.specs.NameTables.{NamesWith, value_of as number_named}
use Rattle.object_tables.specs.Models.{is_class_type}
use Rattle.object_tables.specs.declared.value.Value.{Value}
use Rattle.xmi_profile.specs.declared.element.Element.{Element}
use Rattle.model_assembly.specs.declared.filed.Filed.{Filed}
use Rattle.model_assembly.specs.declared.filed.Mention.{Mention}
use Rattle.model_assembly.specs.declared.filed.WrittenReference.{WrittenReference}
use Rattle.model_assembly.specs.declared.filed.WrittenValue.{WrittenValue}
pub use Rattle.xmi_profile.specs.declared.filing.Writings.{Writings}
pub use Rattle.xmi_profile.specs.declared.filed_objects.Lists.{Lists}
use Rattle.model_assembly.specs.Attributes.{Attrs, is_nil}
use Rattle.model_assembly.specs.Content.{is_string}
use Rattle.model_assembly.specs.declared.role.Role.TheVariants as elements
use Rattle.model_assembly.specs.declared.role.Role.{Role}
use Rattle.xmi_profile.specs.Judging.{class_by}
use Rattle.xmi_profile.specs.Numbering.{Numbers}
use Rattle.model_assembly.specs.Profile.{prop_name}
use Rattle.model_assembly.specs.declared.target.Target.{Target}
use Rattle.model_assembly.specs.declared.target.Target.TheVariants.{Named, Extern, Contained, Nowhere}
use Rattle.model_assembly.specs.References.{target_text, words}
use Rattle.xmi_profile.specs.Scanning.{IsWithin}
use Rattle.model_assembly.specs.Source.{primitive_class}
use Rattle.model_assembly.specs.Values.{value_of}

abbrev pub no_writings : Writings
no_writings = record { values = []; references = []; mentions = [] }

-- References

-- the number of the object that a target names, and how it is printed
abbrev pub number_by : NamesWith ℕ → Target → Option ℕ
number_by names (Named id) = number_named names id
number_by names (Extern name) = number_named names name
number_by names (Contained object) = Some object
number_by names (Nowhere text) = None

abbrev pub id_by_number : List (List ℕ) → ℕ → List ℕ
id_by_number ids o = unwrap_or (slice_get ids o) []

abbrev pub text_by : List (List ℕ) → Target → List ℕ
text_by ids target = target_text (id_by_number ids) target

abbrev pub written_reference : ℕ → ℕ → Option ℕ → List ℕ → WrittenReference
written_reference o p number text = record { object = o; property = record { 0 = p }; target = number; text = text }

abbrev pub with_reference : Writings → ℕ → ℕ → Option ℕ → List ℕ → Writings
with_reference w o p number text = record w { references = w.references ++ written_reference o p number text ∷ [] }

-- an object writes a target, or the words of an attribute
abbrev pub with_target : Numbers → Writings → ℕ → ℕ → Target → Writings
with_target n w o p target = with_reference w o p (number_by n.names target) (text_by n.ids target)

abbrev pub with_words : Numbers → Writings → ℕ → ℕ → List (List ℕ) → Writings
with_words n w o p [] = w
with_words n w o p (word ∷ rest) = with_words n (with_target n w o p (Named word)) o p rest

-- an object writes a reference as an attribute, which may name nothing
abbrev pub mention_of : ℕ → ℕ → Mention
mention_of o p = record { object = o; property = record { 0 = p } }

abbrev pub with_mention : Writings → ℕ → ℕ → Writings
with_mention w o p = record w { mentions = w.mentions ++ mention_of o p ∷ [] }

-- Values

abbrev pub written_value : ℕ → ℕ → Value → WrittenValue
written_value o p value = record { object = o; property = record { 0 = p }; value = value }

abbrev pub with_value_if : Writings → ℕ → ℕ → Option Value → Writings
with_value_if w o p None = w
with_value_if w o p (Some value) = record w { values = w.values ++ written_value o p value ∷ [] }

-- an object writes a text that is a value of the attribute
abbrev pub with_value : MetaDesc → Writings → ℕ → ℕ → List ℕ → Writings
with_value meta w o p text = with_value_if w o p (value_of meta (type_of meta p) text)

-- Attributes of start tags

abbrev pub with_text : MetaDesc → Numbers → Writings → ℕ → ℕ → List ℕ → Writings
with_text meta n w o p text =
    if is_class_type (type_of meta p) then with_words n (with_mention w o p) o p (words text) else with_value meta w o p text

-- the properties that attributes before it wrote: only the first attribute of a property counts
abbrev pub is_met : List ℕ → ℕ → Bool
is_met met p = list_any (nat_eq p) met

abbrev pub met_with : List ℕ → Option ℕ → List ℕ
met_with met None = met
met_with met (Some p) = if is_met met p then met else met ++ p ∷ []

abbrev pub with_attr : MetaDesc → Numbers → ℕ → Writings → List ℕ → List ℕ → Option ℕ → Writings
with_attr meta n o w met text None = w
with_attr meta n o w met text (Some p) = if is_met met p then w else with_text meta n w o p text

abbrev pub with_attrs : MetaDesc → Numbers → ℕ → ℕ → Writings → List ℕ → Attrs → Writings
with_attrs meta n o c w met [] = w
with_attrs meta n o c w met (a ∷ attrs) =
    with_attrs meta n o c (with_attr meta n o w met a.1 (prop_number meta c a.0)) (met_with met (prop_number meta c a.0)) attrs

abbrev pub with_attrs_by : MetaDesc → Numbers → Writings → ℕ → Attrs → Option ℕ → Writings
with_attrs_by meta n w o attrs None = w
with_attrs_by meta n w o attrs (Some c) = with_attrs meta n o c w [] attrs

-- those of an object's element
abbrev pub with_own_attrs : MetaDesc → Numbers → Writings → Attrs → Role → Writings
with_own_attrs meta n w attrs (elements.AnObject object) = with_attrs_by meta n w object.number attrs object.class
with_own_attrs meta n w attrs role = w

abbrev pub with_all_attrs : MetaDesc → Numbers → Writings → List Element → Writings
with_all_attrs meta n w [] = w
with_all_attrs meta n w (e ∷ es) = with_all_attrs meta n (with_own_attrs meta n w e.attrs e.role) es

-- Elements

abbrev pub with_inner : MetaDesc → Writings → ℕ → ℕ → Element → Writings
with_inner meta w o p e = if is_nil e.attrs then w else with_value meta w o p e.text

abbrev pub with_part : Numbers → Writings → ℕ → Option (ℕ × ℕ) → Writings
with_part n w number None = w
with_part n w number (Some within) = with_target n w within.0 within.1 (Contained number)

abbrev pub with_element : MetaDesc → Numbers → Writings → Element → Role → Writings
with_element meta n w e (elements.AValue o p) = with_inner meta w o p e
with_element meta n w e (elements.AReference o p target) = with_target n w o p target
with_element meta n w e (elements.AnObject object) = with_part n w object.number object.within
with_element meta n w e role = w

abbrev pub with_elements : MetaDesc → Numbers → Writings → List Element → Writings
with_elements meta n w [] = w
with_elements meta n w (e ∷ es) = with_elements meta n (with_element meta n w e e.role) es

-- Primitive types that are added

-- the property is a name
abbrev pub is_name_prop : MetaDesc → ℕ → Bool
is_name_prop meta p = same_name (prop_name meta p) (codes "name") && is_string (type_of meta p)

abbrev pub with_name : MetaDesc → Writings → ℕ → List ℕ → ℕ → Writings
with_name meta w o id p = if is_name_prop meta p then with_value meta w o p id else w

abbrev pub with_names : MetaDesc → Writings → ℕ → List ℕ → List ℕ → Writings
with_names meta w o id [] = w
with_names meta w o id (p ∷ ps) = with_names meta (with_name meta w o id p) o id ps

-- objects of this class with these identifiers, of which the first has this number
abbrev pub with_added : MetaDesc → ℕ → Writings → ℕ → List (List ℕ) → Writings
with_added meta c w o [] = w
with_added meta c w o (id ∷ ids) = with_added meta c (with_names meta w o id (props_of meta c)) (suc o) ids

abbrev pub with_added_by : MetaDesc → Option ℕ → Writings → ℕ → List (List ℕ) → Writings
with_added_by meta None w o ids = w
with_added_by meta (Some c) w o ids = with_added meta c w o ids

-- Classes

abbrev pub class_id : ℕ → ClassId
class_id c = record { 0 = c }

abbrev pub with_class : List ClassId → Option ℕ → List ClassId
with_class classes None = classes
with_class classes (Some c) = classes ++ class_id c ∷ []

abbrev pub with_classes : List ClassId → List Element → List ClassId
with_classes classes [] = classes
with_classes classes (e ∷ es) = with_classes (with_class classes (class_by e.role)) es

abbrev pub with_class_each : Option ℕ → List ClassId → List (List ℕ) → List ClassId
with_class_each class classes [] = classes
with_class_each class classes (id ∷ ids) = with_class_each class (with_class classes class) ids

-- All lists

abbrev pub all_writings : MetaDesc → Numbers → List Element → List (List ℕ) → ℕ → Writings
all_writings meta n es added o =
    with_added_by meta (primitive_class meta) (with_elements meta n (with_all_attrs meta n no_writings es) es) o added

abbrev pub no_lists : Lists
no_lists = record { classes = []; writings = no_writings }

-- of elements, whose objects have these classes; those behind them are the primitive types that are added
abbrev pub lists_by : MetaDesc → Numbers → List Element → List ClassId → Lists
lists_by meta n es classes = record {
  classes = with_class_each (primitive_class meta) classes (drop (length classes) n.ids);
  writings = all_writings meta n es (drop (length classes) n.ids) (length classes);
}

abbrev pub lists_of : MetaDesc → Numbers → List Element → Lists
lists_of meta n es = lists_by meta n es (with_classes [] es)

abbrev pub filed_with : List (List ℕ) → Lists → Filed
filed_with ids lists =
    record { ids = ids; classes = lists.classes; values = lists.writings.values; references = lists.writings.references; mentions = lists.writings.mentions }

abbrev pub filed_of : MetaDesc → Numbers → List Element → Filed
filed_of meta n es = filed_with n.ids (lists_of meta n es)

-- What is known of elements that are filed: numbers of objects are small

abbrev pub IsSmallTarget : Target → Type 0
IsSmallTarget (Contained object) = object < 2 ^ 32
IsSmallTarget target = Unit {0}

abbrev pub IsSmall : Role → Type 0
IsSmall (elements.AnObject object) = (object.number < 2 ^ 32) × IfSome object.within (λ container. container.0 < 2 ^ 32)
IsSmall (elements.AValue o p) = o < 2 ^ 32
IsSmall (elements.AReference o p target) = (o < 2 ^ 32) × IsSmallTarget target
IsSmall role = Unit {0}

pub record AreFew (n : Numbers) : Type 0 where
  pub ids : length n.ids ≤ MAX_OBJECTS
  pub names : (id : List ℕ) → IfSome (number_named n.names id) (λ number. number < 2 ^ 32)

-- the classes and properties of the elements are those of the metamodel too, and there are no more objects than identifiers
pub record AreFileable (meta : MetaDesc) (n : Numbers) (es : List Element) : Type 0 where
  pub few : AreFew n
  pub within : All (λ (e : Element). IsWithin meta e.role) es
  pub small : All (λ (e : Element). IsSmall e.role) es
  pub count : length (with_classes [] es) ≤ length n.ids
