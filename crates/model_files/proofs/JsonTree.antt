-- The elements of the tree that writes the same as a value of JSON, in document order: an object for each of the list, and behind it its
-- values. In front of them stands the document.
use Rattle.std.proofs.Common.{◌≡◌, ℕ, suc, ◌+◌, Bool, true, false, cond, List, [], ◌∷◌, ◌++◌, length, refl, sym, ap, ap₂, ◌∙◌, subst, arith, Option, None, Some}
use Rattle.std.specs.Prelude.{◌==◌, ◌&&◌, ◌||◌, not, codes, if◌then◌else◌}
use Rattle.std.specs.List.{list_all, AllByRecursion}
use Rattle.std.specs.Option.{option_and_then, unwrap_or}
use Rattle.std.proofs.lemmas.Bool.{and_parts, eqb-true, true≢false}
use Rattle.std.proofs.lemmas.List.Elements.{filter-append}
use Rattle.serde_json.specs.Data.{Data}
use Rattle.mof_metamodel.specs.declared.desc.MetaDesc.{MetaDesc}
use Rattle.mof_metamodel.specs.declared.desc.PropType.{PropType}
use Rattle.mof_metamodel.specs.Characters.{same_name, is_identifier_text}
use Rattle.mof_metamodel.specs.Metamodels.{prop_number, type_of}
use Rattle.mof_metamodel.specs.WellMeta.{is_name_character}
use Rattle.mof_metamodel.proofs.SearchLemmas.{same_true}
use Rattle.object_tables.specs.Models.{is_class_type}
use Rattle.xmi_text.specs.Markup.{begins}
use Rattle.xmi_text.specs.Trees.{Nodes, Ends, Run, Element}
use Rattle.model_assembly.specs.declared.fault.Externs.TheVariants as externs
use Rattle.model_assembly.specs.Attributes.{Attrs, behind, local_part, has_prefix, is_skipped_name, is_document_name, is_alien_name}
use Rattle.model_assembly.specs.Elements.{Item, concrete_class, object_role, role_at, role_of_root, role_in, items_in, item_with, is_object, object_items, number_in, number_behind, inner_place, behind_place}
use Rattle.model_assembly.specs.Profile.{xmi_document, xmi_id, xmi_type}
use Rattle.model_assembly.specs.Source.{all_items}
use Rattle.model_files.specs.JsonContent.{Written, objects_of, value_of, may_stand, value_text, type_in, class_in, reference_attrs, value_elements, slot_elements, object_elements, source_of}

-- ---- names without a colon

abbrev pub IsPlain : List ℕ → Type 0
IsPlain name = list_all is_name_character name ≡ true

never : (b : Bool) → (b ≡ true → ⊥) → b ≡ false
never true f = absurd (f refl)
never false f = refl

colon_at : (c : ℕ) → is_name_character c ≡ true → (c == 58) ≡ false
colon_at c h = never (c == 58) (λ e. true≢false (sym h ∙ ap is_name_character (eqb-true c 58 e)))

no_colon : (name : List ℕ) → IsPlain name → behind 58 name ≡ None
no_colon [] h = refl
no_colon (c ∷ cs) h =
    let both = and_parts (is_name_character c) (list_all is_name_character cs) h in
    ap (λ b. cond b (Some cs) (behind 58 cs)) (colon_at c both.0) ∙ no_colon cs both.1

pub plain_local : (name : List ℕ) → IsPlain name → local_part name ≡ name
plain_local name h = ap (λ (o : Option (List ℕ)). unwrap_or o name) (no_colon name h)

pub other_name : (name word : List ℕ) → IsPlain name → list_all is_name_character word ≡ false → same_name name word ≡ false
other_name name word h f = never (same_name name word) (λ e. true≢false (sym h ∙ ap (list_all is_name_character) (same_true name word e) ∙ f))

and_false : (b : Bool) → b && false ≡ false
and_false true = refl
and_false false = refl

prefix_has_colon : (p name : List ℕ) → begins (p ++ 58 ∷ []) name ≡ true → list_all is_name_character name ≡ false
prefix_has_colon [] [] e = absurd cc
prefix_has_colon [] (c ∷ cs) e =
    let both = and_parts (58 == c) true e in
    ap (λ x. is_name_character x && list_all is_name_character cs) (sym (eqb-true 58 c both.0))
prefix_has_colon (q ∷ p) [] e = absurd cc
prefix_has_colon (q ∷ p) (c ∷ cs) e =
    let both = and_parts (q == c) (begins (p ++ 58 ∷ []) cs) e in
    ap (λ b. is_name_character c && b) (prefix_has_colon p cs both.1) ∙ and_false (is_name_character c)

no_prefix : (p name : List ℕ) → IsPlain name → has_prefix p name ≡ false
no_prefix p name h = never (has_prefix p name) (λ e. true≢false (sym h ∙ prefix_has_colon p name e))

plain_not_skipped : (name : List ℕ) → IsPlain name → is_skipped_name name ≡ false
plain_not_skipped name h = ap₂ (λ a b. a || b) (other_name name (codes "xmi:Extension") h refl) (other_name name (codes "xmi:Documentation") h refl)

plain_not_alien : (name : List ℕ) → IsPlain name → is_alien_name name ≡ false
plain_not_alien name h = ap (λ b. b && not (is_document_name name || is_skipped_name name)) (no_prefix (codes "xmi") name h)

-- ---- what is known of objects and slots where nothing is wrong

-- the property of this name in the class
abbrev pub prop_in : MetaDesc → ℕ → List ℕ → ℕ
prop_in meta c name = unwrap_or (prop_number meta c name) 0

pub record IsKnownSlot (meta : MetaDesc) (c : ℕ) (slot : List ℕ × List Data) : Type 0 where
  pub plain : IsPlain slot.0
  pub property : prop_number meta c slot.0 ≡ Some (prop_in meta c slot.0)
  pub items : AllByRecursion (λ d. may_stand meta (type_of meta (prop_in meta c slot.0)) d ≡ true) slot.1

pub record IsKnownObject (meta : MetaDesc) (written : Written) : Type 0 where
  pub plain : IsPlain written.class
  pub class : concrete_class meta written.class ≡ Some (class_in meta written)
  pub id : is_identifier_text written.id ≡ true
  pub slots : AllByRecursion (IsKnownSlot meta (class_in meta written)) written.slots

pub type_known : (meta : MetaDesc) (c : ℕ) (slot : List ℕ × List Data) → IsKnownSlot meta c slot → type_in meta c slot.0 ≡ type_of meta (prop_in meta c slot.0)
type_known meta c slot known = ap (option_and_then (type_of meta)) known.property

-- ---- the elements

-- a metamodel without classes, of which each property is an attribute
abbrev nothing : MetaDesc
nothing = record { name = []; classes = []; enums = [] }

-- the element of a value of an object at a property
abbrev pub value_item : ℕ → ℕ → List ℕ → List ℕ → ℕ → Item
value_item o p name text place = record { place = place; role = role_at nothing externs.None 0 o [] (Some p); name = name; attrs = []; inner = Run text Ends }

-- the values of a slot in front of others
abbrev pub value_items : MetaDesc → ℕ → ℕ → List ℕ → Option PropType → List Data → (ℕ → List Item) → ℕ → List Item
value_items meta o p name type [] more place = more place
value_items meta o p name type (d ∷ ds) more place =
    value_item o p name (value_text meta (value_of meta type d)) place
    ∷ value_items meta o p name type ds more (behind_place place [] (Run (value_text meta (value_of meta type d)) Ends))

abbrev pub slot_items : MetaDesc → ℕ → ℕ → List (List ℕ × List Data) → ℕ → List Item
slot_items meta o c [] place = []
slot_items meta o c (slot ∷ slots) place =
    if is_class_type (type_in meta c slot.0) then slot_items meta o c slots place
    else value_items meta o (prop_in meta c slot.0) slot.0 (type_in meta c slot.0) slot.1 (slot_items meta o c slots) place

abbrev pub object_attrs : MetaDesc → Written → Attrs
object_attrs meta written = (xmi_id, written.id) ∷ (xmi_type, written.class) ∷ reference_attrs meta (class_in meta written) written.slots

abbrev pub own_elements : MetaDesc → Written → Nodes
own_elements meta written = slot_elements meta (class_in meta written) written.slots

abbrev pub object_item : MetaDesc → Written → ℕ → ℕ → Item
object_item meta written place number =
    record {
      place = place;
      role = object_role meta number written.class None;
      name = written.class;
      attrs = object_attrs meta written;
      inner = own_elements meta written;
    }

abbrev pub own_items : MetaDesc → Written → ℕ → ℕ → List Item
own_items meta written place number =
    object_item meta written place number ∷ slot_items meta number (class_in meta written) written.slots (inner_place place (object_attrs meta written))

abbrev pub objects_items : MetaDesc → List Written → ℕ → ℕ → List Item
objects_items meta [] place number = []
objects_items meta (written ∷ rest) place number =
    own_items meta written place number ++ objects_items meta rest (behind_place place (object_attrs meta written) (own_elements meta written)) (suc number)

abbrev pub root_item : MetaDesc → List Written → Item
root_item meta objects = record { place = 0; role = role_of_root nothing xmi_document []; name = xmi_document; attrs = []; inner = object_elements meta objects }

-- ---- values

-- the elements of nodes in an object, whatever the number of the next object is
abbrev IsListed : MetaDesc → ℕ → List ℕ → Nodes → (ℕ → List Item) → Type 0
IsListed meta o named nodes listed = (place number : ℕ) → items_in meta externs.None (object_role meta o named None) nodes place number ≡ listed place

-- elements of this name in the object are its values at the property
abbrev IsValueName : MetaDesc → ℕ → List ℕ → ℕ → List ℕ → Type 0
IsValueName meta o named p name = (number : ℕ) → role_in meta externs.None (object_role meta o named None) number name [] ≡ role_at nothing externs.None 0 o [] (Some p)

value_listed : (meta : MetaDesc) (o : ℕ) (named name text : List ℕ) (more : Nodes) (p : ℕ) (listed : ℕ → List Item) → IsValueName meta o named p name → IsListed meta o named more listed
    → IsListed meta o named (Element name [] (Run text Ends) more) (λ place. value_item o p name text place ∷ listed (behind_place place [] (Run text Ends)))
value_listed meta o named name text more p listed is others place number =
    subst (λ role. (item_with (record { place = place; role = role; name = name; attrs = []; inner = Run text Ends })
    (items_in meta externs.None role (Run text Ends) (inner_place place []) (number_in role number)))
    ++ items_in meta externs.None (object_role meta o named None) more (behind_place place [] (Run text Ends))
    (number_behind (item_with (record { place = place; role = role; name = name; attrs = []; inner = Run text Ends })
    (items_in meta externs.None role (Run text Ends) (inner_place place []) (number_in role number))) number)
    ≡ value_item o p name text place ∷ listed (behind_place place [] (Run text Ends)))
    (sym (is number)) (ap (λ (is : List Item). value_item o p name text place ∷ is) (others _ _))

values_listed : (meta : MetaDesc) (o : ℕ) (named name : List ℕ) (type : Option PropType) (ds : List Data) (more : Nodes) (p : ℕ) (listed : ℕ → List Item)
    → IsValueName meta o named p name → IsListed meta o named more listed
    → IsListed meta o named (value_elements meta name type ds more) (value_items meta o p name type ds listed)
values_listed meta o named name type [] more p listed is others = others
values_listed meta o named name type (d ∷ ds) more p listed is others =
    value_listed meta o named name (value_text meta (value_of meta type d)) (value_elements meta name type ds more) p (value_items meta o p name type ds listed) is
    (values_listed meta o named name type ds more p listed is others)

value_role : (meta : MetaDesc) (o : ℕ) (named : List ℕ) (c p : ℕ) (name : List ℕ) → concrete_class meta named ≡ Some c → IsPlain name → prop_number meta c name ≡ Some p
    → is_class_type (type_of meta p) ≡ false → IsValueName meta o named p name
value_role meta o named c p name class plain is value number = rw (class, plain_not_alien name plain, plain_not_skipped name plain, is, value) refl

slots_listed : (meta : MetaDesc) (o : ℕ) (named : List ℕ) (c : ℕ) → concrete_class meta named ≡ Some c → (slots : List (List ℕ × List Data)) → AllByRecursion (IsKnownSlot meta c) slots
    → IsListed meta o named (slot_elements meta c slots) (slot_items meta o c slots)
slots_listed meta o named c class [] known = λ place number. refl
slots_listed meta o named c class (slot ∷ slots) known = by (is_class_type (type_in meta c slot.0)) refl (slots_listed meta o named c class slots known.1)
  where
    by : (b : Bool) → is_class_type (type_in meta c slot.0) ≡ b
        → IsListed meta o named (slot_elements meta c slots) (slot_items meta o c slots)
        → IsListed meta o named
        (cond b (slot_elements meta c slots) (value_elements meta slot.0 (type_in meta c slot.0) slot.1 (slot_elements meta c slots)))
        (λ place. cond b (slot_items meta o c slots place)
        (value_items meta o (prop_in meta c slot.0) slot.0 (type_in meta c slot.0) slot.1 (slot_items meta o c slots) place))
    by true e others = others
    by false e others =
        values_listed meta o named slot.0 (type_in meta c slot.0) slot.1 (slot_elements meta c slots) (prop_in meta c slot.0) (slot_items meta o c slots)
        (value_role meta o named c (prop_in meta c slot.0) slot.0 class known.0.plain known.0.property (ap is_class_type (sym (type_known meta c slot known.0)) ∙ e)) others

-- ---- no value is an object

values_no_objects : (meta : MetaDesc) (o p : ℕ) (name : List ℕ) (type : Option PropType) (ds : List Data) (listed : ℕ → List Item)
    → ((place : ℕ) → object_items (listed place) ≡ []) → (place : ℕ) → object_items (value_items meta o p name type ds listed place) ≡ []
values_no_objects meta o p name type [] listed none place = none place
values_no_objects meta o p name type (d ∷ ds) listed none place = values_no_objects meta o p name type ds listed none _

pub no_objects : (meta : MetaDesc) (o c : ℕ) (slots : List (List ℕ × List Data)) (place : ℕ) → object_items (slot_items meta o c slots place) ≡ []
no_objects meta o c [] place = refl
no_objects meta o c (slot ∷ slots) place = by (is_class_type (type_in meta c slot.0)) (no_objects meta o c slots)
  where
    by : (b : Bool) → ((at : ℕ) → object_items (slot_items meta o c slots at) ≡ [])
        → object_items (cond b (slot_items meta o c slots place)
        (value_items meta o (prop_in meta c slot.0) slot.0 (type_in meta c slot.0) slot.1 (slot_items meta o c slots) place)) ≡ []
    by true none = none place
    by false none = values_no_objects meta o (prop_in meta c slot.0) slot.0 (type_in meta c slot.0) slot.1 (slot_items meta o c slots) none place

-- the objects among these elements are the first one and those of the others
pub next_object : (meta : MetaDesc) (written : Written) (rest : List Written) (place number : ℕ)
    → object_items (objects_items meta (written ∷ rest) place number)
    ≡ object_item meta written place number ∷ object_items (objects_items meta rest (behind_place place (object_attrs meta written) (own_elements meta written)) (suc number))
next_object meta written rest place number =
    let none = no_objects meta number (class_in meta written) written.slots (inner_place place (object_attrs meta written)) in
    filter-append is_object (own_items meta written place number) _
    ∙ ap (λ (is : List Item). (object_item meta written place number ∷ is) ++ object_items (objects_items meta rest (behind_place place (object_attrs meta written) (own_elements meta written)) (suc number))) none

-- ---- objects

object_role_is : (meta : MetaDesc) (written : Written) → IsKnownObject meta written → (number : ℕ)
    → role_in meta externs.None (role_of_root nothing xmi_document []) number written.class (object_attrs meta written) ≡ object_role meta number written.class None
object_role_is meta written known number =
    rw (plain_not_alien written.class known.plain, plain_not_skipped written.class known.plain, plain_local written.class known.plain) refl

-- an object and what stands in it, in front of others
own_then : (object : Item) (inner own : List Item) (number : ℕ) (others : ℕ → List Item) (listed : List Item) → is_object object ≡ true → inner ≡ own → object_items own ≡ []
    → others (suc number) ≡ listed → (object ∷ inner) ++ others (number_behind (object ∷ inner) number) ≡ (object ∷ own) ++ listed
own_then object inner own number others listed is e none f =
    let one : number + suc 0 ≡ suc number = omega arith in
    let count : number_behind (object ∷ own) number ≡ suc number =
    ap (λ (b : Bool). number + length (cond b (object ∷ object_items own) (object_items own))) is ∙ ap (λ (is : List Item). number + suc (length is)) none ∙ one in
    ap (λ (is : List Item). (object ∷ is) ++ others (number_behind (object ∷ is) number)) e
    ∙ ap (λ (is : List Item). (object ∷ own) ++ is) (ap others count ∙ f)

-- the elements of objects in the document
abbrev in_document : MetaDesc → Nodes → ℕ → ℕ → List Item
in_document meta nodes place number = items_in meta externs.None (role_of_root nothing xmi_document []) nodes place number

objects_listed : (meta : MetaDesc) (objects : List Written) → AllByRecursion (IsKnownObject meta) objects → (place number : ℕ)
    → in_document meta (object_elements meta objects) place number ≡ objects_items meta objects place number
objects_listed meta [] known place number = refl
objects_listed meta (written ∷ rest) known place number =
    subst (λ role. (item_with (record { place = place; role = role; name = written.class; attrs = object_attrs meta written; inner = own_elements meta written })
    (items_in meta externs.None role (own_elements meta written) (inner_place place (object_attrs meta written)) (number_in role number)))
    ++ in_document meta (object_elements meta rest) (behind_place place (object_attrs meta written) (own_elements meta written))
    (number_behind (item_with (record { place = place; role = role; name = written.class; attrs = object_attrs meta written; inner = own_elements meta written })
    (items_in meta externs.None role (own_elements meta written) (inner_place place (object_attrs meta written)) (number_in role number))) number)
    ≡ objects_items meta (written ∷ rest) place number)
    (sym (object_role_is meta written known.0 number))
    (own_then (object_item meta written place number) _ (slot_items meta number (class_in meta written) written.slots (inner_place place (object_attrs meta written))) number
    (λ next. in_document meta (object_elements meta rest) (behind_place place (object_attrs meta written) (own_elements meta written)) next) _ refl
    (slots_listed meta number written.class (class_in meta written) known.0.class written.slots known.0.slots (inner_place place (object_attrs meta written)) (suc number))
    (no_objects meta number (class_in meta written) written.slots (inner_place place (object_attrs meta written)))
    (objects_listed meta rest known.1 _ _))

-- all elements of the tree
pub all_listed : (meta : MetaDesc) (d : Data) → AllByRecursion (IsKnownObject meta) (objects_of d)
    → all_items (source_of meta d) ≡ root_item meta (objects_of d) ∷ objects_items meta (objects_of d) 1 0
all_listed meta d known = ap (λ (is : List Item). root_item meta (objects_of d) ∷ is) (objects_listed meta (objects_of d) known 1 0)
