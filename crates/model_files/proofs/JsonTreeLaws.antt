-- The tree that writes the same as a value of JSON in which nothing is wrong: its identifiers and classes, and that no fault stands at
-- a place in it.
use Rattle.std.proofs.Common.{◌≡◌, ◌⊎◌, inl, inr, ℕ, zero, suc, Bool, true, false, cond, List, [], ◌∷◌, ◌++◌, map, length, refl, sym, ap, ap₂, ◌∙◌, subst, append-nil, Option, None, Some}
use Rattle.std.specs.Prelude.{◌||◌, ◌&&◌, not, is_some, slice_get, codes, filter, Contains}
use Rattle.std.specs.List.{list_all, list_any, AllByRecursion}
use Rattle.std.specs.Option.{option_and_then, unwrap_or}
use Rattle.std.proofs.lemmas.Bool.{and_parts, true≢false}
use Rattle.std.proofs.lemmas.List.{length-map}
use Rattle.serde_json.specs.Data.{Data}
use Rattle.mof_metamodel.specs.declared.desc.MetaDesc.{MetaDesc}
use Rattle.mof_metamodel.specs.declared.desc.PropType.{PropType}
use Rattle.mof_metamodel.specs.Characters.{same_name, is_identifier_text}
use Rattle.mof_metamodel.specs.Metamodels.{prop_number, type_of}
use Rattle.mof_metamodel.specs.WellMeta.{is_name_character}
use Rattle.object_tables.specs.declared.value.Value.{Value}
use Rattle.object_tables.specs.Models.{is_class_type}
use Rattle.xmi_text.specs.Trees.{Nodes}
use Rattle.model_assembly.specs.declared.fault.ModelFault.{ModelFault}
use Rattle.model_assembly.specs.declared.fault.ModelFault.TheVariants as faults
use Rattle.model_assembly.specs.Attributes.{is_id_name, is_type_name, is_kept_name, is_passed_name}
use Rattle.model_assembly.specs.Elements.{Item, concrete_class, object_items}
use Rattle.model_assembly.specs.Faults.{StandsAt, IsDuplicate}
use Rattle.model_assembly.specs.Judged.{runs_in, runs, IsUnknownClass, is_unknown_of_object, IsUnknownProperty, IsTextAt, IsWrongValue}
use Rattle.model_assembly.specs.Profile.{xmi_id, xmi_type}
use Rattle.model_assembly.specs.Source.{Source, all_items, ids_from, item_class, file_ids, uses, is_added, added_names, all_ids, all_classes, object_count, primitive_class}
use Rattle.model_assembly.specs.Values as texts
use Rattle.model_assembly.proofs.assembling.ListLaws.{in_cons}
use Rattle.mof_metamodel.proofs.Facts.{nothing_in}
use Rattle.model_files.specs.JsonContent.{Written, objects_of, value_of, value_text, type_in, class_in, reference_attrs, value_elements, slot_elements, object_elements, source_of, may_stand, is_reference, with_blanks, item_text}
use Rattle.model_files.proofs.JsonTree.{IsPlain, other_name, prop_in, IsKnownSlot, IsKnownObject, type_known, value_items, slot_items, object_attrs, object_item, own_items, objects_items, root_item, value_item, next_object, all_listed}
use Rattle.model_files.proofs.JsonKnownLaws.{HasPlainNames, AreRight, distinct_ids}
use Rattle.model_files.proofs.JsonNumberLaws.{Fits, SlotFits, ObjectFits}
use Rattle.model_files.proofs.JsonValueLaws.{text_is_value}
use Rattle.std.proofs.lemmas.Option.{none-some}

-- ---- identifiers and classes

ids_listed : (meta : MetaDesc) (objects : List Written) (place number : ℕ) → ids_from number (object_items (objects_items meta objects place number)) ≡ map (λ w. w.id) objects
ids_listed meta [] place number = refl
ids_listed meta (written ∷ rest) place number = ap (ids_from number) (next_object meta written rest place number) ∙ ap (λ (ids : List (List ℕ)). written.id ∷ ids) (ids_listed meta rest _ (suc number))

classes_listed : (meta : MetaDesc) (objects : List Written) → AllByRecursion (IsKnownObject meta) objects → (place number : ℕ)
    → map item_class (object_items (objects_items meta objects place number)) ≡ map (λ w. Some (class_in meta w)) objects
classes_listed meta [] known place number = refl
classes_listed meta (written ∷ rest) known place number =
    ap (map item_class) (next_object meta written rest place number)
    ∙ ap₂ (λ (c : Option ℕ) (cs : List (Option ℕ)). c ∷ cs) known.0.class (classes_listed meta rest known.1 _ (suc number))

-- the identifiers of the tree are those of the list
pub ids_are : (meta : MetaDesc) (d : Data) → AllByRecursion (IsKnownObject meta) (objects_of d) → file_ids (source_of meta d) ≡ map (λ w. w.id) (objects_of d)
ids_are meta d known = ap (λ (is : List Item). ids_from 0 (object_items is)) (all_listed meta d known) ∙ ids_listed meta (objects_of d) 1 0

-- ---- what holds of the document, of objects and of values holds of all elements

both_all : {X : Type 0} (P : X → Type 0) (xs ys : List X) → AllByRecursion P xs → AllByRecursion P ys → AllByRecursion P (xs ++ ys)
both_all P [] ys a b = b
both_all P (x ∷ xs) ys a b = (a.0, both_all P xs ys a.1 b)

pub value_stands : (meta : MetaDesc) (type : Option PropType) (d : Data) → is_class_type type ≡ false → may_stand meta type d ≡ true → is_some (value_of meta type d) ≡ true
value_stands meta type d f h = sym (ap (λ (b : Bool). cond b (is_reference d) (is_some (value_of meta type d))) f) ∙ h

value_is_own : (meta : MetaDesc) (p : ℕ) (type : Option PropType) (d : Data) → type ≡ type_of meta p → is_some (value_of meta type d) ≡ true → Fits d
    → is_some (texts.value_of meta (type_of meta p) (value_text meta (value_of meta type d) ++ [])) ≡ true
value_is_own meta p type d e stands fits =
    ap (λ (t : List ℕ). is_some (texts.value_of meta (type_of meta p) t)) (append-nil (value_text meta (value_of meta type d)))
    ∙ ap (λ (ty : Option PropType). is_some (texts.value_of meta ty (value_text meta (value_of meta type d)))) (sym e)
    ∙ ap (λ (o : Option Value). is_some o) (text_is_value meta type d fits stands) ∙ stands

-- what holds of each value's element
abbrev ValuesHave : MetaDesc → (Item → Type 0) → Type 0
ValuesHave meta P = (o p : ℕ) (name text : List ℕ) (place : ℕ) → is_some (texts.value_of meta (type_of meta p) (text ++ [])) ≡ true → P (value_item o p name text place)

-- and of each object's
abbrev ObjectsHave : MetaDesc → (Item → Type 0) → Type 0
ObjectsHave meta P = (written : Written) → IsKnownObject meta written → (place number : ℕ) → P (object_item meta written place number)

values_have : (meta : MetaDesc) (P : Item → Type 0) → ValuesHave meta P → (o p : ℕ) (name : List ℕ) (type : Option PropType) (ds : List Data) (listed : ℕ → List Item) → type ≡ type_of meta p
    → is_class_type type ≡ false → AllByRecursion (λ d. may_stand meta type d ≡ true) ds → AllByRecursion Fits ds
    → ((place : ℕ) → AllByRecursion P (listed place)) → (place : ℕ) → AllByRecursion P (value_items meta o p name type ds listed place)
values_have meta P value o p name type [] listed e f stand fit others place = others place
values_have meta P value o p name type (d ∷ ds) listed e f stand fit others place = (
  value o p name (value_text meta (value_of meta type d)) place (value_is_own meta p type d e (value_stands meta type d f stand.0) fit.0),
  values_have meta P value o p name type ds listed e f stand.1 fit.1 others _,
)

slots_have : (meta : MetaDesc) (P : Item → Type 0) → ValuesHave meta P → (o c : ℕ) (slots : List (List ℕ × List Data)) → AllByRecursion (IsKnownSlot meta c) slots → AllByRecursion SlotFits slots
    → (place : ℕ) → AllByRecursion P (slot_items meta o c slots place)
slots_have meta P value o c [] known fit place = tt
slots_have meta P value o c (slot ∷ slots) known fit place = by (is_class_type (type_in meta c slot.0)) refl (slots_have meta P value o c slots known.1 fit.1)
  where
    by : (b : Bool) → is_class_type (type_in meta c slot.0) ≡ b → ((at : ℕ) → AllByRecursion P (slot_items meta o c slots at))
        → AllByRecursion P (cond b (slot_items meta o c slots place)
        (value_items meta o (prop_in meta c slot.0) slot.0 (type_in meta c slot.0) slot.1 (slot_items meta o c slots) place))
    by true e others = others place
    by false e others =
        let type = type_known meta c slot known.0 in
        values_have meta P value o (prop_in meta c slot.0) slot.0 (type_in meta c slot.0) slot.1 (slot_items meta o c slots) type e
        (subst (λ (ty : Option PropType). AllByRecursion (λ d. may_stand meta ty d ≡ true) slot.1) (sym type) known.0.items) fit.0 others place

objects_have : (meta : MetaDesc) (P : Item → Type 0) → ObjectsHave meta P → ValuesHave meta P → (objects : List Written) → AllByRecursion (IsKnownObject meta) objects
    → AllByRecursion ObjectFits objects → (place number : ℕ) → AllByRecursion P (objects_items meta objects place number)
objects_have meta P object value [] known fit place number = tt
objects_have meta P object value (written ∷ rest) known fit place number =
    both_all P (own_items meta written place number) _
    (object written known.0 place number, slots_have meta P value number (class_in meta written) written.slots known.0.slots fit.0 _)
    (objects_have meta P object value rest known.1 fit.1 _ (suc number))

-- a value of JSON whose objects are right
pub record IsSound (meta : MetaDesc) (d : Data) : Type 0 where
  pub plain : HasPlainNames meta
  pub right : AreRight meta (objects_of d)
  pub fit : AllByRecursion ObjectFits (objects_of d)

pub all_have : (meta : MetaDesc) (d : Data) (P : Item → Type 0) → IsSound meta d → P (root_item meta (objects_of d)) → ObjectsHave meta P → ValuesHave meta P
    → AllByRecursion P (all_items (source_of meta d))
all_have meta d P sound root object value =
    subst (AllByRecursion P) (sym (all_listed meta d sound.right.0)) (root, objects_have meta P object value (objects_of d) sound.right.0 sound.fit 1 0)

-- no characters stand directly in an object or the document
values_no_runs : (meta : MetaDesc) (name : List ℕ) (type : Option PropType) (ds : List Data) (more : Nodes) → ((place : ℕ) → runs_in more place ≡ [])
    → (place : ℕ) → runs_in (value_elements meta name type ds more) place ≡ []
values_no_runs meta name type [] more none place = none place
values_no_runs meta name type (d ∷ ds) more none place = values_no_runs meta name type ds more none _

slots_no_runs : (meta : MetaDesc) (c : ℕ) (slots : List (List ℕ × List Data)) (place : ℕ) → runs_in (slot_elements meta c slots) place ≡ []
slots_no_runs meta c [] place = refl
slots_no_runs meta c (slot ∷ slots) place = by (is_class_type (type_in meta c slot.0)) (slots_no_runs meta c slots)
  where
    by : (b : Bool) → ((at : ℕ) → runs_in (slot_elements meta c slots) at ≡ [])
        → runs_in (cond b (slot_elements meta c slots) (value_elements meta slot.0 (type_in meta c slot.0) slot.1 (slot_elements meta c slots))) place ≡ []
    by true none = none place
    by false none = values_no_runs meta slot.0 (type_in meta c slot.0) slot.1 (slot_elements meta c slots) none place

objects_no_runs : (meta : MetaDesc) (objects : List Written) (place : ℕ) → runs_in (object_elements meta objects) place ≡ []
objects_no_runs meta [] place = refl
objects_no_runs meta (written ∷ rest) place = objects_no_runs meta rest _

-- ---- no other objects are added

all_unused : (meta : MetaDesc) (d : Data) → IsSound meta d → (name : List ℕ) → AllByRecursion (λ item. uses name item.role ≡ false) (all_items (source_of meta d))
all_unused meta d sound name =
    all_have meta d (λ item. uses name item.role ≡ false) sound refl (λ written known place number. refl) (λ o p text_name text place value. refl)

none_any : {X : Type 0} (test : X → Bool) (xs : List X) → AllByRecursion (λ x. test x ≡ false) xs → list_any test xs ≡ false
none_any test [] h = refl
none_any test (x ∷ xs) h = ap₂ (λ a b. a || b) h.0 (none_any test xs h.1)

none_passes : (p : List ℕ → Bool) (names : List (List ℕ)) → ((name : List ℕ) → p name ≡ false) → filter p names ≡ []
none_passes p [] h = refl
none_passes p (name ∷ names) h = ap (λ (b : Bool). cond b (name ∷ filter p names) (filter p names)) (h name) ∙ none_passes p names h

none_added : (meta : MetaDesc) (d : Data) → IsSound meta d → added_names (source_of meta d) ≡ []
none_added meta d sound =
    none_passes (is_added (source_of meta d)) (codes "String" ∷ codes "Integer" ∷ codes "Boolean" ∷ []) (λ name.
    ap (λ b. b && (not (list_any (same_name name) (file_ids (source_of meta d))) && is_some (primitive_class meta))) (none_any (λ item. uses name item.role) (all_items (source_of meta d)) (all_unused meta d sound name)))

-- all objects of the tree are those of the list
pub all_ids_are : (meta : MetaDesc) (d : Data) → IsSound meta d → all_ids (source_of meta d) ≡ map (λ w. w.id) (objects_of d)
all_ids_are meta d sound =
    ap (λ (names : List (List ℕ)). file_ids (source_of meta d) ++ names) (none_added meta d sound) ∙ append-nil (file_ids (source_of meta d)) ∙ ids_are meta d sound.right.0

pub all_classes_are : (meta : MetaDesc) (d : Data) → IsSound meta d → all_classes (source_of meta d) ≡ map (λ w. Some (class_in meta w)) (objects_of d)
all_classes_are meta d sound =
    ap (λ (names : List (List ℕ)). map item_class (object_items (all_items (source_of meta d))) ++ map (λ name. primitive_class meta) names) (none_added meta d sound)
    ∙ append-nil (map item_class (object_items (all_items (source_of meta d))))
    ∙ ap (λ (is : List Item). map item_class (object_items is)) (all_listed meta d sound.right.0) ∙ classes_listed meta (objects_of d) sound.right.0 1 0

pub objects_counted : (meta : MetaDesc) (d : Data) → IsSound meta d → object_count (source_of meta d) ≡ length (objects_of d)
objects_counted meta d sound = ap (λ (ids : List (List ℕ)). length ids) (all_ids_are meta d sound) ∙ length-map (objects_of d) (λ w. w.id)

-- ---- attributes

pub record IsRightAttr (meta : MetaDesc) (c : ℕ) (a : List ℕ × List ℕ) : Type 0 where
  pub known : is_unknown_of_object meta (Some c) a.0 ≡ false
  pub reference : (p : ℕ) → prop_number meta c a.0 ≡ Some p → is_class_type (type_of meta p) ≡ true

pub not_plain : (meta : MetaDesc) → HasPlainNames meta → (c : ℕ) (name : List ℕ) (p : ℕ) → list_all is_name_character name ≡ false → prop_number meta c name ≡ Some p → ⊥
not_plain meta plain c name p f e = true≢false (sym (plain c name p e) ∙ f)

plain_unkept : (name : List ℕ) → IsPlain name → is_kept_name name ≡ false
plain_unkept name h =
    ap₂ (λ a b. a || b) (ap₂ (λ a b. a || b) (ap₂ (λ a b. a || b) (other_name name (codes "xmi:id") h refl)
    (ap₂ (λ a b. a || b) (other_name name (codes "xmi:type") h refl) (other_name name (codes "xsi:type") h refl)))
    (other_name name (codes "xmi:idref") h refl)) (other_name name (codes "xsi:nil") h refl)

reference_right : (meta : MetaDesc) (c : ℕ) (slot : List ℕ × List Data) (text : List ℕ) → IsKnownSlot meta c slot → is_class_type (type_in meta c slot.0) ≡ true
    → IsRightAttr meta c (slot.0, text)
reference_right meta c slot text known e =
    let some : is_some (prop_number meta c slot.0) ≡ true = ap (λ (o : Option ℕ). is_some o) known.property in
    let id : (is_id_name slot.0 || is_type_name slot.0) ≡ false =
    ap₂ (λ a b. a || b) (other_name slot.0 (codes "xmi:id") known.plain refl)
    (ap₂ (λ a b. a || b) (other_name slot.0 (codes "xmi:type") known.plain refl) (other_name slot.0 (codes "xsi:type") known.plain refl)) in
    let kept : (is_kept_name slot.0 || not (is_some (prop_number meta c slot.0))) ≡ false =
    ap₂ (λ a b. a || not b) (plain_unkept slot.0 known.plain) some in
    record {
      known = ap₂ (λ (a b : Bool). cond a false b) id kept;
      reference = λ p f. ap (λ (o : Option ℕ). is_class_type (option_and_then (type_of meta) o)) (sym f) ∙ e;
    }

references_right : (meta : MetaDesc) (c : ℕ) (slots : List (List ℕ × List Data)) → AllByRecursion (IsKnownSlot meta c) slots → AllByRecursion (IsRightAttr meta c) (reference_attrs meta c slots)
references_right meta c [] known = tt
references_right meta c (slot ∷ slots) known = by (is_class_type (type_in meta c slot.0)) refl (references_right meta c slots known.1)
  where
    by : (b : Bool) → is_class_type (type_in meta c slot.0) ≡ b → AllByRecursion (IsRightAttr meta c) (reference_attrs meta c slots)
        → AllByRecursion (IsRightAttr meta c) (cond b ((slot.0, with_blanks (map item_text slot.1)) ∷ reference_attrs meta c slots) (reference_attrs meta c slots))
    by true e others = (reference_right meta c slot (with_blanks (map item_text slot.1)) known.0 e, others)
    by false e others = others

attrs_right : (meta : MetaDesc) → HasPlainNames meta → (written : Written) → IsKnownObject meta written → AllByRecursion (IsRightAttr meta (class_in meta written)) (object_attrs meta written)
attrs_right meta plain written known = (
  record { known = refl; reference = λ p e. absurd (not_plain meta plain (class_in meta written) xmi_id p refl e) },
  (
    record { known = refl; reference = λ p e. absurd (not_plain meta plain (class_in meta written) xmi_type p refl e) },
    references_right meta (class_in meta written) written.slots known.slots,
  ),
)

pub at_number : {X : Type 0} (P : X → Type 0) (xs : List X) (n : ℕ) (x : X) → AllByRecursion P xs → slice_get xs n ≡ Some x → P x
at_number P [] n x h e = absurd cc
at_number {X = X} P (y ∷ ys) zero x h e = subst P (ap (λ (o : Option X). unwrap_or o x) e) h.0
at_number P (y ∷ ys) (suc n) x h e = at_number P ys n x h.1 e

pub own_item : {X : Type 0} (P : X → Type 0) (xs : List X) (x : X) → AllByRecursion P xs → Contains xs x → P x
own_item P [] x h c = absurd (nothing_in x c)
own_item P (y ∷ ys) x h c = by (in_cons y ys x c) (own_item P ys x h.1)
  where
    by : (y ≡ x) ⊎ Contains ys x → (Contains ys x → P x) → P x
    by (inl e) more = subst P e h.0
    by (inr l) more = more l

-- what is not so of an element
abbrev NoneStands : (Item → ℕ → List ℕ → List ℕ → Type 0) → Item → Type 0
NoneStands Stands item = (place : ℕ) (id prop : List ℕ) → Stands item place id prop → ⊥

classes_known : (meta : MetaDesc) (d : Data) → IsSound meta d → AllByRecursion (λ item. (place : ℕ) (name : List ℕ) → IsUnknownClass item place name → ⊥) (all_items (source_of meta d))
classes_known meta d sound =
    all_have meta d (λ item. (place : ℕ) (name : List ℕ) → IsUnknownClass item place name → ⊥) sound (λ place name h. h)
    (λ written known at number place name h. none-some (class_in meta written) (sym h.0 ∙ known.class)) (λ o p value_name text at value place name h. h)

root_known : (meta : MetaDesc) (d : Data) → NoneStands (IsUnknownProperty (source_of meta d)) (root_item meta (objects_of d))
root_known meta d place id prop (is, inl h) = h
root_known meta d place id prop (is, inr (text, (number, at, place_is), h)) = none-some (prop, text) at

object_known : (meta : MetaDesc) (d : Data) → HasPlainNames meta → (written : Written) → IsKnownObject meta written → (at number : ℕ)
    → NoneStands (IsUnknownProperty (source_of meta d)) (object_item meta written at number)
object_known meta d plain written known at number place id prop (is, inl h) = h
object_known meta d plain written known at number place id prop (is, inr (text, (n, there, place_is), h)) =
    let right = at_number (IsRightAttr meta (class_in meta written)) (object_attrs meta written) n (prop, text) (attrs_right meta plain written known) there in
    true≢false (sym (and_parts (not (is_passed_name prop)) (is_unknown_of_object meta (concrete_class meta written.class) prop) h).1
    ∙ ap (λ (o : Option ℕ). is_unknown_of_object meta o prop) known.class ∙ right.known)

value_known : (meta : MetaDesc) (d : Data) (o p : ℕ) (name text : List ℕ) (at : ℕ) → NoneStands (IsUnknownProperty (source_of meta d)) (value_item o p name text at)
value_known meta d o p name text at place id prop (is, inl h) = h
value_known meta d o p name text at place id prop (is, inr (found, (number, there, place_is), h)) = none-some (prop, found) there

properties_known : (meta : MetaDesc) (d : Data) → IsSound meta d → AllByRecursion (NoneStands (IsUnknownProperty (source_of meta d))) (all_items (source_of meta d))
properties_known meta d sound =
    all_have meta d (NoneStands (IsUnknownProperty (source_of meta d))) sound (root_known meta d)
    (λ written known at number. object_known meta d sound.plain written known at number) (λ o p name text at value. value_known meta d o p name text at)

-- the same of a property that may be none
abbrev NoneWrong : Source → Item → Type 0
NoneWrong s item = (place : ℕ) (id : List ℕ) (prop : Option (List ℕ)) → IsWrongValue s item place id prop → ⊥

no_text : (item : Item) (place : ℕ) → runs item ≡ [] → IsTextAt item place → ⊥
no_text item place e h = nothing_in (place, h.0) (subst (λ (rs : List (ℕ × List ℕ)). Contains rs (place, h.0)) e h.1)

root_right : (meta : MetaDesc) (d : Data) → NoneWrong (source_of meta d) (root_item meta (objects_of d))
root_right meta d place id prop h = no_text (root_item meta (objects_of d)) place (objects_no_runs meta (objects_of d) _) h.0

object_right : (meta : MetaDesc) (d : Data) → HasPlainNames meta → (written : Written) → IsKnownObject meta written → (at number : ℕ)
    → NoneWrong (source_of meta d) (object_item meta written at number)
object_right meta d plain written known at number place id prop (inl h) =
    true≢false (sym known.id ∙ ap is_identifier_text (ap (λ (o : Option (List ℕ)). unwrap_or o []) h.found) ∙ h.wrong)
object_right meta d plain written known at number place id prop (inr (inl h)) =
    let (n, there, place_is) = h.attr in
    let right = at_number (IsRightAttr meta (class_in meta written)) (object_attrs meta written) n (h.name, h.text) (attrs_right meta plain written known) there in
    let class : class_in meta written ≡ h.class = ap (λ (o : Option ℕ). unwrap_or o 0) h.class_is in
    let is : prop_number meta (class_in meta written) h.name ≡ Some h.property = ap (λ (c : ℕ). prop_number meta c h.name) class ∙ h.property_is in
    true≢false (sym (right.reference h.property is) ∙ h.attribute)
object_right meta d plain written known at number place id prop (inr (inr (inl h))) =
    no_text (object_item meta written at number) place (slots_no_runs meta (class_in meta written) written.slots _) h.text
object_right meta d plain written known at number place id prop (inr (inr (inr h))) = none-some (h.container, h.property) h.within

value_right : (meta : MetaDesc) (d : Data) (o p : ℕ) (name text : List ℕ) (at : ℕ) → is_some (texts.value_of meta (type_of meta p) (text ++ [])) ≡ true
    → NoneWrong (source_of meta d) (value_item o p name text at)
value_right meta d o p name text at value place id prop h = true≢false (sym value ∙ ap (λ (v : Option Value). is_some v) h.0.wrong)

values_right : (meta : MetaDesc) (d : Data) → IsSound meta d → AllByRecursion (NoneWrong (source_of meta d)) (all_items (source_of meta d))
values_right meta d sound =
    all_have meta d (NoneWrong (source_of meta d)) sound (root_right meta d) (λ written known at number. object_right meta d sound.plain written known at number)
    (λ o p name text at value. value_right meta d o p name text at value)

not_duplicate : (meta : MetaDesc) (d : Data) → IsSound meta d → (place : ℕ) (id : List ℕ) → IsDuplicate (source_of meta d) place id → ⊥
not_duplicate meta d sound place id h =
    let ids = ids_are meta d sound.right.0 in
    distinct_ids [] (map (λ w. w.id) (objects_of d)) h.object h.earlier id sound.right.1 h.before
    (ap (λ (xs : List (List ℕ)). slice_get xs h.object) (sym ids) ∙ h.id_is) (ap (λ (xs : List (List ℕ)). slice_get xs h.earlier) (sym ids) ∙ h.same)

-- no fault stands at a place
pub nothing_stands : (meta : MetaDesc) (d : Data) → IsSound meta d → (fault : ModelFault) (place : ℕ) → StandsAt (source_of meta d) fault place → ⊥
nothing_stands meta d sound (faults.UnknownClass name) place (item, there, h) =
    own_item (λ x. (at : ℕ) (class : List ℕ) → IsUnknownClass x at class → ⊥) (all_items (source_of meta d)) item (classes_known meta d sound) there place name h
nothing_stands meta d sound (faults.UnknownProperty id prop) place (item, there, h) =
    own_item (NoneStands (IsUnknownProperty (source_of meta d))) (all_items (source_of meta d)) item (properties_known meta d sound) there place id prop h
nothing_stands meta d sound (faults.WrongValue id prop) place (item, there, h) =
    own_item (NoneWrong (source_of meta d)) (all_items (source_of meta d)) item (values_right meta d sound) there place id prop h
nothing_stands meta d sound (faults.DuplicateId id) place h = not_duplicate meta d sound place id h
nothing_stands meta d sound (faults.Dangling id prop reference) place h = h
nothing_stands meta d sound (faults.TwoContainers id) place h = h
nothing_stands meta d sound (faults.Mismatch id prop other other_prop) place h = h
nothing_stands meta d sound (faults.Invalid breach id) place h = h
nothing_stands meta d sound (faults.Limit kind) place h = h
