-- The values that are collected are those that the tree's elements write.
use Rattle.std.proofs.Common.{◌≡◌, ℕ, suc, Bool, true, false, cond, List, [], ◌∷◌, ◌++◌, refl, sym, ap, ap₂, ◌∙◌, subst, append_assoc, append-nil, Option, None, Some}
use Rattle.std.specs.Prelude.{◌==◌, ◌&&◌, is_some, filter_map}
use Rattle.std.specs.List.{AllByRecursion, cons_option}
use Rattle.std.proofs.lemmas.Bool.{and_parts, eqb-true}
use Rattle.std.proofs.lemmas.List.Elements.{filter_map-append}
use Rattle.serde_json.specs.Data.{Data}
use Rattle.mof_metamodel.specs.declared.desc.MetaDesc.{MetaDesc}
use Rattle.mof_metamodel.specs.declared.desc.PropType.{PropType}
use Rattle.mof_metamodel.specs.Metamodels.{prop_number, type_of}
use Rattle.object_tables.specs.declared.value.Value.{Value}
use Rattle.object_tables.specs.Models.{is_class_type}
use Rattle.model_assembly.specs.declared.filed.Filed.{Filed}
use Rattle.model_assembly.specs.declared.filed.WrittenValue.{WrittenValue}
use Rattle.xmi_text.specs.Trees.{Ends, Run}
use Rattle.model_assembly.specs.Elements.{Item, behind_place}
use Rattle.model_assembly.specs.Filed.{value_at}
use Rattle.model_assembly.specs.Source.{is_at, element_text, all_items}
use Rattle.model_assembly.specs.Values as texts
use Rattle.model_files.specs.declared.json_filed.Slot.{Slot}
use Rattle.model_files.specs.JsonContent.{Written, objects_of, class_in, may_stand, type_in, value_of, value_text, source_of}
use Rattle.model_files.specs.JsonFiled.{with_value, with_values, with_named, with_items, with_found, with_slots, with_object, with_objects}
use Rattle.model_files.proofs.JsonNumberLaws.{Fits, SlotFits, ObjectFits}
use Rattle.model_files.proofs.JsonTree.{prop_in, IsKnownSlot, IsKnownObject, type_known, value_items, slot_items, objects_items, own_items, all_listed}
use Rattle.model_files.proofs.JsonTreeLaws.{IsSound, value_stands}
use Rattle.model_files.proofs.JsonValueLaws.{text_is_value}

abbrev pub slot_at : ℕ → ℕ → Slot
slot_at o p = record { object = o; property = record { 0 = p } }

-- ---- what the slots of objects hold at a property, if they are of the object

abbrev pub values_if : MetaDesc → ℕ → ℕ → ℕ → ℕ → Option PropType → List Data → List Value
values_if meta o p object property type ds = cond (is_at o p object property) (filter_map (value_of meta type) ds) []

abbrev pub slot_values : MetaDesc → ℕ → ℕ → ℕ → ℕ → List ℕ × List Data → List Value
slot_values meta o p object c slot =
    cond (is_class_type (type_in meta c slot.0)) [] (values_if meta o p object (prop_in meta c slot.0) (type_in meta c slot.0) slot.1)

abbrev pub slots_values : MetaDesc → ℕ → ℕ → ℕ → ℕ → List (List ℕ × List Data) → List Value
slots_values meta o p object c [] = []
slots_values meta o p object c (slot ∷ slots) = slot_values meta o p object c slot ++ slots_values meta o p object c slots

abbrev pub objects_values : MetaDesc → ℕ → ℕ → ℕ → List Written → List Value
objects_values meta o p object [] = []
objects_values meta o p object (written ∷ rest) = slots_values meta o p object (class_in meta written) written.slots ++ objects_values meta o p (suc object) rest

-- ---- as they are collected

onto : {X : Type 0} (o : Option X) (xs ys : List X) → cons_option o xs ++ ys ≡ cons_option o (xs ++ ys)
onto None xs ys = refl
onto (Some x) xs ys = refl

value_more : (o p : ℕ) (slot : Slot) (v : Option Value) (vs : List WrittenValue)
    → filter_map (value_at o p) (with_value slot v vs) ≡ filter_map (value_at o p) vs ++ cond (is_at o p slot.object slot.property.0) (cons_option v []) []
value_more o p slot None vs = sym (by (is_at o p slot.object slot.property.0))
  where
    by : (b : Bool) → filter_map (value_at o p) vs ++ cond b [] [] ≡ filter_map (value_at o p) vs
    by true = append-nil (filter_map (value_at o p) vs)
    by false = append-nil (filter_map (value_at o p) vs)
value_more o p slot (Some v) vs =
    filter_map-append (value_at o p) vs (record { object = slot.object; property = slot.property; value = v } ∷ [])
    ∙ ap (λ (xs : List Value). filter_map (value_at o p) vs ++ xs) (by (is_at o p slot.object slot.property.0))
  where
    by : (b : Bool) → cons_option (cond b (Some v) None) [] ≡ cond b (v ∷ []) []
    by true = refl
    by false = refl

joined_if : {X : Type 0} (b : Bool) (v : Option X) (vs : List X) → cond b (cons_option v []) [] ++ cond b vs [] ≡ cond b (cons_option v vs) []
joined_if true v vs = onto v [] vs
joined_if false v vs = refl

values_more : (meta : MetaDesc) (o p : ℕ) (slot : Slot) (type : Option PropType) (ds : List Data) (vs : List WrittenValue)
    → filter_map (value_at o p) (with_values meta slot type ds vs) ≡ filter_map (value_at o p) vs ++ values_if meta o p slot.object slot.property.0 type ds
values_more meta o p slot type [] vs = sym (by (is_at o p slot.object slot.property.0))
  where
    by : (b : Bool) → filter_map (value_at o p) vs ++ cond b [] [] ≡ filter_map (value_at o p) vs
    by true = append-nil (filter_map (value_at o p) vs)
    by false = append-nil (filter_map (value_at o p) vs)
values_more meta o p slot type (d ∷ ds) vs =
    values_more meta o p slot type ds (with_value slot (value_of meta type d) vs)
    ∙ ap (λ (xs : List Value). xs ++ values_if meta o p slot.object slot.property.0 type ds) (value_more o p slot (value_of meta type d) vs)
    ∙ append_assoc (filter_map (value_at o p) vs) _ _
    ∙ ap (λ (xs : List Value). filter_map (value_at o p) vs ++ xs) (joined_if (is_at o p slot.object slot.property.0) (value_of meta type d) (filter_map (value_of meta type) ds))

named_values : (ids : List (List ℕ)) (slot : Slot) (ds : List Data) (filed : Filed) → (with_named ids slot ds filed).values ≡ filed.values
named_values ids slot [] filed = refl
named_values ids slot (d ∷ ds) filed = refl

items_more : (meta : MetaDesc) (o p : ℕ) (ids : List (List ℕ)) (slot : Slot) (type : Option PropType) (ds : List Data) (filed : Filed)
    → filter_map (value_at o p) (with_items meta ids slot type ds filed).values
    ≡ filter_map (value_at o p) filed.values ++ cond (is_class_type type) [] (values_if meta o p slot.object slot.property.0 type ds)
items_more meta o p ids slot type ds filed = by (is_class_type type)
  where
    by : (b : Bool) → filter_map (value_at o p) (cond b (with_named ids slot ds filed) (record filed { values = with_values meta slot type ds filed.values })).values
        ≡ filter_map (value_at o p) filed.values ++ cond b [] (values_if meta o p slot.object slot.property.0 type ds)
    by true = ap (filter_map (value_at o p)) (named_values ids slot ds filed) ∙ sym (append-nil _)
    by false = values_more meta o p slot type ds filed.values

slot_more : (meta : MetaDesc) (o p : ℕ) (ids : List (List ℕ)) (object c : ℕ) (slot : List ℕ × List Data) (filed : Filed) → IsKnownSlot meta c slot
    → filter_map (value_at o p) (with_found meta ids object (prop_number meta c slot.0) slot.1 filed).values
    ≡ filter_map (value_at o p) filed.values ++ slot_values meta o p object c slot
slot_more meta o p ids object c slot filed known =
    ap (λ (q : Option ℕ). filter_map (value_at o p) (with_found meta ids object q slot.1 filed).values) known.property
    ∙ items_more meta o p ids (slot_at object (prop_in meta c slot.0)) (type_of meta (prop_in meta c slot.0)) slot.1 filed
    ∙ ap (λ (type : Option PropType). filter_map (value_at o p) filed.values ++ cond (is_class_type type) [] (values_if meta o p object (prop_in meta c slot.0) type slot.1)) (sym (type_known meta c slot known))

slots_more : (meta : MetaDesc) (o p : ℕ) (ids : List (List ℕ)) (object c : ℕ) (slots : List (List ℕ × List Data)) (filed : Filed) → AllByRecursion (IsKnownSlot meta c) slots
    → filter_map (value_at o p) (with_slots meta ids object c slots filed).values ≡ filter_map (value_at o p) filed.values ++ slots_values meta o p object c slots
slots_more meta o p ids object c [] filed known = sym (append-nil _)
slots_more meta o p ids object c (slot ∷ slots) filed known =
    slots_more meta o p ids object c slots (with_found meta ids object (prop_number meta c slot.0) slot.1 filed) known.1
    ∙ ap (λ (xs : List Value). xs ++ slots_values meta o p object c slots) (slot_more meta o p ids object c slot filed known.0)
    ∙ append_assoc (filter_map (value_at o p) filed.values) _ _

-- the values that are collected
pub objects_more : (meta : MetaDesc) (o p : ℕ) (ids : List (List ℕ)) (object : ℕ) (objects : List Written) (filed : Filed) → AllByRecursion (IsKnownObject meta) objects
    → filter_map (value_at o p) (with_objects meta ids object objects filed).values ≡ filter_map (value_at o p) filed.values ++ objects_values meta o p object objects
objects_more meta o p ids object [] filed known = sym (append-nil _)
objects_more meta o p ids object (written ∷ rest) filed known =
    ap (λ (c : Option ℕ). filter_map (value_at o p) (with_objects meta ids (suc object) rest (with_object meta ids object written.slots c filed)).values) known.0.class
    ∙ objects_more meta o p ids (suc object) rest (with_slots meta ids object (class_in meta written) written.slots filed) known.1
    ∙ ap (λ (xs : List Value). xs ++ objects_values meta o p (suc object) rest) (slots_more meta o p ids object (class_in meta written) written.slots filed known.0.slots)
    ∙ append_assoc (filter_map (value_at o p) filed.values) _ _

-- ---- as the elements write them

abbrev read_texts : MetaDesc → ℕ → List (List ℕ) → List Value
read_texts meta p ts = filter_map (texts.value_of meta (type_of meta p)) ts

abbrev element_values : MetaDesc → ℕ → ℕ → List Item → List Value
element_values meta o p items = read_texts meta p (filter_map (element_text o p) items)

both_read : (meta : MetaDesc) (o p : ℕ) (xs ys : List Item) → element_values meta o p (xs ++ ys) ≡ element_values meta o p xs ++ element_values meta o p ys
both_read meta o p xs ys =
    ap (read_texts meta p) (filter_map-append (element_text o p) xs ys)
    ∙ filter_map-append (texts.value_of meta (type_of meta p)) (filter_map (element_text o p) xs) (filter_map (element_text o p) ys)

-- one value
one_value : (meta : MetaDesc) (o p object property : ℕ) (type : Option PropType) (d : Data) (others : List Value) (rest : List Item)
    → type ≡ type_of meta property → is_some (value_of meta type d) ≡ true → Fits d → element_values meta o p rest ≡ others
    → (b : Bool) → is_at o p object property ≡ b
    → read_texts meta p (cons_option (cond (b && true) (Some (value_text meta (value_of meta type d) ++ [])) None) (filter_map (element_text o p) rest))
    ≡ cond b (cons_option (value_of meta type d) []) [] ++ others
one_value meta o p object property type d others rest t stands fits e true at =
    let same : property ≡ p = eqb-true property p (and_parts (object == o) (property == p) at).1 in
    ap (λ (text : List ℕ). cons_option (texts.value_of meta (type_of meta p) text) (element_values meta o p rest)) (append-nil (value_text meta (value_of meta type d)))
    ∙ ap (λ (ty : Option PropType). cons_option (texts.value_of meta ty (value_text meta (value_of meta type d))) (element_values meta o p rest)) (sym (t ∙ ap (type_of meta) same))
    ∙ ap₂ cons_option (text_is_value meta type d fits stands) e ∙ sym (onto (value_of meta type d) [] others)
one_value meta o p object property type d others rest t stands fits e false at = e

values_read : (meta : MetaDesc) (o p object property : ℕ) (name : List ℕ) (type : Option PropType) (ds : List Data) (listed : ℕ → List Item) (others : List Value)
    → type ≡ type_of meta property → is_class_type type ≡ false → AllByRecursion (λ d. may_stand meta type d ≡ true) ds → AllByRecursion Fits ds
    → ((place : ℕ) → element_values meta o p (listed place) ≡ others)
    → (place : ℕ) → element_values meta o p (value_items meta object property name type ds listed place) ≡ values_if meta o p object property type ds ++ others
values_read meta o p object property name type [] listed others t f stand fit e place = e place ∙ by (is_at o p object property)
  where
    by : (b : Bool) → others ≡ cond b [] [] ++ others
    by true = refl
    by false = refl
values_read meta o p object property name type (d ∷ ds) listed others t f stand fit e place =
    one_value meta o p object property type d (values_if meta o p object property type ds ++ others)
    (value_items meta object property name type ds listed (behind_place place [] (Run (value_text meta (value_of meta type d)) Ends))) t (value_stands meta type d f stand.0) fit.0
    (values_read meta o p object property name type ds listed others t f stand.1 fit.1 e (behind_place place [] (Run (value_text meta (value_of meta type d)) Ends))) (is_at o p object property) refl
    ∙ sym (append_assoc (cond (is_at o p object property) (cons_option (value_of meta type d) []) []) _ others)
    ∙ ap (λ (xs : List Value). xs ++ others) (joined_if (is_at o p object property) (value_of meta type d) (filter_map (value_of meta type) ds))

slots_read : (meta : MetaDesc) (o p object c : ℕ) (slots : List (List ℕ × List Data)) → AllByRecursion (IsKnownSlot meta c) slots → AllByRecursion SlotFits slots
    → (place : ℕ) → element_values meta o p (slot_items meta object c slots place) ≡ slots_values meta o p object c slots
slots_read meta o p object c [] known fit place = refl
slots_read meta o p object c (slot ∷ slots) known fit place = by (is_class_type (type_in meta c slot.0)) refl (slots_read meta o p object c slots known.1 fit.1)
  where
    by : (b : Bool) → is_class_type (type_in meta c slot.0) ≡ b → ((at : ℕ) → element_values meta o p (slot_items meta object c slots at) ≡ slots_values meta o p object c slots)
        → element_values meta o p (cond b (slot_items meta object c slots place)
        (value_items meta object (prop_in meta c slot.0) slot.0 (type_in meta c slot.0) slot.1 (slot_items meta object c slots) place))
        ≡ cond b [] (values_if meta o p object (prop_in meta c slot.0) (type_in meta c slot.0) slot.1) ++ slots_values meta o p object c slots
    by true e others = others place
    by false e others =
        let type = type_known meta c slot known.0 in
        values_read meta o p object (prop_in meta c slot.0) slot.0 (type_in meta c slot.0) slot.1 (slot_items meta object c slots) (slots_values meta o p object c slots) type e
        (subst (λ (ty : Option PropType). AllByRecursion (λ d. may_stand meta ty d ≡ true) slot.1) (sym type) known.0.items) fit.0 others place

objects_read : (meta : MetaDesc) (o p : ℕ) (objects : List Written) → AllByRecursion (IsKnownObject meta) objects → AllByRecursion ObjectFits objects
    → (place object : ℕ) → element_values meta o p (objects_items meta objects place object) ≡ objects_values meta o p object objects
objects_read meta o p [] known fit place object = refl
objects_read meta o p (written ∷ rest) known fit place object =
    both_read meta o p (own_items meta written place object) _
    ∙ ap₂ (λ (xs ys : List Value). xs ++ ys) (slots_read meta o p object (class_in meta written) written.slots known.0.slots fit.0 _) (objects_read meta o p rest known.1 fit.1 _ (suc object))

-- the values that the elements write
pub elements_read : (meta : MetaDesc) (d : Data) → IsSound meta d → (o p : ℕ)
    → filter_map (texts.value_of meta (type_of meta p)) (filter_map (element_text o p) (all_items (source_of meta d))) ≡ objects_values meta o p 0 (objects_of d)
elements_read meta d sound o p = ap (element_values meta o p) (all_listed meta d sound.right.0) ∙ objects_read meta o p (objects_of d) sound.right.0 sound.fit 1 0
