-- What is collected of references is what the tree's attributes write.
use Rattle.std.proofs.Common.{◌≡◌, ◌≢◌, ℕ, zero, suc, ◌+◌, ◌<◌, Bool, true, false, cond, List, [], ◌∷◌, ◌++◌, map, refl, sym, ap, ap₂, ◌∙◌, subst, arith, append_assoc, append-nil, Option, None, Some}
use Rattle.std.specs.Prelude.{◌==◌, ◌&&◌, ◌||◌, is_some, filter_map, slice_get}
use Rattle.std.specs.List.{list_any, AllByRecursion, cons_option}
use Rattle.std.specs.Option.{option_map}
use Rattle.std.proofs.lemmas.Bool.{eqb-true, eq-eqb}
use Rattle.std.proofs.lemmas.List.Elements.{filter_map-append}
use Rattle.serde_json.specs.Data.{Data}
use Rattle.mof_metamodel.specs.declared.desc.MetaDesc.{MetaDesc}
use Rattle.mof_metamodel.specs.declared.desc.PropType.{PropType}
use Rattle.mof_metamodel.specs.Metamodels.{prop_number, type_of}
use Rattle.object_tables.specs.Models.{is_class_type}
use Rattle.model_assembly.specs.declared.filed.Filed.{Filed}
use Rattle.model_assembly.specs.declared.filed.WrittenReference.{WrittenReference}
use Rattle.model_assembly.specs.declared.filed.Mention.{Mention}
use Rattle.model_assembly.specs.Attributes.{Attrs, first_attr, later, value_where}
use Rattle.model_assembly.specs.Filed.{reference_at}
use Rattle.model_assembly.specs.Source.{is_at, is_number}
use Rattle.model_files.specs.declared.json_filed.Slot.{Slot}
use Rattle.model_files.specs.JsonContent.{Written, class_in, type_in, item_text, with_blanks, reference_attrs}
use Rattle.model_files.specs.JsonFiled.{number_in, reference_to, with_references, with_values, with_named, with_items, with_found, with_slots, with_object, with_objects, AreApart}
use Rattle.model_files.proofs.JsonKnownLaws.{named_prop}
use Rattle.model_files.proofs.JsonTree.{prop_in, IsKnownSlot, IsKnownObject, type_known}
use Rattle.model_files.proofs.JsonFiledValues.{slot_at}
use Rattle.mof_metamodel.proofs.Facts.{or_false}

-- ---- what the slots of objects name at a property, if they are of the object

abbrev pub Named : Type 0
Named = Option ℕ × List ℕ

-- an item as it is named
abbrev pub named_in : List (List ℕ) → Data → Named
named_in ids d = (number_in ids (item_text d), item_text d)

abbrev pub slot_named : MetaDesc → List (List ℕ) → ℕ → ℕ → ℕ → ℕ → List ℕ × List Data → List Named
slot_named meta ids o p object c slot =
    cond (is_class_type (type_in meta c slot.0)) (cond (is_at o p object (prop_in meta c slot.0)) (map (named_in ids) slot.1) []) []

abbrev pub slots_named : MetaDesc → List (List ℕ) → ℕ → ℕ → ℕ → ℕ → List (List ℕ × List Data) → List Named
slots_named meta ids o p object c [] = []
slots_named meta ids o p object c (slot ∷ slots) = slot_named meta ids o p object c slot ++ slots_named meta ids o p object c slots

abbrev pub objects_named : MetaDesc → List (List ℕ) → ℕ → ℕ → ℕ → List Written → List Named
objects_named meta ids o p object [] = []
objects_named meta ids o p object (written ∷ rest) = slots_named meta ids o p object (class_in meta written) written.slots ++ objects_named meta ids o p (suc object) rest

-- whether a slot is there
abbrev pub slot_said : MetaDesc → ℕ → ℕ → ℕ → ℕ → List ℕ × List Data → Bool
slot_said meta o p object c slot = is_class_type (type_in meta c slot.0) && is_at o p object (prop_in meta c slot.0)

abbrev pub slots_said : MetaDesc → ℕ → ℕ → ℕ → ℕ → List (List ℕ × List Data) → Bool
slots_said meta o p object c [] = false
slots_said meta o p object c (slot ∷ slots) = slot_said meta o p object c slot || slots_said meta o p object c slots

abbrev pub objects_said : MetaDesc → ℕ → ℕ → ℕ → List Written → Bool
objects_said meta o p object [] = false
objects_said meta o p object (written ∷ rest) = slots_said meta o p object (class_in meta written) written.slots || objects_said meta o p (suc object) rest

-- ---- as they are collected: what is named

abbrev referred : ℕ → ℕ → List WrittenReference → List Named
referred o p rs = filter_map (reference_at o p) rs

references_more : (o p : ℕ) (ids : List (List ℕ)) (slot : Slot) (ds : List Data) (rs : List WrittenReference)
    → referred o p (with_references ids slot ds rs) ≡ referred o p rs ++ cond (is_at o p slot.object slot.property.0) (map (named_in ids) ds) []
references_more o p ids slot [] rs = sym (by (is_at o p slot.object slot.property.0))
  where
    by : (b : Bool) → referred o p rs ++ cond b [] [] ≡ referred o p rs
    by true = append-nil (referred o p rs)
    by false = append-nil (referred o p rs)
references_more o p ids slot (d ∷ ds) rs =
    references_more o p ids slot ds (rs ++ reference_to ids slot (item_text d) ∷ [])
    ∙ ap (λ (xs : List Named). xs ++ cond (is_at o p slot.object slot.property.0) (map (named_in ids) ds) []) (filter_map-append (reference_at o p) rs (reference_to ids slot (item_text d) ∷ []))
    ∙ append_assoc (referred o p rs) _ _
    ∙ ap (λ (xs : List Named). referred o p rs ++ xs) (by (is_at o p slot.object slot.property.0))
  where
    by : (b : Bool) → cons_option (cond b (Some (named_in ids d)) None) [] ++ cond b (map (named_in ids) ds) [] ≡ cond b (named_in ids d ∷ map (named_in ids) ds) []
    by true = refl
    by false = refl

named_more : (o p : ℕ) (ids : List (List ℕ)) (slot : Slot) (ds : List Data) (filed : Filed)
    → referred o p (with_named ids slot ds filed).references ≡ referred o p filed.references ++ cond (is_at o p slot.object slot.property.0) (map (named_in ids) ds) []
named_more o p ids slot [] filed = references_more o p ids slot [] filed.references
named_more o p ids slot (d ∷ ds) filed = references_more o p ids slot (d ∷ ds) filed.references

items_more : (meta : MetaDesc) (o p : ℕ) (ids : List (List ℕ)) (slot : Slot) (type : Option PropType) (ds : List Data) (filed : Filed)
    → referred o p (with_items meta ids slot type ds filed).references
    ≡ referred o p filed.references ++ cond (is_class_type type) (cond (is_at o p slot.object slot.property.0) (map (named_in ids) ds) []) []
items_more meta o p ids slot type ds filed = by (is_class_type type)
  where
    by : (b : Bool) → referred o p (cond b (with_named ids slot ds filed) (record filed { values = with_values meta slot type ds filed.values })).references
        ≡ referred o p filed.references ++ cond b (cond (is_at o p slot.object slot.property.0) (map (named_in ids) ds) []) []
    by true = named_more o p ids slot ds filed
    by false = sym (append-nil (referred o p filed.references))

slot_more : (meta : MetaDesc) (o p : ℕ) (ids : List (List ℕ)) (object c : ℕ) (slot : List ℕ × List Data) (filed : Filed) → IsKnownSlot meta c slot
    → referred o p (with_found meta ids object (prop_number meta c slot.0) slot.1 filed).references ≡ referred o p filed.references ++ slot_named meta ids o p object c slot
slot_more meta o p ids object c slot filed known =
    ap (λ (q : Option ℕ). referred o p (with_found meta ids object q slot.1 filed).references) known.property
    ∙ items_more meta o p ids (slot_at object (prop_in meta c slot.0)) (type_of meta (prop_in meta c slot.0)) slot.1 filed
    ∙ ap (λ (type : Option PropType). referred o p filed.references ++ cond (is_class_type type) (cond (is_at o p object (prop_in meta c slot.0)) (map (named_in ids) slot.1) []) []) (sym (type_known meta c slot known))

slots_more : (meta : MetaDesc) (o p : ℕ) (ids : List (List ℕ)) (object c : ℕ) (slots : List (List ℕ × List Data)) (filed : Filed) → AllByRecursion (IsKnownSlot meta c) slots
    → referred o p (with_slots meta ids object c slots filed).references ≡ referred o p filed.references ++ slots_named meta ids o p object c slots
slots_more meta o p ids object c [] filed known = sym (append-nil _)
slots_more meta o p ids object c (slot ∷ slots) filed known =
    slots_more meta o p ids object c slots (with_found meta ids object (prop_number meta c slot.0) slot.1 filed) known.1
    ∙ ap (λ (xs : List Named). xs ++ slots_named meta ids o p object c slots) (slot_more meta o p ids object c slot filed known.0)
    ∙ append_assoc (referred o p filed.references) _ _

pub references_collected : (meta : MetaDesc) (o p : ℕ) (ids : List (List ℕ)) (object : ℕ) (objects : List Written) (filed : Filed) → AllByRecursion (IsKnownObject meta) objects
    → filter_map (reference_at o p) (with_objects meta ids object objects filed).references ≡ filter_map (reference_at o p) filed.references ++ objects_named meta ids o p object objects
references_collected meta o p ids object [] filed known = sym (append-nil _)
references_collected meta o p ids object (written ∷ rest) filed known =
    ap (λ (c : Option ℕ). referred o p (with_objects meta ids (suc object) rest (with_object meta ids object written.slots c filed)).references) known.0.class
    ∙ references_collected meta o p ids (suc object) rest (with_slots meta ids object (class_in meta written) written.slots filed) known.1
    ∙ ap (λ (xs : List Named). xs ++ objects_named meta ids o p (suc object) rest) (slots_more meta o p ids object (class_in meta written) written.slots filed known.0.slots)
    ∙ append_assoc (referred o p filed.references) _ _

-- ---- as they are collected: what is said

abbrev pub is_reference_at : ℕ → ℕ → WrittenReference → Bool
is_reference_at o p r = is_at o p r.object r.property.0

abbrev pub is_mention_at : ℕ → ℕ → Mention → Bool
is_mention_at o p m = is_at o p m.object m.property.0

abbrev pub said : ℕ → ℕ → Filed → Bool
said o p filed = list_any (is_reference_at o p) filed.references || list_any (is_mention_at o p) filed.mentions

any_more : {X : Type 0} (test : X → Bool) (xs : List X) (x : X) → list_any test (xs ++ x ∷ []) ≡ (list_any test xs || test x)
any_more test [] x = by (test x)
  where
    by : (b : Bool) → (b || false) ≡ b
    by true = refl
    by false = refl
any_more test (y ∷ ys) x = by (test y) (any_more test ys x)
  where
    by : (b : Bool) → list_any test (ys ++ x ∷ []) ≡ (list_any test ys || test x) → (b || list_any test (ys ++ x ∷ [])) ≡ ((b || list_any test ys) || test x)
    by true e = refl
    by false e = e

or_same : (a b : Bool) → ((a || b) || b) ≡ (a || b)
or_same true b = refl
or_same false true = refl
or_same false false = refl

any_references : (o p : ℕ) (ids : List (List ℕ)) (slot : Slot) (d : Data) (ds : List Data) (rs : List WrittenReference)
    → list_any (is_reference_at o p) (with_references ids slot (d ∷ ds) rs) ≡ (list_any (is_reference_at o p) rs || is_at o p slot.object slot.property.0)
any_references o p ids slot d [] rs = any_more (is_reference_at o p) rs (reference_to ids slot (item_text d))
any_references o p ids slot d (e ∷ ds) rs =
    any_references o p ids slot e ds (rs ++ reference_to ids slot (item_text d) ∷ [])
    ∙ ap (λ (b : Bool). b || is_at o p slot.object slot.property.0) (any_more (is_reference_at o p) rs (reference_to ids slot (item_text d)))
    ∙ or_same (list_any (is_reference_at o p) rs) (is_at o p slot.object slot.property.0)

or_turned : (a b c : Bool) → ((a || c) || b) ≡ ((a || b) || c)
or_turned true b c = refl
or_turned false true true = refl
or_turned false true false = refl
or_turned false false true = refl
or_turned false false false = refl

or_grouped : (a b c : Bool) → (a || (b || c)) ≡ ((a || b) || c)
or_grouped true b c = refl
or_grouped false b c = refl

named_said : (o p : ℕ) (ids : List (List ℕ)) (slot : Slot) (ds : List Data) (filed : Filed)
    → said o p (with_named ids slot ds filed) ≡ (said o p filed || is_at o p slot.object slot.property.0)
named_said o p ids slot [] filed =
    ap (λ (b : Bool). list_any (is_reference_at o p) filed.references || b) (any_more (is_mention_at o p) filed.mentions (record { object = slot.object; property = slot.property }))
    ∙ or_grouped (list_any (is_reference_at o p) filed.references) (list_any (is_mention_at o p) filed.mentions) (is_at o p slot.object slot.property.0)
named_said o p ids slot (d ∷ ds) filed =
    ap (λ (b : Bool). b || list_any (is_mention_at o p) filed.mentions) (any_references o p ids slot d ds filed.references)
    ∙ or_turned (list_any (is_reference_at o p) filed.references) (list_any (is_mention_at o p) filed.mentions) (is_at o p slot.object slot.property.0)

items_said : (meta : MetaDesc) (o p : ℕ) (ids : List (List ℕ)) (slot : Slot) (type : Option PropType) (ds : List Data) (filed : Filed)
    → said o p (with_items meta ids slot type ds filed) ≡ (said o p filed || (is_class_type type && is_at o p slot.object slot.property.0))
items_said meta o p ids slot type ds filed = by (is_class_type type)
  where
    by : (b : Bool) → said o p (cond b (with_named ids slot ds filed) (record filed { values = with_values meta slot type ds filed.values }))
        ≡ (said o p filed || (b && is_at o p slot.object slot.property.0))
    by true = named_said o p ids slot ds filed
    by false = sym (or_false (said o p filed))

slot_is_said : (meta : MetaDesc) (o p : ℕ) (ids : List (List ℕ)) (object c : ℕ) (slot : List ℕ × List Data) (filed : Filed) → IsKnownSlot meta c slot
    → said o p (with_found meta ids object (prop_number meta c slot.0) slot.1 filed) ≡ (said o p filed || slot_said meta o p object c slot)
slot_is_said meta o p ids object c slot filed known =
    ap (λ (q : Option ℕ). said o p (with_found meta ids object q slot.1 filed)) known.property
    ∙ items_said meta o p ids (slot_at object (prop_in meta c slot.0)) (type_of meta (prop_in meta c slot.0)) slot.1 filed
    ∙ ap (λ (type : Option PropType). said o p filed || (is_class_type type && is_at o p object (prop_in meta c slot.0))) (sym (type_known meta c slot known))

slots_are_said : (meta : MetaDesc) (o p : ℕ) (ids : List (List ℕ)) (object c : ℕ) (slots : List (List ℕ × List Data)) (filed : Filed) → AllByRecursion (IsKnownSlot meta c) slots
    → said o p (with_slots meta ids object c slots filed) ≡ (said o p filed || slots_said meta o p object c slots)
slots_are_said meta o p ids object c [] filed known = sym (or_false (said o p filed))
slots_are_said meta o p ids object c (slot ∷ slots) filed known =
    slots_are_said meta o p ids object c slots (with_found meta ids object (prop_number meta c slot.0) slot.1 filed) known.1
    ∙ ap (λ (b : Bool). b || slots_said meta o p object c slots) (slot_is_said meta o p ids object c slot filed known.0)
    ∙ sym (or_grouped (said o p filed) (slot_said meta o p object c slot) (slots_said meta o p object c slots))

pub said_collected : (meta : MetaDesc) (o p : ℕ) (ids : List (List ℕ)) (object : ℕ) (objects : List Written) (filed : Filed) → AllByRecursion (IsKnownObject meta) objects
    → said o p (with_objects meta ids object objects filed) ≡ (said o p filed || objects_said meta o p object objects)
said_collected meta o p ids object [] filed known = sym (or_false (said o p filed))
said_collected meta o p ids object (written ∷ rest) filed known =
    ap (λ (c : Option ℕ). said o p (with_objects meta ids (suc object) rest (with_object meta ids object written.slots c filed))) known.0.class
    ∙ said_collected meta o p ids (suc object) rest (with_slots meta ids object (class_in meta written) written.slots filed) known.1
    ∙ ap (λ (b : Bool). b || objects_said meta o p (suc object) rest) (slots_are_said meta o p ids object (class_in meta written) written.slots filed known.0.slots)
    ∙ sym (or_grouped (said o p filed) (slots_said meta o p object (class_in meta written) written.slots) (objects_said meta o p (suc object) rest))

-- ---- as attributes write them: the slot of a property

abbrev pub attr_at : MetaDesc → ℕ → ℕ → Attrs → Option (List ℕ)
attr_at meta c p attrs = value_where (λ name. is_number (prop_number meta c name) p) attrs

skipped : (found : Option (ℕ × List ℕ)) → option_map (λ f. f.1) (option_map later found) ≡ option_map (λ f. f.1) found
skipped None = refl
skipped (Some f) = refl

pub attr_first : (meta : MetaDesc) (c p : ℕ) (a : List ℕ × List ℕ) (attrs : Attrs)
    → attr_at meta c p (a ∷ attrs) ≡ cond (is_number (prop_number meta c a.0) p) (Some a.1) (attr_at meta c p attrs)
attr_first meta c p a attrs = by (is_number (prop_number meta c a.0) p)
  where
    by : (b : Bool) → option_map (λ f. f.1) (cond b (Some (0, a.1)) (option_map later (first_attr (λ name. is_number (prop_number meta c name) p) attrs)))
        ≡ cond b (Some a.1) (attr_at meta c p attrs)
    by true = refl
    by false = skipped (first_attr (λ name. is_number (prop_number meta c name) p) attrs)

-- the items of the slot of a property
abbrev pub slot_of : MetaDesc → ℕ → ℕ → List (List ℕ × List Data) → Option (List Data)
slot_of meta c p [] = None
slot_of meta c p (slot ∷ slots) = cond (is_class_type (type_in meta c slot.0) && (prop_in meta c slot.0 == p)) (Some slot.1) (slot_of meta c p slots)

pub attr_is : (meta : MetaDesc) (c p : ℕ) (slots : List (List ℕ × List Data)) → AllByRecursion (IsKnownSlot meta c) slots
    → attr_at meta c p (reference_attrs meta c slots) ≡ option_map (λ ds. with_blanks (map item_text ds)) (slot_of meta c p slots)
attr_is meta c p [] known = refl
attr_is meta c p (slot ∷ slots) known = by (is_class_type (type_in meta c slot.0)) (attr_is meta c p slots known.1)
  where
    found : (b : Bool) → attr_at meta c p (reference_attrs meta c slots) ≡ option_map (λ ds. with_blanks (map item_text ds)) (slot_of meta c p slots)
        → cond b (Some (with_blanks (map item_text slot.1))) (attr_at meta c p (reference_attrs meta c slots))
        ≡ option_map (λ ds. with_blanks (map item_text ds)) (cond b (Some slot.1) (slot_of meta c p slots))
    found true e = refl
    found false e = e

    by : (b : Bool) → attr_at meta c p (reference_attrs meta c slots) ≡ option_map (λ ds. with_blanks (map item_text ds)) (slot_of meta c p slots)
        → attr_at meta c p (cond b ((slot.0, with_blanks (map item_text slot.1)) ∷ reference_attrs meta c slots) (reference_attrs meta c slots))
        ≡ option_map (λ ds. with_blanks (map item_text ds)) (cond (b && (prop_in meta c slot.0 == p)) (Some slot.1) (slot_of meta c p slots))
    by true e =
        attr_first meta c p (slot.0, with_blanks (map item_text slot.1)) (reference_attrs meta c slots)
        ∙ ap (λ (q : Option ℕ). cond (is_number q p) (Some (with_blanks (map item_text slot.1))) (attr_at meta c p (reference_attrs meta c slots))) known.0.property
        ∙ found (prop_in meta c slot.0 == p) e
    by false e = e

-- ---- slots of other objects

pub not_same : (x y : ℕ) → (x ≡ y → ⊥) → (x == y) ≡ false
not_same x y f = by (x == y) refl
  where
    by : (b : Bool) → (x == y) ≡ b → b ≡ false
    by true e = absurd (f (eqb-true x y e))
    by false e = refl

pub nothing_if : {X : Type 0} (b : Bool) → cond {A = List X} b [] [] ≡ []
nothing_if true = refl
nothing_if false = refl

other_named : (meta : MetaDesc) (ids : List (List ℕ)) (o p object c : ℕ) (slots : List (List ℕ × List Data)) → (object == o) ≡ false → slots_named meta ids o p object c slots ≡ []
other_named meta ids o p object c [] e = refl
other_named meta ids o p object c (slot ∷ slots) e =
    ap₂ (λ (xs ys : List Named). xs ++ ys)
    (ap (λ (b : Bool). cond (is_class_type (type_in meta c slot.0)) (cond (b && (prop_in meta c slot.0 == p)) (map (named_in ids) slot.1) []) []) e ∙ nothing_if (is_class_type (type_in meta c slot.0)))
    (other_named meta ids o p object c slots e)

pub and_false : (a : Bool) → (a && false) ≡ false
and_false true = refl
and_false false = refl

other_said : (meta : MetaDesc) (o p object c : ℕ) (slots : List (List ℕ × List Data)) → (object == o) ≡ false → slots_said meta o p object c slots ≡ false
other_said meta o p object c [] e = refl
other_said meta o p object c (slot ∷ slots) e =
    ap₂ (λ (a b : Bool). a || b)
    (ap (λ (b : Bool). is_class_type (type_in meta c slot.0) && (b && (prop_in meta c slot.0 == p))) e ∙ and_false (is_class_type (type_in meta c slot.0)))
    (other_said meta o p object c slots e)

-- ---- slots of the object: at most one is of the property

abbrev pub named_by : List (List ℕ) → Option (List Data) → List Named
named_by ids None = []
named_by ids (Some ds) = map (named_in ids) ds

pub both_names : (meta : MetaDesc) (c p : ℕ) (slot other : List ℕ × List Data) → IsKnownSlot meta c slot → IsKnownSlot meta c other
    → prop_in meta c slot.0 ≡ p → prop_in meta c other.0 ≡ p → other.0 ≡ slot.0
both_names meta c p slot other known also e f =
    sym (named_prop meta c other.0 p (also.property ∙ ap (λ (q : ℕ). Some q) f)).named ∙ (named_prop meta c slot.0 p (known.property ∙ ap (λ (q : ℕ). Some q) e)).named

-- where the slot is of the property, those of other names aren't
no_more : (meta : MetaDesc) (ids : List (List ℕ)) (o p c : ℕ) (slot : List ℕ × List Data) (slots : List (List ℕ × List Data)) → IsKnownSlot meta c slot → prop_in meta c slot.0 ≡ p
    → AllByRecursion (IsKnownSlot meta c) slots → AllByRecursion (λ other. other.0 ≢ slot.0) slots → slots_named meta ids o p o c slots ≡ []
no_more meta ids o p c slot [] known e others apart = refl
no_more meta ids o p c slot (other ∷ slots) known e others apart =
    let differ : (prop_in meta c other.0 == p) ≡ false = not_same (prop_in meta c other.0) p (λ f. apart.0 (both_names meta c p slot other known others.0 e f)) in
    ap₂ (λ (xs ys : List Named). xs ++ ys)
    (ap (λ (b : Bool). cond (is_class_type (type_in meta c other.0)) (cond ((o == o) && b) (map (named_in ids) other.1) []) []) differ
    ∙ ap (λ (b : Bool). cond (is_class_type (type_in meta c other.0)) (cond b (map (named_in ids) other.1) []) []) (and_false (o == o)) ∙ nothing_if (is_class_type (type_in meta c other.0)))
    (no_more meta ids o p c slot slots known e others.1 apart.1)

pub own_named : (meta : MetaDesc) (ids : List (List ℕ)) (o p c : ℕ) (slots : List (List ℕ × List Data)) → AllByRecursion (IsKnownSlot meta c) slots → AreApart slots
    → slots_named meta ids o p o c slots ≡ named_by ids (slot_of meta c p slots)
own_named meta ids o p c [] known apart = refl
own_named meta ids o p c (slot ∷ slots) known apart =
    ap (λ (b : Bool). cond (is_class_type (type_in meta c slot.0)) (cond (b && (prop_in meta c slot.0 == p)) (map (named_in ids) slot.1) []) [] ++ slots_named meta ids o p o c slots) (eq-eqb o o refl)
    ∙ by (is_class_type (type_in meta c slot.0)) (prop_in meta c slot.0 == p) refl (own_named meta ids o p c slots known.1 apart.1)
  where
    by : (a b : Bool) → (prop_in meta c slot.0 == p) ≡ b → slots_named meta ids o p o c slots ≡ named_by ids (slot_of meta c p slots)
        → cond a (cond (true && b) (map (named_in ids) slot.1) []) [] ++ slots_named meta ids o p o c slots ≡ named_by ids (cond (a && b) (Some slot.1) (slot_of meta c p slots))
    by true true e more =
        ap (λ (xs : List Named). map (named_in ids) slot.1 ++ xs) (no_more meta ids o p c slot slots known.0 (eqb-true (prop_in meta c slot.0) p e) known.1 apart.0)
        ∙ append-nil (map (named_in ids) slot.1)
    by true false e more = more
    by false b e more = more

pub own_said : (meta : MetaDesc) (o p c : ℕ) (slots : List (List ℕ × List Data)) → slots_said meta o p o c slots ≡ is_some (slot_of meta c p slots)
own_said meta o p c [] = refl
own_said meta o p c (slot ∷ slots) =
    ap (λ (b : Bool). (is_class_type (type_in meta c slot.0) && (b && (prop_in meta c slot.0 == p))) || slots_said meta o p o c slots) (eq-eqb o o refl)
    ∙ by (is_class_type (type_in meta c slot.0) && (prop_in meta c slot.0 == p)) (own_said meta o p c slots)
  where
    by : (b : Bool) → slots_said meta o p o c slots ≡ is_some (slot_of meta c p slots) → (b || slots_said meta o p o c slots) ≡ is_some (cond b (Some slot.1) (slot_of meta c p slots))
    by true e = refl
    by false e = e

-- ---- the object of a number

abbrev pub of_object : MetaDesc → ℕ → Option Written → Option (List Data)
of_object meta p None = None
of_object meta p (Some written) = slot_of meta (class_in meta written) p written.slots

later_named : (meta : MetaDesc) (ids : List (List ℕ)) (o p object : ℕ) (objects : List Written) → o < object → objects_named meta ids o p object objects ≡ []
later_named meta ids o p object [] l = refl
later_named meta ids o p object (written ∷ rest) l =
    ap₂ (λ (xs ys : List Named). xs ++ ys) (other_named meta ids o p object (class_in meta written) written.slots (not_same object o (λ e. omega (arith, l, e))))
    (later_named meta ids o p (suc object) rest (omega (arith, l)))

later_said : (meta : MetaDesc) (o p object : ℕ) (objects : List Written) → o < object → objects_said meta o p object objects ≡ false
later_said meta o p object [] l = refl
later_said meta o p object (written ∷ rest) l =
    ap₂ (λ (a b : Bool). a || b) (other_said meta o p object (class_in meta written) written.slots (not_same object o (λ e. omega (arith, l, e))))
    (later_said meta o p (suc object) rest (omega (arith, l)))

abbrev AreKnown : MetaDesc → List Written → Type 0
AreKnown meta objects = AllByRecursion (IsKnownObject meta) objects

-- what the object of a number names is what its slot of the property names
pub object_named : (meta : MetaDesc) (ids : List (List ℕ)) (p : ℕ) (objects : List Written) → AreKnown meta objects → AllByRecursion (λ w. AreApart w.slots) objects
    → (object i o : ℕ) → o ≡ object + i → objects_named meta ids o p object objects ≡ named_by ids (of_object meta p (slice_get objects i))
object_named meta ids p [] known apart object i o e = refl
object_named meta ids p (written ∷ rest) known apart object zero o e =
    let same : object ≡ o = omega (arith, e) in
    let l : o < suc object = omega (arith, e) in
    ap₂ (λ (xs ys : List Named). xs ++ ys)
    (subst (λ (n : ℕ). slots_named meta ids n p object (class_in meta written) written.slots ≡ named_by ids (slot_of meta (class_in meta written) p written.slots)) same
    (own_named meta ids object p (class_in meta written) written.slots known.0.slots apart.0))
    (later_named meta ids o p (suc object) rest l) ∙ append-nil _
object_named meta ids p (written ∷ rest) known apart object (suc i) o e =
    ap₂ (λ (xs ys : List Named). xs ++ ys)
    (other_named meta ids o p object (class_in meta written) written.slots (not_same object o (λ f. omega (arith, e, f))))
    (object_named meta ids p rest known.1 apart.1 (suc object) i o (omega (arith, e)))

pub object_said : (meta : MetaDesc) (p : ℕ) (objects : List Written) → (object i o : ℕ) → o ≡ object + i
    → objects_said meta o p object objects ≡ is_some (of_object meta p (slice_get objects i))
object_said meta p [] object i o e = refl
object_said meta p (written ∷ rest) object zero o e =
    let same : object ≡ o = omega (arith, e) in
    let l : o < suc object = omega (arith, e) in
    ap₂ (λ (a b : Bool). a || b)
    (subst (λ (n : ℕ). slots_said meta n p object (class_in meta written) written.slots ≡ is_some (slot_of meta (class_in meta written) p written.slots)) same
    (own_said meta object p (class_in meta written) written.slots))
    (later_said meta o p (suc object) rest l) ∙ or_false _
object_said meta p (written ∷ rest) object (suc i) o e =
    ap₂ (λ (a b : Bool). a || b)
    (other_said meta o p object (class_in meta written) written.slots (not_same object o (λ f. omega (arith, e, f))))
    (object_said meta p rest (suc object) i o (omega (arith, e)))
