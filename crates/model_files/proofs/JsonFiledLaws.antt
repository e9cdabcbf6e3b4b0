-- The flat lists that are collected of a value of JSON are what the tree writes that says the same.
use Rattle.std.proofs.Common.{◌≡◌, ℕ, zero, suc, ◌+◌, ◌<◌, Bool, true, false, cond, List, [], ◌∷◌, ◌++◌, map, length, refl, sym, ap, ap₂, ◌∙◌, subst, arith, append-nil, Option, None, Some}
use Rattle.std.specs.Prelude.{◌==◌, ◌&&◌, ◌||◌, is_some, filter_map, slice_get, Contains}
use Rattle.std.specs.List.{list_all, list_any, AllByRecursion, cons_option}
use Rattle.std.specs.Option.{option_map, unwrap_or}
use Rattle.std.proofs.lemmas.Bool.{eqb-true, true≢false}
use Rattle.serde_json.specs.Data.{Data}
use Rattle.mof_metamodel.specs.declared.desc.ClassId.{ClassId}
use Rattle.mof_metamodel.specs.declared.desc.MetaDesc.{MetaDesc}
use Rattle.mof_metamodel.specs.declared.desc.PropType.{PropType}
use Rattle.mof_metamodel.specs.Metamodels.{prop_number, type_of}
use Rattle.mof_metamodel.specs.WellMeta.{is_name_character}
use Rattle.object_tables.specs.declared.value.Value.{Value}
use Rattle.object_tables.specs.Models.{is_class_type}
use Rattle.model_assembly.specs.declared.filed.Filed.{Filed}
use Rattle.model_assembly.specs.declared.filed.WrittenValue.{WrittenValue}
use Rattle.model_assembly.specs.declared.filed.WrittenReference.{WrittenReference}
use Rattle.model_assembly.specs.declared.filed.Mention.{Mention}
use Rattle.model_assembly.specs.Attributes.{Attrs}
use Rattle.model_assembly.specs.Content.{values_of, written_values}
use Rattle.model_assembly.specs.Elements.{Item, concrete_class, object_items}
use Rattle.model_assembly.specs.Filed.{IsAttributeIn, IsReferenceIn, value_at, filed_values, reference_at, filed_references, reference_of, IsSaid, by_target, by_mention, IsFiled}
use Rattle.model_assembly.specs.Links.{is_some_target, speaks}
use Rattle.model_assembly.specs.Profile.{xmi_id, xmi_type, props_or_none}
use Rattle.model_assembly.specs.References.{words, attribute_targets}
use Rattle.model_assembly.specs.Source.{Source, all_items, all_ids, object_count, class_of, item_class, file_ids, is_number, attr_in, attr_of, attr_text, listed, element_text, targets_of, element_target_at, element_targets, targets_at, item_at}
use Rattle.model_assembly.specs.Values as texts
use Rattle.model_assembly.specs.Values.{without_repeats}
use Rattle.model_assembly.proofs.assembling.ListLaws.{in_tail}
use Rattle.mof_metamodel.proofs.Facts.{contains_first}
use Rattle.model_files.specs.declared.json_filed.Slot.{Slot}
use Rattle.model_files.specs.JsonContent.{Written, objects_of, class_in, may_stand, is_reference, type_in, value_of, item_text, with_blanks, reference_attrs, source_of}
use Rattle.model_files.specs.JsonFiled.{number_in, reference_to, with_value, with_values, with_references, with_named, with_found, with_slots, with_object, with_objects, HasApart}
use Rattle.model_files.proofs.JsonKnownLaws.{named_prop}
use Rattle.model_files.proofs.JsonTree.{prop_in, IsKnownSlot, IsKnownObject, type_known, object_attrs, objects_items, next_object, all_listed}
use Rattle.model_files.proofs.JsonTreeLaws.{IsSound, all_have, not_plain, at_number, own_item, ids_are, all_ids_are, all_classes_are, objects_counted}
use Rattle.model_files.proofs.JsonValueLaws.{words_are}
use Rattle.model_files.proofs.JsonFiledValues.{slot_at, objects_values, objects_more, elements_read}
use Rattle.model_files.proofs.JsonFiledReferences.{named_in, named_by, objects_named, references_collected, is_reference_at, is_mention_at, said, objects_said, said_collected, attr_at, attr_first, attr_is, slot_of, of_object, object_named, object_said}

-- ---- lists

pub get_mapped : {X Y : Type 0} (f : X → Y) (xs : List X) (i : ℕ) → slice_get (map f xs) i ≡ option_map f (slice_get xs i)
get_mapped f [] i = refl
get_mapped f (x ∷ xs) zero = refl
get_mapped f (x ∷ xs) (suc i) = get_mapped f xs i

pub get_within : {X : Type 0} (xs : List X) (i : ℕ) (x : X) → slice_get xs i ≡ Some x → i < length xs
get_within [] i x e = absurd cc
get_within (y ∷ ys) zero x e = omega arith
get_within (y ∷ ys) (suc i) x e = let l = get_within ys i x e in omega (arith, l)

get_there : {X : Type 0} (xs : List X) (i : ℕ) → i < length xs → (x : X) × (slice_get xs i ≡ Some x)
get_there [] i l = absurd (omega (arith, l))
get_there (x ∷ xs) zero l = (x, refl)
get_there (x ∷ xs) (suc i) l = get_there xs i (omega (arith, l))

-- ---- the slot of a property, as it is written

abbrev Head : Type 0
Head = Option ℕ × Attrs

abbrev head_of : Item → Head
head_of item = (item_class item, item.attrs)

abbrev head_in : MetaDesc → Written → Head
head_in meta written = (Some (class_in meta written), object_attrs meta written)

heads_listed : (meta : MetaDesc) (objects : List Written) → AllByRecursion (IsKnownObject meta) objects → (place number : ℕ)
    → map head_of (object_items (objects_items meta objects place number)) ≡ map (head_in meta) objects
heads_listed meta [] known place number = refl
heads_listed meta (written ∷ rest) known place number =
    ap (map head_of) (next_object meta written rest place number)
    ∙ ap₂ (λ (c : Option ℕ) (hs : List Head). (c, object_attrs meta written) ∷ hs) known.0.class (heads_listed meta rest known.1 _ (suc number))

abbrev attr_by : MetaDesc → ℕ → Option Head → Option (List ℕ)
attr_by meta p None = None
attr_by meta p (Some head) = attr_in meta head.0 p head.1

attr_by_head : (meta : MetaDesc) (p : ℕ) (o : Option Item) → attr_of meta p o ≡ attr_by meta p (option_map head_of o)
attr_by_head meta p None = refl
attr_by_head meta p (Some item) = refl

abbrev pub slot_text : Option (List Data) → Option (List ℕ)
slot_text o = option_map (λ ds. with_blanks (map item_text ds)) o

unnumbered : (meta : MetaDesc) (d : Data) → IsSound meta d → (c p : ℕ) (name : List ℕ) → list_all is_name_character name ≡ false → is_number (prop_number meta c name) p ≡ false
unnumbered meta d sound c p name f = by (prop_number meta c name) refl
  where
    by : (o : Option ℕ) → prop_number meta c name ≡ o → is_number o p ≡ false
    by None e = refl
    by (Some q) e = absurd (not_plain meta sound.plain c name q f e)

object_attr : (meta : MetaDesc) (d : Data) → IsSound meta d → (p : ℕ) (written : Written) → IsKnownObject meta written
    → attr_in meta (Some (class_in meta written)) p (object_attrs meta written) ≡ slot_text (slot_of meta (class_in meta written) p written.slots)
object_attr meta d sound p written known =
    let c : ℕ = class_in meta written in
    let others : Attrs = reference_attrs meta (class_in meta written) written.slots in
    attr_first meta c p (xmi_id, written.id) ((xmi_type, written.class) ∷ others)
    ∙ ap (λ (b : Bool). cond b (Some written.id) (attr_at meta c p ((xmi_type, written.class) ∷ others))) (unnumbered meta d sound c p xmi_id refl)
    ∙ attr_first meta c p (xmi_type, written.class) others
    ∙ ap (λ (b : Bool). cond b (Some written.class) (attr_at meta c p others)) (unnumbered meta d sound c p xmi_type refl)
    ∙ attr_is meta c p written.slots known.slots

-- the attribute of a property is its slot
pub attr_text_is : (meta : MetaDesc) (d : Data) → IsSound meta d → (o p : ℕ) → attr_text (source_of meta d) o p ≡ slot_text (of_object meta p (slice_get (objects_of d) o))
attr_text_is meta d sound o p =
    attr_by_head meta p (item_at (source_of meta d) o)
    ∙ ap (attr_by meta p) (sym (get_mapped head_of (object_items (all_items (source_of meta d))) o))
    ∙ ap (λ (hs : List Head). attr_by meta p (slice_get hs o)) (ap (λ (is : List Item). map head_of (object_items is)) (all_listed meta d sound.right.0) ∙ heads_listed meta (objects_of d) sound.right.0 1 0)
    ∙ ap (attr_by meta p) (get_mapped (head_in meta) (objects_of d) o)
    ∙ by (slice_get (objects_of d) o) refl
  where
    by : (found : Option Written) → slice_get (objects_of d) o ≡ found → attr_by meta p (option_map (head_in meta) found) ≡ slot_text (of_object meta p found)
    by None e = refl
    by (Some written) e = object_attr meta d sound p written (at_number (IsKnownObject meta) (objects_of d) o written sound.right.0 e)

-- ---- no references stand in elements

none_kept : {X Y : Type 0} (h : X → Option Y) (xs : List X) → AllByRecursion (λ x. h x ≡ None) xs → filter_map h xs ≡ []
none_kept h [] all = refl
none_kept {Y = Y} h (x ∷ xs) all = ap₂ (λ (o : Option Y) (ys : List Y). cons_option o ys) all.0 (none_kept h xs all.1)

pub no_element_targets : (meta : MetaDesc) (d : Data) → IsSound meta d → (o p : ℕ) → element_targets (source_of meta d) o p ≡ []
no_element_targets meta d sound o p =
    none_kept (λ item. element_target_at o p item.role) (all_items (source_of meta d))
    (all_have meta d (λ item. element_target_at o p item.role ≡ None) sound refl (λ written known place number. refl) (λ object property name text place value. refl))

-- ---- items of references are identifiers

stand_as : (meta : MetaDesc) (type : Option PropType) (xs : List Data) → is_class_type type ≡ true → AllByRecursion (λ d. may_stand meta type d ≡ true) xs
    → AllByRecursion (λ d. is_reference d ≡ true) xs
stand_as meta type [] f h = tt
stand_as meta type (x ∷ xs) f h = (sym (ap (λ (b : Bool). cond b (is_reference x) (is_some (value_of meta type x))) f) ∙ h.0, stand_as meta type xs f h.1)

slot_referring : (meta : MetaDesc) (c p : ℕ) (slots : List (List ℕ × List Data)) → AllByRecursion (IsKnownSlot meta c) slots → (ds : List Data) → slot_of meta c p slots ≡ Some ds
    → AllByRecursion (λ d. is_reference d ≡ true) ds
slot_referring meta c p [] known ds e = absurd cc
slot_referring meta c p (slot ∷ slots) known ds e = by (is_class_type (type_in meta c slot.0)) (prop_in meta c slot.0 == p) refl e (slot_referring meta c p slots known.1 ds)
  where
    by : (a b : Bool) → is_class_type (type_in meta c slot.0) ≡ a → cond (a && b) (Some slot.1) (slot_of meta c p slots) ≡ Some ds
        → (slot_of meta c p slots ≡ Some ds → AllByRecursion (λ d. is_reference d ≡ true) ds) → AllByRecursion (λ d. is_reference d ≡ true) ds
    by true true t f more =
        subst (AllByRecursion (λ d. is_reference d ≡ true)) (ap (λ (o : Option (List Data)). unwrap_or o []) f)
        (stand_as meta (type_of meta (prop_in meta c slot.0)) slot.1 (ap is_class_type (sym (type_known meta c slot known.0)) ∙ t) known.0.items)
    by true false t f more = more f
    by false b t f more = more f

map_twice : {X Y Z : Type 0} (f : Y → Z) (g : X → Y) (xs : List X) → map f (map g xs) ≡ map (λ x. f (g x)) xs
map_twice f g [] = refl
map_twice {Z = Z} f g (x ∷ xs) = ap (λ (zs : List Z). f (g x) ∷ zs) (map_twice f g xs)

-- a word of a text, as it is named
word_named : (s : Source) (text : List ℕ) → map (reference_of s) (attribute_targets text) ≡ map (λ id. (number_in (all_ids s) id, id)) (words text)
word_named s text = map_twice (reference_of s) _ (words text)

targets_named : (ids : List (List ℕ)) (s : Source) → all_ids s ≡ ids → (ds : List Data) → AllByRecursion (λ d. is_reference d ≡ true) ds
    → map (reference_of s) (attribute_targets (with_blanks (map item_text ds))) ≡ map (named_in ids) ds
targets_named ids s e ds h =
    word_named s (with_blanks (map item_text ds))
    ∙ ap₂ (λ (all texts : List (List ℕ)). map (λ id. (number_in all id, id)) texts) e (words_are ds h)
    ∙ map_twice (λ id. (number_in ids id, id)) item_text ds

-- ---- attributes have no slot of a reference

no_slot_of : (meta : MetaDesc) (c p : ℕ) (slots : List (List ℕ × List Data)) → AllByRecursion (IsKnownSlot meta c) slots → is_class_type (type_of meta p) ≡ false → slot_of meta c p slots ≡ None
no_slot_of meta c p [] known f = refl
no_slot_of meta c p (slot ∷ slots) known f = by (is_class_type (type_in meta c slot.0)) (prop_in meta c slot.0 == p) refl refl (no_slot_of meta c p slots known.1 f)
  where
    by : (a b : Bool) → is_class_type (type_in meta c slot.0) ≡ a → (prop_in meta c slot.0 == p) ≡ b → slot_of meta c p slots ≡ None → cond (a && b) (Some slot.1) (slot_of meta c p slots) ≡ None
    by true true t e more =
        absurd (true≢false (sym t ∙ ap is_class_type (type_known meta c slot known.0) ∙ ap (λ (q : ℕ). is_class_type (type_of meta q)) (eqb-true (prop_in meta c slot.0) p e) ∙ f))
    by true false t e more = more
    by false b t e more = more

-- ---- where values and references stand

record IsOwner (s : Source) (o c : ℕ) : Type 0 where
  within : o < object_count s
  class : class_of s o ≡ Some c

abbrev AreOwners : Source → MetaDesc → ℕ → List Written → Type 0
AreOwners s meta o [] = Unit {0}
AreOwners s meta o (written ∷ rest) = IsOwner s o (class_in meta written) × AreOwners s meta (suc o) rest

owners_from : (s : Source) (meta : MetaDesc) (o : ℕ) (objects : List Written) → ((i : ℕ) (written : Written) → slice_get objects i ≡ Some written → IsOwner s (o + i) (class_in meta written))
    → AreOwners s meta o objects
owners_from s meta o [] h = tt
owners_from s meta o (written ∷ rest) h =
    let here : o + 0 ≡ o = omega arith in (
      subst (λ (n : ℕ). IsOwner s n (class_in meta written)) here (h 0 written refl),
      owners_from s meta (suc o) rest (λ i w e. (let next : o + suc i ≡ suc o + i = omega arith in subst (λ (n : ℕ). IsOwner s n (class_in meta w)) next (h (suc i) w e))),
    )

all_owners : (meta : MetaDesc) (d : Data) → IsSound meta d → AreOwners (source_of meta d) meta 0 (objects_of d)
all_owners meta d sound =
    owners_from (source_of meta d) meta 0 (objects_of d) (λ i written e. (
    let l = get_within (objects_of d) i written e in
    let counted = objects_counted meta d sound in
    let class : class_of (source_of meta d) i ≡ Some (class_in meta written) =
    ap (λ (cs : List (Option ℕ)). unwrap_or (slice_get cs i) None) (all_classes_are meta d sound)
    ∙ ap (λ (o : Option (Option ℕ)). unwrap_or o None) (get_mapped (λ w. Some (class_in meta w)) (objects_of d) i ∙ ap (option_map (λ w. Some (class_in meta w))) e) in
    let number : i ≡ 0 + i = omega arith in
    subst (λ (n : ℕ). IsOwner (source_of meta d) n (class_in meta written)) number (record { within = omega (arith, l, counted); class = class })))

pub record ArePlaced (s : Source) (f : Filed) : Type 0 where
  pub values : AllByRecursion (λ (v : WrittenValue). IsAttributeIn s v.object v.property.0) f.values
  pub references : AllByRecursion (λ (r : WrittenReference). IsReferenceIn s r.object r.property.0) f.references
  pub mentions : AllByRecursion (λ (m : Mention). IsReferenceIn s m.object m.property.0) f.mentions

push_all : {X : Type 0} (P : X → Type 0) (xs : List X) (x : X) → AllByRecursion P xs → P x → AllByRecursion P (xs ++ x ∷ [])
push_all P [] x h p = (p, tt)
push_all P (y ∷ ys) x h p = (h.0, push_all P ys x h.1 p)

values_placed : (meta : MetaDesc) (s : Source) (slot : Slot) (type : Option PropType) (ds : List Data) (vs : List WrittenValue) → IsAttributeIn s slot.object slot.property.0
    → AllByRecursion (λ (v : WrittenValue). IsAttributeIn s v.object v.property.0) vs
    → AllByRecursion (λ (v : WrittenValue). IsAttributeIn s v.object v.property.0) (with_values meta slot type ds vs)
values_placed meta s slot type [] vs here h = h
values_placed meta s slot type (d ∷ ds) vs here h = values_placed meta s slot type ds (with_value slot (value_of meta type d) vs) here (one (value_of meta type d))
  where
    one : (o : Option Value) → AllByRecursion (λ (v : WrittenValue). IsAttributeIn s v.object v.property.0) (with_value slot o vs)
    one None = h
    one (Some v) = push_all _ vs _ h here

references_placed : (s : Source) (ids : List (List ℕ)) (slot : Slot) (ds : List Data) (rs : List WrittenReference) → IsReferenceIn s slot.object slot.property.0
    → AllByRecursion (λ (r : WrittenReference). IsReferenceIn s r.object r.property.0) rs
    → AllByRecursion (λ (r : WrittenReference). IsReferenceIn s r.object r.property.0) (with_references ids slot ds rs)
references_placed s ids slot [] rs here h = h
references_placed s ids slot (d ∷ ds) rs here h = references_placed s ids slot ds (rs ++ reference_to ids slot (item_text d) ∷ []) here (push_all _ rs _ h here)

named_placed : (s : Source) (ids : List (List ℕ)) (slot : Slot) (ds : List Data) (f : Filed) → IsReferenceIn s slot.object slot.property.0 → ArePlaced s f → ArePlaced s (with_named ids slot ds f)
named_placed s ids slot [] f here placed = record { values = placed.values; references = placed.references; mentions = push_all _ f.mentions _ placed.mentions here }
named_placed s ids slot (d ∷ ds) f here placed =
    record { values = placed.values; references = references_placed s ids slot (d ∷ ds) f.references here placed.references; mentions = placed.mentions }

slot_placed : (meta : MetaDesc) (d : Data) (ids : List (List ℕ)) (object c : ℕ) (slot : List ℕ × List Data) (f : Filed) → IsOwner (source_of meta d) object c → IsKnownSlot meta c slot
    → ArePlaced (source_of meta d) f → ArePlaced (source_of meta d) (with_found meta ids object (prop_number meta c slot.0) slot.1 f)
slot_placed meta d ids object c slot f owner known placed =
    subst (λ (o : Option ℕ). ArePlaced (source_of meta d) (with_found meta ids object o slot.1 f)) (sym known.property)
    (by (is_class_type (type_of meta (prop_in meta c slot.0))) refl)
  where
    has : Contains (props_or_none meta (class_of (source_of meta d) object)) (prop_in meta c slot.0)
    has = subst (λ (k : Option ℕ). Contains (props_or_none meta k) (prop_in meta c slot.0)) (sym owner.class) (named_prop meta c slot.0 (prop_in meta c slot.0) known.property).has

    by : (b : Bool) → is_class_type (type_of meta (prop_in meta c slot.0)) ≡ b
        → ArePlaced (source_of meta d) (cond b (with_named ids (slot_at object (prop_in meta c slot.0)) slot.1 f)
        (record f { values = with_values meta (slot_at object (prop_in meta c slot.0)) (type_of meta (prop_in meta c slot.0)) slot.1 f.values }))
    by true e = named_placed (source_of meta d) ids (slot_at object (prop_in meta c slot.0)) slot.1 f (record { object = owner.within; has = has; class_type = e }) placed
    by false e =
        record {
          values = values_placed meta (source_of meta d) (slot_at object (prop_in meta c slot.0)) (type_of meta (prop_in meta c slot.0)) slot.1 f.values
              (record { object = owner.within; has = has; data_type = e }) placed.values;
          references = placed.references;
          mentions = placed.mentions;
        }

slots_placed : (meta : MetaDesc) (d : Data) (ids : List (List ℕ)) (object c : ℕ) (slots : List (List ℕ × List Data)) (f : Filed) → IsOwner (source_of meta d) object c
    → AllByRecursion (IsKnownSlot meta c) slots → ArePlaced (source_of meta d) f → ArePlaced (source_of meta d) (with_slots meta ids object c slots f)
slots_placed meta d ids object c [] f owner known placed = placed
slots_placed meta d ids object c (slot ∷ slots) f owner known placed =
    slots_placed meta d ids object c slots _ owner known.1 (slot_placed meta d ids object c slot f owner known.0 placed)

objects_placed : (meta : MetaDesc) (d : Data) (ids : List (List ℕ)) (object : ℕ) (objects : List Written) (f : Filed) → AreOwners (source_of meta d) meta object objects
    → AllByRecursion (IsKnownObject meta) objects → ArePlaced (source_of meta d) f → ArePlaced (source_of meta d) (with_objects meta ids object objects f)
objects_placed meta d ids object [] f owners known placed = placed
objects_placed meta d ids object (written ∷ rest) f owners known placed =
    subst (λ (c : Option ℕ). ArePlaced (source_of meta d) (with_objects meta ids (suc object) rest (with_object meta ids object written.slots c f))) (sym known.0.class)
    (objects_placed meta d ids (suc object) rest (with_slots meta ids object (class_in meta written) written.slots f) owners.1 known.1
    (slots_placed meta d ids object (class_in meta written) written.slots f owners.0 known.0.slots placed))

-- ---- identifiers and classes stay

record IsKept (f g : Filed) : Type 0 where
  ids : g.ids ≡ f.ids
  classes : g.classes ≡ f.classes

named_kept : (ids : List (List ℕ)) (slot : Slot) (ds : List Data) (f : Filed) → IsKept f (with_named ids slot ds f)
named_kept ids slot [] f = record { ids = refl; classes = refl }
named_kept ids slot (d ∷ ds) f = record { ids = refl; classes = refl }

found_kept : (meta : MetaDesc) (ids : List (List ℕ)) (object : ℕ) (p : Option ℕ) (ds : List Data) (f : Filed) → IsKept f (with_found meta ids object p ds f)
found_kept meta ids object None ds f = record { ids = refl; classes = refl }
found_kept meta ids object (Some p) ds f = by (is_class_type (type_of meta p))
  where
    by : (b : Bool) → IsKept f (cond b (with_named ids (slot_at object p) ds f) (record f { values = with_values meta (slot_at object p) (type_of meta p) ds f.values }))
    by true = named_kept ids (slot_at object p) ds f
    by false = record { ids = refl; classes = refl }

then_kept : (f g h : Filed) → IsKept f g → IsKept g h → IsKept f h
then_kept f g h a b = record { ids = b.ids ∙ a.ids; classes = b.classes ∙ a.classes }

slots_kept : (meta : MetaDesc) (ids : List (List ℕ)) (object c : ℕ) (slots : List (List ℕ × List Data)) (f : Filed) → IsKept f (with_slots meta ids object c slots f)
slots_kept meta ids object c [] f = record { ids = refl; classes = refl }
slots_kept meta ids object c (slot ∷ slots) f =
    then_kept f _ _ (found_kept meta ids object (prop_number meta c slot.0) slot.1 f) (slots_kept meta ids object c slots (with_found meta ids object (prop_number meta c slot.0) slot.1 f))

object_kept : (meta : MetaDesc) (ids : List (List ℕ)) (object : ℕ) (slots : List (List ℕ × List Data)) (c : Option ℕ) (f : Filed) → IsKept f (with_object meta ids object slots c f)
object_kept meta ids object slots None f = record { ids = refl; classes = refl }
object_kept meta ids object slots (Some c) f = slots_kept meta ids object c slots f

objects_kept : (meta : MetaDesc) (ids : List (List ℕ)) (object : ℕ) (objects : List Written) (f : Filed) → IsKept f (with_objects meta ids object objects f)
objects_kept meta ids object [] f = record { ids = refl; classes = refl }
objects_kept meta ids object (written ∷ rest) f =
    then_kept f _ _ (object_kept meta ids object written.slots (concrete_class meta written.class) f)
    (objects_kept meta ids (suc object) rest (with_object meta ids object written.slots (concrete_class meta written.class) f))

pub classes_known : (meta : MetaDesc) (objects : List Written) → AllByRecursion (IsKnownObject meta) objects → map (λ w. concrete_class meta w.class) objects ≡ map (λ w. Some (class_in meta w)) objects
classes_known meta [] known = refl
classes_known meta (written ∷ rest) known = ap₂ (λ (c : Option ℕ) (cs : List (Option ℕ)). c ∷ cs) known.0.class (classes_known meta rest known.1)

-- ---- what is said

any_there : {X : Type 0} (test : X → Bool) (xs : List X) → list_any test xs ≡ true → (x : X) × Contains xs x × (test x ≡ true)
any_there test [] e = absurd (true≢false (sym e))
any_there {X = X} test (x ∷ xs) e = by (test x) refl e (any_there test xs)
  where
    by : (b : Bool) → test x ≡ b → (b || list_any test xs) ≡ true → (list_any test xs ≡ true → (y : X) × Contains xs y × (test y ≡ true)) → (y : X) × Contains (x ∷ xs) y × (test y ≡ true)
    by true f g more = (x, contains_first x xs, f)
    by false f g more = (let (y, there, t) = more g in (y, in_tail x xs y there, t))

none_any : {X : Type 0} (test : X → Bool) (ys : List X) → list_any test ys ≡ false → AllByRecursion (λ y. test y ≡ false) ys
none_any test [] f = tt
none_any test (y ∷ ys) f = by (test y) refl f (none_any test ys)
  where
    by : (b : Bool) → test y ≡ b → (b || list_any test ys) ≡ false → (list_any test ys ≡ false → AllByRecursion (λ z. test z ≡ false) ys) → AllByRecursion (λ z. test z ≡ false) (y ∷ ys)
    by true g h more = absurd (true≢false h)
    by false g h more = (g, more h)

pub there_any : {X : Type 0} (test : X → Bool) (xs : List X) (x : X) → Contains xs x → test x ≡ true → list_any test xs ≡ true
there_any test xs x c e = by (list_any test xs) refl
  where
    by : (b : Bool) → list_any test xs ≡ b → b ≡ true
    by true f = refl
    by false f = absurd (true≢false (sym e ∙ own_item (λ y. test y ≡ false) xs x (none_any test xs f) c))

said_is : (o p : ℕ) (f : Filed) → said o p f ≡ true → IsSaid f o p
said_is o p f e = by (list_any (is_reference_at o p) f.references) refl e
  where
    by : (b : Bool) → list_any (is_reference_at o p) f.references ≡ b → (b || list_any (is_mention_at o p) f.mentions) ≡ true → IsSaid f o p
    by true g h = (let (r, c, t) = any_there (is_reference_at o p) f.references g in by_target r c t)
    by false g h = (let (m, c, t) = any_there (is_mention_at o p) f.mentions h in by_mention m c t)

or_true : (a : Bool) → (a || true) ≡ true
or_true true = refl
or_true false = refl

is_said : (o p : ℕ) (f : Filed) → IsSaid f o p → said o p f ≡ true
is_said o p f (by_target r c t) = ap (λ (b : Bool). b || list_any (is_mention_at o p) f.mentions) (there_any (is_reference_at o p) f.references r c t)
is_said o p f (by_mention m c t) =
    ap (λ (b : Bool). list_any (is_reference_at o p) f.references || b) (there_any (is_mention_at o p) f.mentions m c t) ∙ or_true (list_any (is_reference_at o p) f.references)

-- the values that the tree writes at an attribute
pub values_written : (meta : MetaDesc) (d : Data) → IsSound meta d → (o p : ℕ) → IsAttributeIn (source_of meta d) o p
    → without_repeats (objects_values meta o p 0 (objects_of d)) ≡ written_values (source_of meta d) o p
values_written meta d sound o p attribute =
    let counted = objects_counted meta d sound in
    let short : o < length (objects_of d) = (let l = attribute.object in omega (arith, l, counted)) in
    let (written, at) = get_there (objects_of d) o short in
    let id : slice_get (file_ids (source_of meta d)) o ≡ Some written.id =
    ap (λ (xs : List (List ℕ)). slice_get xs o) (ids_are meta d sound.right.0) ∙ get_mapped (λ w. w.id) (objects_of d) o ∙ ap (option_map (λ w. w.id)) at in
    let known = at_number (IsKnownObject meta) (objects_of d) o written sound.right.0 at in
    let none : attr_text (source_of meta d) o p ≡ None =
    attr_text_is meta d sound o p ∙ ap (λ (x : Option Written). slot_text (of_object meta p x)) at
    ∙ ap slot_text (no_slot_of meta (class_in meta written) p written.slots known.slots attribute.data_type) in
    ap without_repeats
    (sym (elements_read meta d sound o p)
    ∙ sym (ap (λ (x : Option (List ℕ)). filter_map (texts.value_of meta (type_of meta p)) (listed x ++ filter_map (element_text o p) (all_items (source_of meta d)))) none))
    ∙ sym (ap (values_of (source_of meta d) o p) id)

-- ---- all of it

-- the lists before the first object
pub record IsBegin (meta : MetaDesc) (d : Data) (f : Filed) : Type 0 where
  pub ids : f.ids ≡ map (λ w. w.id) (objects_of d)
  pub classes : map (λ c. Some c.0) f.classes ≡ map (λ w. concrete_class meta w.class) (objects_of d)
  pub values : f.values ≡ []
  pub references : f.references ≡ []
  pub mentions : f.mentions ≡ []

module _ (meta : MetaDesc) (d : Data) (sound : IsSound meta d) (apart : HasApart (objects_of d)) (f : Filed) (begin : IsBegin meta d f) where
  abbrev found : Filed
  found = with_objects meta (map (λ w. w.id) (objects_of d)) 0 (objects_of d) f

  values_are : (o p : ℕ) → filed_values found.values o p ≡ objects_values meta o p 0 (objects_of d)
  values_are o p =
      objects_more meta o p (map (λ w. w.id) (objects_of d)) 0 (objects_of d) f sound.right.0
      ∙ ap (λ (vs : List WrittenValue). filter_map (value_at o p) vs ++ objects_values meta o p 0 (objects_of d)) begin.values

  references_are : (o p : ℕ) → filed_references found.references o p ≡ named_by (map (λ w. w.id) (objects_of d)) (of_object meta p (slice_get (objects_of d) o))
  references_are o p =
      references_collected meta o p (map (λ w. w.id) (objects_of d)) 0 (objects_of d) f sound.right.0
      ∙ ap (λ (rs : List WrittenReference). filter_map (reference_at o p) rs ++ objects_named meta (map (λ w. w.id) (objects_of d)) o p 0 (objects_of d)) begin.references
      ∙ (let number : o ≡ 0 + o = omega arith in object_named meta (map (λ w. w.id) (objects_of d)) p (objects_of d) sound.right.0 apart 0 o o number)

  said_are : (o p : ℕ) → said o p found ≡ is_some (of_object meta p (slice_get (objects_of d) o))
  said_are o p =
      said_collected meta o p (map (λ w. w.id) (objects_of d)) 0 (objects_of d) f sound.right.0
      ∙ ap₂ (λ (rs : List WrittenReference) (ms : List Mention). (list_any (is_reference_at o p) rs || list_any (is_mention_at o p) ms) || objects_said meta o p 0 (objects_of d)) begin.references begin.mentions
      ∙ (let number : o ≡ 0 + o = omega arith in object_said meta p (objects_of d) 0 o o number)

  speaks_is : (o p : ℕ) → speaks (source_of meta d) o p ≡ said o p found
  speaks_is o p =
      ap₂ (λ (a : Option (List ℕ)) ts. is_some a || is_some_target ts) (attr_text_is meta d sound o p) (no_element_targets meta d sound o p)
      ∙ by (of_object meta p (slice_get (objects_of d) o)) ∙ sym (said_are o p)
    where
      by : (x : Option (List Data)) → (is_some (slot_text x) || false) ≡ is_some x
      by None = refl
      by (Some ds) = refl

  file_values_are : (o p : ℕ) → IsAttributeIn (source_of meta d) o p → without_repeats (filed_values found.values o p) ≡ written_values (source_of meta d) o p
  file_values_are o p attribute = ap without_repeats (values_are o p) ∙ values_written meta d sound o p attribute

  targets_are_named : (o p : ℕ) → filed_references found.references o p ≡ map (reference_of (source_of meta d)) (targets_at (source_of meta d) o p)
  targets_are_named o p =
      references_are o p ∙ by (slice_get (objects_of d) o) refl
      ∙ sym (ap₂ (λ (a : Option (List ℕ)) ts. map (reference_of (source_of meta d)) (targets_of a ++ ts)) (attr_text_is meta d sound o p) (no_element_targets meta d sound o p))
    where
      slot : (x : Option (List Data)) → ((ds : List Data) → x ≡ Some ds → AllByRecursion (λ e. is_reference e ≡ true) ds)
          → named_by (map (λ w. w.id) (objects_of d)) x ≡ map (reference_of (source_of meta d)) (targets_of (slot_text x) ++ [])
      slot None h = refl
      slot (Some ds) h =
          sym (ap (map (reference_of (source_of meta d))) (append-nil (attribute_targets (with_blanks (map item_text ds))))
          ∙ targets_named (map (λ w. w.id) (objects_of d)) (source_of meta d) (all_ids_are meta d sound) ds (h ds refl))

      by : (x : Option Written) → slice_get (objects_of d) o ≡ x
          → named_by (map (λ w. w.id) (objects_of d)) (of_object meta p x) ≡ map (reference_of (source_of meta d)) (targets_of (slot_text (of_object meta p x)) ++ [])
      by None e = refl
      by (Some written) e =
          slot (slot_of meta (class_in meta written) p written.slots)
          (slot_referring meta (class_in meta written) p written.slots (at_number (IsKnownObject meta) (objects_of d) o written sound.right.0 e).slots)

  placed : ArePlaced (source_of meta d) found
  placed =
      objects_placed meta d (map (λ w. w.id) (objects_of d)) 0 (objects_of d) f (all_owners meta d sound) sound.right.0
      (record {
        values = subst (AllByRecursion (λ (v : WrittenValue). IsAttributeIn (source_of meta d) v.object v.property.0)) (sym begin.values) tt;
        references = subst (AllByRecursion (λ (r : WrittenReference). IsReferenceIn (source_of meta d) r.object r.property.0)) (sym begin.references) tt;
        mentions = subst (AllByRecursion (λ (m : Mention). IsReferenceIn (source_of meta d) m.object m.property.0)) (sym begin.mentions) tt;
      })

  -- what is collected is what the tree writes
  pub collected_is_filed : IsFiled (source_of meta d) (with_objects meta (map (λ w. w.id) (objects_of d)) 0 (objects_of d) f)
  collected_is_filed =
      let kept = objects_kept meta (map (λ w. w.id) (objects_of d)) 0 (objects_of d) f in
      record {
        ids = kept.ids ∙ begin.ids ∙ sym (all_ids_are meta d sound);
        classes = ap (map (λ (c : ClassId). Some c.0)) kept.classes ∙ begin.classes ∙ classes_known meta (objects_of d) sound.right.0 ∙ sym (all_classes_are meta d sound);
        values = file_values_are;
        value_place = λ v there. own_item (λ (x : WrittenValue). IsAttributeIn (source_of meta d) x.object x.property.0) found.values v placed.values there;
        references = λ o p reference. targets_are_named o p;
        reference_place = λ r there. own_item (λ (x : WrittenReference). IsReferenceIn (source_of meta d) x.object x.property.0) found.references r placed.references there;
        speaking = λ o p reference. (λ e. said_is o p found (sym (speaks_is o p) ∙ e), λ h. speaks_is o p ∙ is_said o p found h);
        mention_place = λ m there. own_item (λ (x : Mention). IsReferenceIn (source_of meta d) x.object x.property.0) found.mentions m placed.mentions there;
      }
