-- What else is known of the objects and the values that are collected of a value of JSON: values are of the types of their attributes,
-- classes are concrete, and identifiers are proper and distinct.
use Rattle.std.proofs.Common.{◌≡◌, ◌≢◌, ℕ, zero, suc, ◌<◌, Bool, true, false, cond, List, [], ◌∷◌, ◌++◌, map, length, refl, sym, ap, ap₂, ◌∙◌, subst, arith, Option, None, Some}
use Rattle.std.specs.Prelude.{◌&&◌, ℤ, All, AllPairs, slice_index_or, chars}
use Rattle.std.specs.List.{AllByRecursion}
use Rattle.std.specs.Option.{option_map, unwrap_or}
use Rattle.std.proofs.lemmas.Bool.{lt-ltb, eq-eqb}
use Rattle.std.proofs.lemmas.List.{length-map}
use Rattle.std.proofs.lemmas.Option.{slice_get-get_or}
use Rattle.serde_json.specs.Data.{Num, Data, null, boolean, number, string, array, object}
use Rattle.serde_json.specs.Find.{as_i64}
use Rattle.mof_metamodel.specs.declared.desc.ClassId.{ClassId}
use Rattle.mof_metamodel.specs.declared.desc.EnumId.{EnumId}
use Rattle.mof_metamodel.specs.declared.desc.MetaDesc.{MetaDesc}
use Rattle.mof_metamodel.specs.declared.desc.PropType.{PropType}
use Rattle.mof_metamodel.specs.declared.desc.PropType.TheVariants as types
use Rattle.mof_metamodel.specs.Characters.{is_storable_text, is_identifier_text}
use Rattle.mof_metamodel.specs.Metamodels.{class_count, class_number, class_at, no_class, enum_at, literal_number, prop_number, type_of}
use Rattle.mof_metamodel.proofs.MetaLaws.{literal_within}
use Rattle.mof_metamodel.proofs.SearchLemmas.{position_named}
use Rattle.object_tables.specs.declared.value.Value.{Value}
use Rattle.object_tables.specs.declared.value.Value.TheVariants as values
use Rattle.object_tables.specs.Models.{is_class_type, is_value_of}
use Rattle.model_assembly.specs.declared.filed.Filed.{Filed}
use Rattle.model_assembly.specs.declared.filed.WrittenValue.{WrittenValue}
use Rattle.model_assembly.specs.Elements.{concrete, concrete_class}
use Rattle.model_assembly.specs.Filed.{IsFiled}
use Rattle.model_assembly.specs.SoundFiled.{IsTyped, IsSoundFiled}
use Rattle.model_assembly.specs.Source.{all_ids, all_classes}
use Rattle.model_files.specs.declared.json_filed.Slot.{Slot}
use Rattle.model_files.specs.JsonContent.{Written, objects_of, class_in, text_value, value_of, source_of}
use Rattle.model_files.specs.JsonFiled.{with_value, with_values, with_named, with_found, with_slots, with_object, with_objects}
use Rattle.model_files.proofs.JsonFiledValues.{slot_at}
use Rattle.model_files.proofs.JsonKnownLaws.{distinct_ids}
use Rattle.model_files.proofs.JsonTree.{IsKnownObject}
use Rattle.model_files.proofs.JsonTreeLaws.{IsSound, all_ids_are, all_classes_are}

-- ---- lists

pub all_from : {X : Type 0} (P : X → Type 0) (xs : List X) → AllByRecursion P xs → All P xs
all_from P [] h k d l = absurd (omega (arith, l))
all_from P (x ∷ xs) h zero d l = h.0
all_from P (x ∷ xs) h (suc k) d l = all_from P xs h.1 k d (omega (arith, l))

-- ---- values

abbrev IsOf : MetaDesc → Option PropType → Option Value → Type 0
IsOf meta type None = Unit {0}
IsOf meta type (Some v) = is_value_of meta type v ≡ true

text_of_type : (meta : MetaDesc) (text : List ℕ) → IsOf meta (Some types.Str) (text_value text)
text_of_type meta text = by (is_storable_text text) refl
  where
    by : (b : Bool) → is_storable_text text ≡ b → IsOf meta (Some types.Str) (cond b (Some (values.Str text)) None)
    by true e = e
    by false e = tt

integer_of_type : (meta : MetaDesc) (n : Num) → IsOf meta (Some types.Int) (option_map (λ i. values.Int i) (as_i64 n))
integer_of_type meta n = by (as_i64 n)
  where
    by : (o : Option ℤ) → IsOf meta (Some types.Int) (option_map (λ i. values.Int i) o)
    by None = tt
    by (Some i) = refl

literal_of_type : (meta : MetaDesc) (e : EnumId) (text : List ℕ) → IsOf meta (Some (types.Enum e)) (option_map (λ n. values.Lit e n) (literal_number meta e.0 text))
literal_of_type meta e text = by (literal_number meta e.0 text) refl
  where
    by : (o : Option ℕ) → literal_number meta e.0 text ≡ o → IsOf meta (Some (types.Enum e)) (option_map (λ n. values.Lit e n) o)
    by None f = tt
    by (Some n) f =
        ap₂ (λ (a b : Bool). a && b) (eq-eqb e.0 e.0 refl) (lt-ltb n (length (enum_at meta e.0).literals) (literal_within meta e.0 text (Some n) (sym f)))

value_of_type : (meta : MetaDesc) (type : Option PropType) (d : Data) → IsOf meta type (value_of meta type d)
value_of_type meta None d = tt
value_of_type meta (Some types.Str) null = tt
value_of_type meta (Some types.Str) (boolean b) = tt
value_of_type meta (Some types.Str) (number n) = tt
value_of_type meta (Some types.Str) (string s) = text_of_type meta (chars s)
value_of_type meta (Some types.Str) (array ds) = tt
value_of_type meta (Some types.Str) (object ms) = tt
value_of_type meta (Some types.Int) null = tt
value_of_type meta (Some types.Int) (boolean b) = tt
value_of_type meta (Some types.Int) (number n) = integer_of_type meta n
value_of_type meta (Some types.Int) (string s) = tt
value_of_type meta (Some types.Int) (array ds) = tt
value_of_type meta (Some types.Int) (object ms) = tt
value_of_type meta (Some types.Bool) null = tt
value_of_type meta (Some types.Bool) (boolean b) = refl
value_of_type meta (Some types.Bool) (number n) = tt
value_of_type meta (Some types.Bool) (string s) = tt
value_of_type meta (Some types.Bool) (array ds) = tt
value_of_type meta (Some types.Bool) (object ms) = tt
value_of_type meta (Some (types.Enum e)) null = tt
value_of_type meta (Some (types.Enum e)) (boolean b) = tt
value_of_type meta (Some (types.Enum e)) (number n) = tt
value_of_type meta (Some (types.Enum e)) (string s) = literal_of_type meta e (chars s)
value_of_type meta (Some (types.Enum e)) (array ds) = tt
value_of_type meta (Some (types.Enum e)) (object ms) = tt
value_of_type meta (Some (types.Class c)) d = tt

push_all : {X : Type 0} (P : X → Type 0) (xs : List X) (x : X) → AllByRecursion P xs → P x → AllByRecursion P (xs ++ x ∷ [])
push_all P [] x h p = (p, tt)
push_all P (y ∷ ys) x h p = (h.0, push_all P ys x h.1 p)

value_typed : (meta : MetaDesc) (slot : Slot) (o : Option Value) (vs : List WrittenValue) → IsOf meta (type_of meta slot.property.0) o → AllByRecursion (IsTyped meta) vs
    → AllByRecursion (IsTyped meta) (with_value slot o vs)
value_typed meta slot None vs is h = h
value_typed meta slot (Some v) vs is h = push_all (IsTyped meta) vs _ h is

values_typed : (meta : MetaDesc) (slot : Slot) (ds : List Data) (vs : List WrittenValue) → AllByRecursion (IsTyped meta) vs
    → AllByRecursion (IsTyped meta) (with_values meta slot (type_of meta slot.property.0) ds vs)
values_typed meta slot [] vs h = h
values_typed meta slot (d ∷ ds) vs h =
    values_typed meta slot ds (with_value slot (value_of meta (type_of meta slot.property.0) d) vs)
    (value_typed meta slot (value_of meta (type_of meta slot.property.0) d) vs (value_of_type meta (type_of meta slot.property.0) d) h)

named_typed : (meta : MetaDesc) (ids : List (List ℕ)) (slot : Slot) (ds : List Data) (f : Filed) → AllByRecursion (IsTyped meta) f.values → AllByRecursion (IsTyped meta) (with_named ids slot ds f).values
named_typed meta ids slot [] f h = h
named_typed meta ids slot (d ∷ ds) f h = h

found_typed : (meta : MetaDesc) (ids : List (List ℕ)) (owner : ℕ) (p : Option ℕ) (ds : List Data) (f : Filed) → AllByRecursion (IsTyped meta) f.values
    → AllByRecursion (IsTyped meta) (with_found meta ids owner p ds f).values
found_typed meta ids owner None ds f h = h
found_typed meta ids owner (Some p) ds f h = by (is_class_type (type_of meta p))
  where
    by : (b : Bool) → AllByRecursion (IsTyped meta) (cond b (with_named ids (slot_at owner p) ds f) (record f { values = with_values meta (slot_at owner p) (type_of meta p) ds f.values })).values
    by true = named_typed meta ids (slot_at owner p) ds f h
    by false = values_typed meta (slot_at owner p) ds f.values h

slots_typed : (meta : MetaDesc) (ids : List (List ℕ)) (owner c : ℕ) (slots : List (List ℕ × List Data)) (f : Filed) → AllByRecursion (IsTyped meta) f.values
    → AllByRecursion (IsTyped meta) (with_slots meta ids owner c slots f).values
slots_typed meta ids owner c [] f h = h
slots_typed meta ids owner c (slot ∷ slots) f h = slots_typed meta ids owner c slots _ (found_typed meta ids owner (prop_number meta c slot.0) slot.1 f h)

object_typed : (meta : MetaDesc) (ids : List (List ℕ)) (owner : ℕ) (slots : List (List ℕ × List Data)) (c : Option ℕ) (f : Filed) → AllByRecursion (IsTyped meta) f.values
    → AllByRecursion (IsTyped meta) (with_object meta ids owner slots c f).values
object_typed meta ids owner slots None f h = h
object_typed meta ids owner slots (Some c) f h = slots_typed meta ids owner c slots f h

objects_typed : (meta : MetaDesc) (ids : List (List ℕ)) (owner : ℕ) (objects : List Written) (f : Filed) → AllByRecursion (IsTyped meta) f.values
    → AllByRecursion (IsTyped meta) (with_objects meta ids owner objects f).values
objects_typed meta ids owner [] f h = h
objects_typed meta ids owner (written ∷ rest) f h =
    objects_typed meta ids (suc owner) rest _ (object_typed meta ids owner written.slots (concrete_class meta written.class) f h)

-- the values that are collected are of the types of their attributes
pub all_typed : (meta : MetaDesc) (ids : List (List ℕ)) (objects : List Written) (f found : Filed) → f.values ≡ [] → found ≡ with_objects meta ids 0 objects f → All (IsTyped meta) found.values
all_typed meta ids objects f found none is =
    all_from (IsTyped meta) found.values
    (subst (λ (g : Filed). AllByRecursion (IsTyped meta) g.values) (sym is)
    (objects_typed meta ids 0 objects f (subst (AllByRecursion (IsTyped meta)) (sym none) tt)))

-- ---- classes

abbrev IsConcrete : MetaDesc → ℕ → Type 0
IsConcrete meta c = (c < class_count meta) × ((class_at meta c).is_abstract ≡ false)

concrete_is : (meta : MetaDesc) (name : List ℕ) (c : ℕ) → concrete_class meta name ≡ Some c → IsConcrete meta c
concrete_is meta name c e = by (class_number meta name) refl e
  where
    inside : (k : ℕ) (b : Bool) → (class_at meta k).is_abstract ≡ b → k < class_count meta → cond b None (Some k) ≡ Some c → IsConcrete meta c
    inside k true f l g = absurd cc
    inside k false f l g = subst (IsConcrete meta) (ap (λ (o : Option ℕ). unwrap_or o 0) g) (l, f)

    by : (o : Option ℕ) → class_number meta name ≡ o → concrete meta o ≡ Some c → IsConcrete meta c
    by None f g = absurd cc
    by (Some k) f g = inside k (class_at meta k).is_abstract refl (position_named (λ x. x.name) meta.classes name k no_class f).0 g

classes_from : (meta : MetaDesc) (objects : List Written) → AllByRecursion (IsKnownObject meta) objects → (classes : List ClassId)
    → map (λ c. Some c.0) classes ≡ map (λ w. Some (class_in meta w)) objects → AllByRecursion (λ c. IsConcrete meta c.0) classes
classes_from meta objects known [] e = tt
classes_from meta [] known (c ∷ cs) e = absurd cc
classes_from meta (written ∷ rest) known (c ∷ cs) e =
    let same : c.0 ≡ class_in meta written = first (map (λ x. Some x.0) cs) (map (λ w. Some (class_in meta w)) rest) e in
    let others : map (λ x. Some x.0) cs ≡ map (λ w. Some (class_in meta w)) rest = later (Some c.0) (Some (class_in meta written)) e in
    (subst (IsConcrete meta) (sym same) (concrete_is meta written.class (class_in meta written) known.0.class), classes_from meta rest known.1 cs others)
  where
    first : {a b : ℕ} (xs ys : List (Option ℕ)) → Some a ∷ xs ≡ Some b ∷ ys → a ≡ b
    first xs ys f = cc

    later : {xs ys : List (Option ℕ)} (x y : Option ℕ) → x ∷ xs ≡ y ∷ ys → xs ≡ ys
    later x y f = cc

-- the classes of the objects are concrete
pub classes_concrete : (meta : MetaDesc) (d : Data) → IsSound meta d → (classes : List ClassId) → map (λ c. Some c.0) classes ≡ all_classes (source_of meta d)
    → All (λ c. (c.0 < class_count meta) × ((class_at meta c.0).is_abstract ≡ false)) classes
classes_concrete meta d sound classes e =
    all_from (λ c. IsConcrete meta c.0) classes (classes_from meta (objects_of d) sound.right.0 classes (e ∙ all_classes_are meta d sound))

-- ---- identifiers

ids_proper : (meta : MetaDesc) (objects : List Written) → AllByRecursion (IsKnownObject meta) objects → AllByRecursion (λ id. is_identifier_text id ≡ true) (map (λ w. w.id) objects)
ids_proper meta [] known = tt
ids_proper meta (written ∷ rest) known = (known.0.id, ids_proper meta rest known.1)

-- the identifiers of the objects are proper
pub identifiers_proper : (meta : MetaDesc) (d : Data) → IsSound meta d → All (λ id. is_identifier_text id ≡ true) (all_ids (source_of meta d))
identifiers_proper meta d sound =
    subst (All (λ id. is_identifier_text id ≡ true)) (sym (all_ids_are meta d sound))
    (all_from (λ id. is_identifier_text id ≡ true) (map (λ w. w.id) (objects_of d)) (ids_proper meta (objects_of d) sound.right.0))

-- and distinct
pub identifiers_distinct : (meta : MetaDesc) (d : Data) → IsSound meta d → AllPairs (λ x y. x ≢ y) (all_ids (source_of meta d))
identifiers_distinct meta d sound =
    subst (AllPairs (λ x y. x ≢ y)) (sym (all_ids_are meta d sound)) (λ i j id l within same. (
    let early : i < length (map (λ w. w.id) (objects_of d)) = omega (arith, l, within) in
    distinct_ids [] (map (λ w. w.id) (objects_of d)) j i (slice_index_or (map (λ w. w.id) (objects_of d)) j id) sound.right.1 l
    (slice_get-get_or (map (λ w. w.id) (objects_of d)) j id within)
    (slice_get-get_or (map (λ w. w.id) (objects_of d)) i id early ∙ ap (λ (x : List ℕ). Some x) same)))

-- ---- all of it

-- what is collected of a value is sound
pub sound_filed : (meta : MetaDesc) (d : Data) (f : Filed) → IsSound meta d → IsFiled (source_of meta d) f → All (IsTyped meta) f.values → IsSoundFiled meta f
sound_filed meta d f sound filed typed = record {
  typed = typed;
  classes = classes_concrete meta d sound f.classes filed.classes;
  same = long;
  identifiers = subst (All (λ id. is_identifier_text id ≡ true)) (sym filed.ids) (identifiers_proper meta d sound);
  distinct = subst (AllPairs (λ x y. x ≢ y)) (sym filed.ids) (identifiers_distinct meta d sound);
}
  where
    long : length f.classes ≡ length f.ids
    long =
        let a = length-map f.classes (λ (c : ClassId). Some c.0) in
        let b = ap (λ (cs : List (Option ℕ)). length cs) (filed.classes ∙ all_classes_are meta d sound) in
        let e = length-map (objects_of d) (λ w. Some (class_in meta w)) in
        let g = ap (λ (ids : List (List ℕ)). length ids) (filed.ids ∙ all_ids_are meta d sound) in
        let h = length-map (objects_of d) (λ w. w.id) in
        omega (arith, a, b, e, g, h)
