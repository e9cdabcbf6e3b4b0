-- Steps from one object, slot or item of a value of JSON to the next.
use Rattle.std.proofs.Common.{◌≡◌, ◌≢◌, ℕ, suc, ◌+◌, ◌<◌, Bool, true, false, List, [], ◌∷◌, ◌++◌, map, drop, length, get_or, refl, sym, ap, ap₂, ◌∙◌, subst, append_assoc, arith, String, Global, Less, Equal, string_bytes, string_cmp, nat_cmp, encode_utf8_all, Option}
use Rattle.std.specs.Prelude.{◌==◌, chars, is_some, codes, Result, Ok, Err, OnOk}
use Rattle.std.proofs.lemmas.Bool.{true≢false}
use Rattle.std.specs.Cmp.Lexicographic.{slice_cmp}
use Rattle.std.specs.List.{list_any, AllByRecursion}
use Rattle.std.proofs.lemmas.List.{drop_more}
use Rattle.std.specs.List.Sorted.{IsStrictlySortedBy}
use Rattle.std.specs.Map.{keys_of}
use Rattle.std.proofs.lemmas.Cmp.{nat_list_cmp_total, tied_itself}
use Rattle.std.proofs.lemmas.Str.{encodes-chars, IsUtf8-string_bytes}
use Rattle.serde_json.specs.Data.{Data}
use Rattle.serde_json.specs.Find.{get}
use Rattle.serde_json.specs.View.{view, items_view, members_view}
use Rattle.serde_json.specs.declared.value.Value.{Value}
use Rattle.mof_metamodel.specs.declared.desc.MetaDesc.{MetaDesc}
use Rattle.mof_metamodel.specs.Characters.{same_name}
use Rattle.model_assembly.specs.declared.filed.Filed.{Filed}
use Rattle.model_assembly.specs.declared.filed.WrittenReference.{WrittenReference}
use Rattle.model_assembly.specs.Elements.{concrete_class}
use Rattle.model_files.specs.declared.json_filed.Slot.{Slot}
use Rattle.model_files.specs.JsonContent.{Written, written_of, text_of, slots_of, items_list, slots_list}
use Rattle.model_files.specs.JsonFiled.{with_references, with_named, with_object, with_objects, AreApart, HasApart, AreClassed, AreNew}
use Rattle.model_files.proofs.JsonFaultLaws.{class_is, id_is, slots_are}

-- ---- slots of an object have different names

abbrev Entry : Type 0
Entry = String Global × Value

same_bytes : (a b : String Global) → chars (string_bytes a) ≡ chars (string_bytes b) → string_bytes a ≡ string_bytes b
same_bytes a b e =
    sym (encodes-chars (string_bytes a) (IsUtf8-string_bytes a)) ∙ ap encode_utf8_all e ∙ encodes-chars (string_bytes b) (IsUtf8-string_bytes b)

less_equal : Less ≡ Equal → ⊥
less_equal e = cc

less_differs : (a b : String Global) → string_cmp a b ≡ Less → chars (string_bytes b) ≢ chars (string_bytes a)
less_differs a b less e =
    less_equal (sym less ∙ ap (slice_cmp nat_cmp (string_bytes a)) (same_bytes b a e) ∙ tied_itself nat_list_cmp_total (string_bytes a))

names_differ : (a : String Global) (es : List Entry) → AllByRecursion (λ b. string_cmp a b ≡ Less) (keys_of es)
    → AllByRecursion (λ other. other.0 ≢ chars (string_bytes a)) (slots_list (members_view es))
names_differ a [] h = tt
names_differ a (e ∷ es) h = (less_differs a e.0 h.0, names_differ a es h.1)

-- since the members of an object are in the order of their names
pub slots_apart : (es : List Entry) → IsStrictlySortedBy string_cmp (keys_of es) → AreApart (slots_list (members_view es))
unfolding IsStrictlySortedBy
slots_apart [] h = tt
slots_apart (e ∷ es) h = (names_differ e.0 es h.0, slots_apart es h.1)

-- ---- from one object of the list to the next

abbrev written_in : Value → Written
written_in v = written_of (view v)

abbrev class_text : Value → List ℕ
class_text v = text_of (get (codes "class") (view v))

abbrev slots_in : Value → List (List ℕ × List Data)
slots_in v = slots_of (get (codes "slots") (view v))

first_left : (values : List Value) (i : ℕ) (v : Value) → i < length values → v ≡ get_or values i v → drop i values ≡ v ∷ drop (i + 1) values
first_left values i v l r = drop_more values i v l ∙ ap (λ (x : Value). x ∷ drop (i + 1) values) (sym r)

pub objects_step : (meta : MetaDesc) (ids : List (List ℕ)) (i : ℕ) (values : List Value) (v : Value) (filed next all : Filed) → i < length values → v ≡ get_or values i v
    → with_objects meta ids i (map written_in (drop i values)) filed ≡ all → next ≡ with_object meta ids i (slots_in v) (concrete_class meta (class_text v)) filed
    → with_objects meta ids (i + 1) (map written_in (drop (i + 1) values)) next ≡ all
objects_step meta ids i values v filed next all l r e is =
    let one : suc i ≡ i + 1 = omega arith in
    ap (λ (f : Filed). with_objects meta ids (i + 1) (map written_in (drop (i + 1) values)) f)
    (is ∙ ap₂ (λ (slots : List (List ℕ × List Data)) (class : List ℕ). with_object meta ids i slots (concrete_class meta class) filed) (sym (slots_are (view v))) (sym (class_is (view v))))
    ∙ ap (λ (n : ℕ). with_objects meta ids n (map written_in (drop (i + 1) values)) (with_object meta ids i (written_in v).slots (concrete_class meta (written_in v).class) filed)) (sym one)
    ∙ ap (λ (vs : List Value). with_objects meta ids i (map written_in vs) filed) (sym (first_left values i v l r)) ∙ e

classed_left : (meta : MetaDesc) (values : List Value) (i : ℕ) (v : Value) → i < length values → v ≡ get_or values i v → AreClassed meta (map written_in (drop i values))
    → AreClassed meta (written_in v ∷ map written_in (drop (i + 1) values))
classed_left meta values i v l r h = subst (λ (vs : List Value). AreClassed meta (map written_in vs)) (first_left values i v l r) h

pub classed_first : (meta : MetaDesc) (values : List Value) (i : ℕ) (v : Value) → i < length values → v ≡ get_or values i v → AreClassed meta (map written_in (drop i values))
    → is_some (concrete_class meta (class_text v)) ≡ true
classed_first meta values i v l r h =
    ap (λ (class : List ℕ). is_some (concrete_class meta class)) (sym (class_is (view v))) ∙ (classed_left meta values i v l r h).0

pub classed_rest : (meta : MetaDesc) (values : List Value) (i : ℕ) (v : Value) → i < length values → v ≡ get_or values i v → AreClassed meta (map written_in (drop i values))
    → AreClassed meta (map written_in (drop (i + 1) values))
classed_rest meta values i v l r h = (classed_left meta values i v l r h).1

pub apart_rest : (values : List Value) (i : ℕ) (v : Value) → i < length values → v ≡ get_or values i v → (HasApart (map written_in (drop i values)) → HasApart (map written_in values))
    → AreApart (slots_in v) → HasApart (map written_in (drop (i + 1) values)) → HasApart (map written_in values)
apart_rest values i v l r all here h =
    all (subst (λ (vs : List Value). HasApart (map written_in vs)) (sym (first_left values i v l r)) (subst AreApart (sym (slots_are (view v))) here, h))

-- ---- from one identifier to the next

abbrev id_in : Value → List ℕ
id_in v = (written_of (view v)).id

new_left : (met : List (List ℕ)) (values : List Value) (i : ℕ) (v : Value) → i < length values → v ≡ get_or values i v → AreNew met (map id_in (drop i values))
    → AreNew met (id_in v ∷ map id_in (drop (i + 1) values))
new_left met values i v l r h = subst (λ (vs : List Value). AreNew met (map id_in vs)) (first_left values i v l r) h

pub new_first : (met : List (List ℕ)) (values : List Value) (i : ℕ) (v : Value) → i < length values → v ≡ get_or values i v → AreNew met (map id_in (drop i values))
    → list_any (same_name (id_in v)) met ≡ false
new_first met values i v l r h = (new_left met values i v l r h).0

pub new_rest : (met next : List (List ℕ)) (values : List Value) (i : ℕ) (v : Value) → i < length values → v ≡ get_or values i v → next ≡ met ++ id_in v ∷ []
    → AreNew met (map id_in (drop i values)) → AreNew next (map id_in (drop (i + 1) values))
new_rest met next values i v l r is h = subst (λ (ids : List (List ℕ)). AreNew ids (map id_in (drop (i + 1) values))) (sym is) (new_left met values i v l r h).1

pub ids_step : (met next all : List (List ℕ)) (values : List Value) (i : ℕ) (v : Value) → i < length values → v ≡ get_or values i v → next ≡ met ++ id_in v ∷ []
    → met ++ map id_in (drop i values) ≡ all → next ++ map id_in (drop (i + 1) values) ≡ all
ids_step met next all values i v l r is e =
    ap (λ (ids : List (List ℕ)). ids ++ map id_in (drop (i + 1) values)) is ∙ append_assoc met (id_in v ∷ []) (map id_in (drop (i + 1) values))
    ∙ ap (λ (vs : List Value). met ++ map id_in vs) (sym (first_left values i v l r)) ∙ e

-- ---- lists of the same items, otherwise read

pub ids_read : (values : List Value) → map (λ v. text_of (get (codes "id") (view v))) values ≡ map id_in values
ids_read [] = refl
ids_read (v ∷ vs) = ap₂ (λ (id : List ℕ) (ids : List (List ℕ)). id ∷ ids) (sym (id_is (view v))) (ids_read vs)

pub ids_mapped : (values : List Value) → map id_in values ≡ map (λ w. w.id) (map written_in values)
ids_mapped [] = refl
ids_mapped (v ∷ vs) = ap (λ (ids : List (List ℕ)). id_in v ∷ ids) (ids_mapped vs)

pub classes_mapped : (meta : MetaDesc) (values : List Value) → map (λ v. concrete_class meta (written_in v).class) values ≡ map (λ w. concrete_class meta w.class) (map written_in values)
classes_mapped meta [] = refl
classes_mapped meta (v ∷ vs) = ap (λ (cs : List (Option ℕ)). concrete_class meta (written_in v).class ∷ cs) (classes_mapped meta vs)

-- ---- a slot of a reference that names something

pub named_some : (ids : List (List ℕ)) (slot : Slot) (values : List Value) (filed : Filed) (references : List WrittenReference) → (values ≡ [] → ⊥)
    → references ≡ with_references ids slot (items_list (items_view values)) filed.references
    → record filed { references = references } ≡ with_named ids slot (items_list (items_view values)) filed
named_some ids slot [] filed references some e = absurd (some refl)
named_some ids slot (v ∷ vs) filed references some e = ap (λ (rs : List WrittenReference). record filed { references = rs }) e

pub on_ok : {T E : Type 0} (r : Result T E) (P Q : Type 0) → (P → Q) → OnOk r P → OnOk r Q
on_ok (Ok x) P Q f h = f h
on_ok (Err e) P Q f h = tt

pub some_values : (values : List Value) (b : Bool) → b ≡ (length values == 0) → b ≡ false → values ≡ [] → ⊥
some_values values b is e none =
    true≢false (sym (ap (λ (vs : List Value). length vs == 0) none) ∙ sym is ∙ e)
