-- The entries of an index as they are gathered are those of the model.
use Rattle.std.proofs.Common.{◌≡◌, ◌<◌, ◌≤◌, ◌+◌, ℕ, zero, suc, List, [], ◌∷◌, ◌++◌, length, get_or, append-nil, map, take, sym, ap, subst, ◌∙◌, arith, inl, inr, Option, None, Some}
use Rattle.std.specs.Prelude.{Contains, option_map}
use Rattle.std.specs.List.{flat_map, range_with_len}
use Rattle.std.proofs.lemmas.Bool.{cases_lt}
use Rattle.std.proofs.lemmas.List.{append_assoc, get_or_past, get_or-map, length-map, take_all, take_more}
use Rattle.std.proofs.lemmas.List.Concat.{flat_map-append}
use Rattle.std.proofs.lemmas.List.Elements.{Contains-append_left, Contains-append_right, Contains-append_cases}
use Rattle.std.proofs.lemmas.List.FromFn.{length-range_with_len, get_or-range_with_len}
use Rattle.mof_metamodel.specs.declared.desc.PropId.{PropId}
use Rattle.mof_metamodel.specs.Metamodels.{props_of}
use Rattle.mof_metamodel.specs.Tables.{prop_numbers}
use Rattle.mof_metamodel.proofs.Facts.{contains_first, contains_map, nothing_in}
use Rattle.object_tables.specs.declared.value.Value.{Value}
use Rattle.object_tables.specs.Objects.{Object}
use Rattle.object_tables.specs.Kept.{Kept}
use Rattle.object_tables.specs.Models.{ModelData, class_at, values_at, IsAttributeOf}
use Rattle.object_tables.proofs.ListLemmas.{Contains-cons, Contains-from_map}
use Rattle.object_tables.proofs.ValueLaws.{values_somewhere}
use Rattle.key_index.specs.declared.holder.Holder.{Holder}
use Rattle.key_index.specs.Entries.{entry, entries_at, props_in, entries_of, entries}
use Rattle.key_index.specs.Holders.{Holds, AreAllHolders}

-- ---- values stand at attributes alone

pub no_entries : (m : ModelData) → Kept m → (o p : ℕ) → (IsAttributeOf m o p → ⊥) → entries_at m o p ≡ []
no_entries m kept o p none = elim (values_somewhere m kept o p) [
  | inl e ↦ ap (map (entry o p)) e
  | inr a ↦ absurd (none a)
]

attribute_held : (m : ModelData) → Kept m → (o p : ℕ) (v : Value) → Holds m p v o → IsAttributeOf m o p
attribute_held m kept o p v held = elim (values_somewhere m kept o p) [
  | inl e ↦ absurd (nothing_in v (subst (λ vs. Contains vs v) e held))
  | inr a ↦ a
]

pub within_objects : (m : ModelData) (o c : ℕ) → class_at m o ≡ Some c → o < length m.objects
within_objects m o c e = elim (cases_lt o (length m.objects)) [
  | inl l ↦ l
  | inr le ↦ absurd (let is : None ≡ Some c = ap (λ (x : Option Object). option_map (λ (ob : Object). ob.class) x) (sym (get_or_past m.objects o None le)) ∙ e in cc)
]

-- ---- lists that are joined

module _ {X Y : Type 0} (f : X → List Y) where
  pub in_flat : (xs : List X) (x : X) (y : Y) → Contains xs x → Contains (f x) y → Contains (flat_map f xs) y
  in_flat [] x y c d = absurd (nothing_in x c)
  in_flat (z ∷ xs) x y (zero, within, is) d = Contains-append_left (f z) (flat_map f xs) y (subst (λ w. Contains (f w) y) (sym is) d)
  in_flat (z ∷ xs) x y (suc k, within, is) d = Contains-append_right (f z) (flat_map f xs) y (in_flat xs x y (k, omega (arith, within), is) d)

  pub from_flat : (xs : List X) (y : Y) → Contains (flat_map f xs) y → (x : X) × Contains xs x × Contains (f x) y
  from_flat [] y c = absurd (nothing_in y c)
  from_flat (x ∷ xs) y c = elim (Contains-append_cases (f x) (flat_map f xs) y c) [
    | inl d ↦ (x, contains_first x xs, d)
    | inr d ↦ (let found = from_flat xs y d in (found.0, Contains-cons x xs found.0 found.1, found.2))
  ]

  flat_one : (x : X) → flat_map f (x ∷ []) ≡ f x
  flat_one x = append-nil (f x)

  flat_last : (xs : List X) (x : X) → flat_map f (xs ++ x ∷ []) ≡ flat_map f xs ++ f x
  flat_last xs x = flat_map-append f xs (x ∷ []) ∙ ap (λ ys. flat_map f xs ++ ys) (flat_one x)

  -- one more element
  pub flat_more : (xs : List X) (i : ℕ) (d : X) → i < length xs → flat_map f (take (i + 1) xs) ≡ flat_map f (take i xs) ++ f (get_or xs i d)
  flat_more xs i d l = ap (flat_map f) (take_more xs i d l) ∙ flat_last (take i xs) (get_or xs i d)

range_more : (a n : ℕ) → range_with_len a (suc n) ≡ range_with_len a n ++ (a + n) ∷ []
range_more a zero = ap (λ k. k ∷ []) (let e : a ≡ a + 0 = omega arith in e)
range_more a (suc n) =
    ap (λ ks. a ∷ ks) (range_more (a + 1) n)
    ∙ ap (λ k. a ∷ range_with_len (a + 1) n ++ k ∷ []) (let e : a + 1 + n ≡ a + suc n = omega arith in e)

pub flat_range_more : {Y : Type 0} (f : ℕ → List Y) (n : ℕ) → flat_map f (range_with_len 0 (n + 1)) ≡ flat_map f (range_with_len 0 n) ++ f n
flat_range_more f n =
    ap (λ k. flat_map f (range_with_len 0 k)) (let e : n + 1 ≡ suc n = omega arith in e) ∙ ap (flat_map f) (range_more 0 n)
    ∙ flat_last f (range_with_len 0 n) (0 + n) ∙ ap (λ k. flat_map f (range_with_len 0 n) ++ f k) (let e : 0 + n ≡ n = omega arith in e)

module _ (m : ModelData) (o : ℕ) (old before : List Holder) where
  -- the entries so far of an object, with those at one more of its properties
  pub object_more : (after : List Holder) (ids : List PropId) → prop_numbers ids ≡ props_in m.meta (class_at m o) → (i : ℕ) → i < length ids
      → before ≡ old ++ flat_map (entries_at m o) (take i (props_in m.meta (class_at m o)))
      → after ≡ before ++ entries_at m o (get_or ids i (record { 0 = 0 })).0
      → after ≡ old ++ flat_map (entries_at m o) (take (i + 1) (props_in m.meta (class_at m o)))
  object_more after ids is i l so_far now =
      let f : ℕ → List Holder = entries_at m o in
      let props : List ℕ = props_in m.meta (class_at m o) in
      let number : PropId → ℕ = λ p. p.0 in
      let long : length ids ≡ length props = sym (length-map ids number) ∙ ap length is in
      let here : (get_or ids i (record { 0 = 0 })).0 ≡ get_or props i 0 =
      sym (get_or-map number ids i (record { 0 = 0 }) 0 l) ∙ ap (λ ps. get_or ps i 0) is in
      now ∙ ap (λ hs. hs ++ f (get_or ids i (record { 0 = 0 })).0) so_far ∙ ap (λ p. (old ++ flat_map f (take i props)) ++ f p) here
      ∙ append_assoc old (flat_map f (take i props)) (f (get_or props i 0))
      ∙ ap (λ hs. old ++ hs) (sym (flat_more f props i 0 (omega (arith, l, long))))

  pub object_done : (ids : List PropId) → prop_numbers ids ≡ props_in m.meta (class_at m o) → (i : ℕ) → length ids ≤ i
      → before ≡ old ++ flat_map (entries_at m o) (take i (props_in m.meta (class_at m o))) → before ≡ old ++ entries_of m o
  object_done ids is i l so_far =
      let props : List ℕ = props_in m.meta (class_at m o) in
      let number : PropId → ℕ = λ p. p.0 in
      let long : length ids ≡ length props = sym (length-map ids number) ∙ ap length is in
      so_far ∙ ap (λ ps. old ++ flat_map (entries_at m o) ps) (take_all i props (omega (arith, l, long)))

pub in_range : (n k : ℕ) → k < n → Contains (range_with_len 0 n) k
in_range n k l = (k, subst (λ j. k < j) (sym (length-range_with_len 0 n)) l, get_or-range_with_len 0 n k k l ∙ (let e : 0 + k ≡ k = omega arith in e))

-- ---- the entries are an index

pub indexed : (m : ModelData) → Kept m → AreAllHolders m (entries m)
indexed m kept = record { only = only; all = all }
  where
    of_class : (o c : ℕ) → class_at m o ≡ Some c → props_of m.meta c ≡ props_in m.meta (class_at m o)
    of_class o c e = ap (props_in m.meta) (sym e)

    only : (h : Holder) → Contains (entries m) h → Holds m h.prop.0 h.value h.object.0
    only h c =
        let by_object = from_flat (entries_of m) (range_with_len 0 (length m.objects)) h c in
        let o = by_object.0 in
        let by_prop = from_flat (entries_at m o) (props_in m.meta (class_at m o)) h by_object.2 in
        let p = by_prop.0 in
        let by_value = Contains-from_map (entry o p) (values_at m o p) h by_prop.2 in
        let holds : Holder → Type 0 = λ k. Holds m k.prop.0 k.value k.object.0 in
        subst holds by_value.2 by_value.1

    all : (o p : ℕ) (v : Value) → Holds m p v o → Contains (entries m) (entry o p v)
    all o p v held =
        let a = attribute_held m kept o p v held in
        let has : Contains (props_in m.meta (class_at m o)) p = subst (λ ps. Contains ps p) (of_class o a.class a.class_is) a.has in
        in_flat (entries_of m) (range_with_len 0 (length m.objects)) o (entry o p v) (in_range (length m.objects) o (within_objects m o a.class a.class_is))
        (in_flat (entries_at m o) (props_in m.meta (class_at m o)) p (entry o p v) has (contains_map (entry o p) (values_at m o p) v held))
