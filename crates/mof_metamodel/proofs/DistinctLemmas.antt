-- Names that can be told apart: what it says that no name is found twice. Two facts on class orders are premises here: which classes
-- stand in them, and that none does so twice.
use Rattle.std.proofs.Common.{◌≡◌, ◌≢◌, ℕ, ◌+◌, ◌-◌, ◌<◌, ◌≤◌, suc, List, [], ◌∷◌, ◌++◌, true, false, length, get_or, map, refl, sym, ◌∙◌, ap, subst, arith, inl, inr}
use Rattle.std.specs.Prelude.{Some, None, Contains, AllPairs, is_some}
use Rattle.std.specs.List.{flat_map, range_with_len}
use Rattle.std.specs.Option.{unwrap_or}
use Rattle.std.proofs.lemmas.Bool.{cases_lt, false≢true}
use Rattle.std.proofs.lemmas.List.{get_or-map, length-map, length-append, get_or_default, get_or_append_left, get_or-append_right}
use Rattle.std.proofs.lemmas.List.FromFn.{length-range_with_len, get_or-range_with_len}
use Rattle.std.proofs.lemmas.List.Elements.{Contains-get_or}
use Rattle.mof_metamodel.specs.declared.desc.MetaDesc.{MetaDesc}
use Rattle.mof_metamodel.specs.Metamodels.{class_count, enum_count, class_at, enum_at, no_class, no_enum, class_number, enum_number, prop_at, owner_of, own_props, first_own, props_of, lineage_of, Conforms, is_primitive}
use Rattle.mof_metamodel.specs.WellMeta.{HasDistinctNames}
use Rattle.mof_metamodel.specs.MetaFaults.{is_new_class, is_new_enum, duplicate_in_class, duplicate_in_enum, first_duplicate}
use Rattle.mof_metamodel.proofs.PropLemmas.{from_flat_map, owner_listed, listed_has, prop_known, owner_of_own}
use Rattle.mof_metamodel.proofs.SearchLemmas.{Apart, not_false, none_parts, none_both, unless_none, unless_true, in_outer_none, none_in_outer, none_number, none_numbers, number_is, is_number_of, repeat_apart, apart_repeat, position_alone, none_position}
use Rattle.std.proofs.lemmas.Bool.{not-true}
use Rattle.std.proofs.lemmas.Bool.{and_from}
use Rattle.mof_metamodel.proofs.Facts.{second_true}
use Rattle.mof_metamodel.proofs.Facts.{first_true}

-- ---- lists without repeats

-- no number stands twice
abbrev pub IsOnce : List ℕ → Type 0
IsOnce xs = AllPairs (λ x y. x ≢ y) xs

pub once_nil : IsOnce []
once_nil i j d l lj = absurd (omega arith)

once_tail : (x : ℕ) (xs : List ℕ) → IsOnce (x ∷ xs) → IsOnce xs
once_tail x xs h i j d l lj = h (suc i) (suc j) d (omega arith) (omega arith)

once_head : (x : ℕ) (xs : List ℕ) → IsOnce (x ∷ xs) → Contains xs x → ⊥
once_head x xs h c = let (k, l, e) = c in h 0 (suc k) x (omega arith) (omega arith) (sym e)

pub once_append : (xs ys : List ℕ) → IsOnce xs → IsOnce ys → ((q : ℕ) → Contains xs q → Contains ys q → ⊥) → IsOnce (xs ++ ys)
once_append xs ys a b apart i j d l lj same =
    let all = length-append xs ys in
    elim (cases_lt i (length xs)) [
      | inl li ↦ (elim (cases_lt j (length xs)) [
        | inl left ↦ a i j d l left (sym (get_or_append_left xs ys d i li) ∙ same ∙ get_or_append_left xs ys d j left)
        | inr right ↦ (
            let k : ℕ = j - length xs in
            let lk : k < length ys = omega arith in
            let here : get_or xs i d ≡ get_or ys k d = sym (get_or_append_left xs ys d i li) ∙ same ∙ get_or-append_right xs ys (length xs) j d refl right in
            apart (get_or ys k d) (i, li, get_or_default xs i (get_or ys k d) d li ∙ here) (Contains-get_or ys k d lk))
      ])
      | inr past ↦ (
          let right : length xs ≤ j = omega arith in
          b (i - length xs) (j - length xs) d (omega arith) (omega arith) (sym (get_or-append_right xs ys (length xs) i d refl past) ∙ same ∙ get_or-append_right xs ys (length xs) j d refl right))
    ]

pub once_range : (a n : ℕ) → IsOnce (range_with_len a n)
once_range a n i j d l lj same =
    let count = length-range_with_len a n in
    let left : get_or (range_with_len a n) i d ≡ a + i = get_or-range_with_len a n i d (omega arith) in
    let right : get_or (range_with_len a n) j d ≡ a + j = get_or-range_with_len a n j d (omega arith) in
    omega (arith, left, right, same)

some_same : (a b : ℕ) → Some a ≡ Some b → a ≡ b
some_same a b h = ap (λ o. unwrap_or o 0) h

module _ (desc : MetaDesc) where
  -- the properties of classes, none of which stands twice
  pub props_once : (cs : List ℕ) → IsOnce cs → IsOnce (flat_map (own_props desc) cs)
  props_once [] h = once_nil
  props_once (c ∷ cs) h =
      once_append (own_props desc c) (flat_map (own_props desc) cs) (once_range (first_own desc c) (length (class_at desc c).props)) (props_once cs (once_tail c cs h))
      (λ q a b.
      let (d, listed, own) = from_flat_map (own_props desc) cs q b in
      once_head c cs h (subst (Contains cs) (sym (owner_of_own desc d q own) ∙ owner_of_own desc c q a) listed))

  -- ---- what it says that no name is found twice

  new_class : (c : ℕ) → is_new_class desc c ≡ true → (is_primitive (class_at desc c).name ≡ false) × (class_number desc (class_at desc c).name ≡ Some c)
  new_class c h = (not-true _ (first_true _ _ h), number_is _ c (second_true _ _ h))

  new_enum : (e : ℕ) → is_new_enum desc e ≡ true
      → (is_primitive (enum_at desc e).name ≡ false) × (is_some (class_number desc (enum_at desc e).name) ≡ false) × (enum_number desc (enum_at desc e).name ≡ Some e)
  new_enum e h = let two = first_true _ _ h in (not-true _ (first_true _ _ two), not-true _ (second_true _ _ two), number_is _ e (second_true _ _ h))

  -- two places of names that are apart, of one name, are one
  one_place : (names : List (List ℕ)) (i j : ℕ) → Apart names → i < length names → j < length names → get_or names i [] ≡ get_or names j [] → i ≡ j
  one_place names i j apart li lj same = elim (cases_lt i j) [
    | inl less ↦ absurd (apart i j less lj same)
    | inr le ↦ (elim (cases_lt j i) [
      | inl more ↦ absurd (apart j i more li (sym same))
      | inr ge ↦ omega arith
    ])
  ]

  -- the names of a class's properties
  abbrev names_in : ℕ → List (List ℕ)
  names_in c = map (λ p. (prop_at desc p).name) (props_of desc c)

  named_in : (c i d : ℕ) → i < length (props_of desc c) → get_or (names_in c) i [] ≡ (prop_at desc (get_or (props_of desc c) i d)).name
  named_in c i d l = get_or-map (λ p. (prop_at desc p).name) (props_of desc c) i d [] l

  count_in : (c : ℕ) → length (names_in c) ≡ length (props_of desc c)
  count_in c = length-map (props_of desc c) (λ p. (prop_at desc p).name)

  pub distinct_from : ((c d : ℕ) → c < class_count desc → Conforms desc c d → Contains (lineage_of desc c) d) → first_duplicate desc ≡ None → HasDistinctNames desc
  distinct_from complete h =
      let (cs, es) = none_parts _ _ h in
      let class = λ (c : ℕ) (l : c < class_count desc). none_parts _ _ (none_number (duplicate_in_class desc) (class_count desc) cs c l) in
      let enumeration = λ (e : ℕ) (l : e < enum_count desc). none_parts _ _ (none_number (duplicate_in_enum desc) (enum_count desc) es e l) in
      let of_class = λ (c : ℕ) (l : c < class_count desc). new_class c (unless_none _ _ (class c l).0) in
      let of_enum = λ (e : ℕ) (l : e < enum_count desc). new_enum e (unless_none _ _ (enumeration e l).0) in
      record {
        classes = λ c d lc ld same. some_same c d (sym (of_class c lc).1 ∙ ap (class_number desc) same ∙ (of_class d ld).1);
        enums = λ e f le lf same. some_same e f (sym (of_enum e le).2 ∙ ap (enum_number desc) same ∙ (of_enum f lf).2);
        types = λ c e lc le same. false≢true (sym (of_enum e le).1 ∙ ap (λ n. is_some (class_number desc n)) (sym same) ∙ ap is_some (of_class c lc).1);
        class_primitives = λ c l. (of_class c l).0;
        enum_primitives = λ e l. (of_enum e l).0;
        props = λ c p q lc lp lq hp hq same.
            let (i, li, ei) = listed_has desc c p lp (complete c (owner_of desc p) lc hp) in
            let (j, lj, ej) = listed_has desc c q lq (complete c (owner_of desc q) lc hq) in
            let count = count_in c in
            let here : get_or (names_in c) i [] ≡ get_or (names_in c) j [] =
            named_in c i p li ∙ ap (λ x. (prop_at desc x).name) ei ∙ same ∙ sym (named_in c j q lj ∙ ap (λ x. (prop_at desc x).name) ej) in
            let place : i ≡ j =
            one_place (names_in c) i j (repeat_apart [] (names_in c) (in_outer_none _ _ (class c lc).1)) (omega arith) (omega arith) here in
            sym ei ∙ get_or_default (props_of desc c) i p q li ∙ ap (λ k. get_or (props_of desc c) k q) place ∙ ej;
        literals = λ e i j le li lj same.
            one_place (enum_at desc e).literals i j (repeat_apart [] (enum_at desc e).literals (in_outer_none _ _ (enumeration e le).1)) li lj same;
      }

  -- ---- and the reverse

  none_met : (names : List (List ℕ)) (n : List ℕ) → Contains [] n → Contains names n → ⊥
  none_met names n a b = let (k, l, e) = a in omega arith

  no_class_named : (w : HasDistinctNames desc) (e : ℕ) → e < enum_count desc → is_some (class_number desc (enum_at desc e).name) ≡ false
  no_class_named w e l = ap is_some (none_position (λ c. c.name) desc.classes (enum_at desc e).name no_class (λ k lk same. w.types k e lk l (sym same)))

  apart_in : HasDistinctNames desc → (c : ℕ) → c < class_count desc → ((d : ℕ) → Contains (lineage_of desc c) d → Conforms desc c d) → IsOnce (lineage_of desc c) → Apart (names_in c)
  apart_in w c l sound once i j less lj same =
      let count = count_in c in
      let si : i < length (props_of desc c) = omega arith in
      let sj : j < length (props_of desc c) = omega arith in
      let p = get_or (props_of desc c) i 0 in
      let q = get_or (props_of desc c) j 0 in
      let hp : Contains (props_of desc c) p = Contains-get_or (props_of desc c) i 0 si in
      let hq : Contains (props_of desc c) q = Contains-get_or (props_of desc c) j 0 sj in
      props_once (lineage_of desc c) once i j 0 less sj
      (w.props c p q l (prop_known desc c p hp) (prop_known desc c q hq) (sound (owner_of desc p) (owner_listed desc c p hp)) (sound (owner_of desc q) (owner_listed desc c q hq))
      (sym (named_in c i 0 si) ∙ same ∙ named_in c j 0 sj))

  pub distinct_to : ((c d : ℕ) → c < class_count desc → Contains (lineage_of desc c) d → Conforms desc c d) → ((c : ℕ) → c < class_count desc → IsOnce (lineage_of desc c))
      → HasDistinctNames desc → first_duplicate desc ≡ None
  distinct_to sound once w =
      none_both _ _
      (none_numbers (duplicate_in_class desc) (class_count desc) (λ c l.
      none_both _ _
      (unless_true _ _ (and_from _ _ (not_false _ (w.class_primitives c l)) (is_number_of _ c (position_alone (λ x. x.name) desc.classes c no_class l (λ k lk same. w.classes k c lk l same)))))
      (none_in_outer _ _ (apart_repeat [] (names_in c) (none_met (names_in c)) (apart_in w c l (λ d. sound c d l) (once c l))))))
      (none_numbers (duplicate_in_enum desc) (enum_count desc) (λ e l.
      none_both _ _
      (unless_true _ _ (and_from _ _ (and_from _ _ (not_false _ (w.enum_primitives e l)) (not_false _ (no_class_named w e l)))
      (is_number_of _ e (position_alone (λ x. x.name) desc.enums e no_enum l (λ k lk same. w.enums k e lk l same)))))
      (none_in_outer _ _ (apart_repeat [] (enum_at desc e).literals (none_met (enum_at desc e).literals) (λ i j less lj same.
      let place = w.literals e i j l (omega arith) lj same in omega arith)))))
