-- Where a property stands in a class order: behind the properties of the classes before its owner, at its place among the owner's.
use Rattle.std.proofs.Common.{◌≡◌, ◌≢◌, ℕ, zero, suc, ◌+◌, ◌-◌, ◌<◌, List, [], ◌∷◌, ◌++◌, Bool, true, false, cond, refl, sym, ◌∙◌, ap, subst, arith, length, get_or, map, inl, inr, eq-eqb}
use Rattle.std.specs.Prelude.{◌≤◌, nat_eq, nat_lt, not, Some, None, sum_by, take, Contains}
use Rattle.std.specs.List.{flat_map, range_with_len, position, position_or_len}
use Rattle.std.proofs.lemmas.Bool.{eqb-true, ne_eqb, cases_lt, cases_eq}
use Rattle.std.proofs.lemmas.Bool.Decides.{nat_tests}
use Rattle.std.proofs.lemmas.List.{append-nil, take_more, get_or_default, length-append, length-map, get_or-map, get_or_append_left, get_or-append_right}
use Rattle.std.proofs.lemmas.List.Concat.{flat_map-cons}
use Rattle.std.proofs.lemmas.Grind.{flat_map-append}
use Rattle.std.proofs.lemmas.List.Folds.{length-flat_map-take}
use Rattle.std.proofs.lemmas.List.FromFn.{length-range_with_len}
use Rattle.std.proofs.lemmas.List.Elements.{Contains-get_or}
use Rattle.std.proofs.lemmas.Map.Steps.{length-le_from_distinct_below}
use Rattle.std.proofs.lemmas.List.Sums.{sum_by-cons}
use Rattle.mof_metamodel.specs.declared.desc.MetaDesc.{MetaDesc}
use Rattle.mof_metamodel.specs.declared.desc.ClassDesc.{ClassDesc}
use Rattle.mof_metamodel.specs.declared.desc.PropDesc.{PropDesc}
use Rattle.mof_metamodel.specs.Metamodels.{class_at, no_class, no_prop, declared_from, owner_of, prop_count, first_own, own_props, props_of, lineage_of}
use Rattle.mof_metamodel.specs.Tables.{IsStart}
use Rattle.mof_metamodel.proofs.LineageLemmas.{Has, Has-from_Contains, Contains-from_Has, or_cases}
use Rattle.mof_metamodel.proofs.DistinctLemmas.{IsOnce}
use Rattle.mof_metamodel.proofs.OnceLemmas.{lineage_once, props_of_once}
use Rattle.mof_metamodel.proofs.PropLemmas.{prop_known}
use Rattle.mof_metamodel.proofs.WalkLemmas.{distinct_from_once}
use Rattle.std.proofs.lemmas.Bool.{or_right}
use Rattle.std.proofs.lemmas.Bool.{or_left}
use Rattle.mof_metamodel.proofs.OrderLemmas.{flat_all}
use Rattle.mof_metamodel.proofs.ClassOrderLemmas.{range_bounds, range_has, own_once, flat_owner, flat_has}

-- ---- the first place of a number in a list, or the list's length

abbrev place_of : List ℕ → ℕ → ℕ
place_of xs q = position_or_len (nat_eq q) xs

place_here : (x q : ℕ) (xs : List ℕ) → q ≡ x → place_of (x ∷ xs) q ≡ 0
place_here x q xs e = ap (λ b. cond (not b) (1 + place_of xs q) 0) (eq-eqb q x e)

place_later : (x q : ℕ) (xs : List ℕ) → q ≢ x → place_of (x ∷ xs) q ≡ 1 + place_of xs q
place_later x q xs e = ap (λ b. cond (not b) (1 + place_of xs q) 0) (ne_eqb q x e)

pub place_within : (xs : List ℕ) (q : ℕ) → Has xs q → place_of xs q < length xs
place_within [] q h = absurd (cc)
place_within (x ∷ xs) q h = elim (cases_eq q x) [
  | inl e ↦ (let here = place_here x q xs e in omega (arith, here))
  | inr e ↦ elim (or_cases _ _ h) [
    | inl f ↦ absurd (e (eqb-true q x f))
    | inr f ↦ (let later = place_later x q xs e in let rest = place_within xs q f in omega (arith, later, rest))
  ]
]

pub place_missing : (xs : List ℕ) (q : ℕ) → (Has xs q → ⊥) → place_of xs q ≡ length xs
place_missing [] q lacks = refl
place_missing (x ∷ xs) q lacks = elim (cases_eq q x) [
  | inl e ↦ absurd (lacks (or_left _ _ (eq-eqb q x e)))
  | inr e ↦ (let later = place_later x q xs e in let rest = place_missing xs q (λ h. lacks (or_right _ _ h)) in omega (arith, later, rest))
]

place_in_front : (xs ys : List ℕ) (q : ℕ) → Has xs q → place_of (xs ++ ys) q ≡ place_of xs q
place_in_front [] ys q h = absurd (cc)
place_in_front (x ∷ xs) ys q h = elim (cases_eq q x) [
  | inl e ↦ place_here x q (xs ++ ys) e ∙ sym (place_here x q xs e)
  | inr e ↦ elim (or_cases _ _ h) [
    | inl f ↦ absurd (e (eqb-true q x f))
    | inr f ↦ place_later x q (xs ++ ys) e ∙ ap (λ n. 1 + n) (place_in_front xs ys q f) ∙ sym (place_later x q xs e)
  ]
]

place_behind : (xs ys : List ℕ) (q : ℕ) → (Has xs q → ⊥) → place_of (xs ++ ys) q ≡ length xs + place_of ys q
place_behind [] ys q lacks = omega arith
place_behind (x ∷ xs) ys q lacks = elim (cases_eq q x) [
  | inl e ↦ absurd (lacks (or_left _ _ (eq-eqb q x e)))
  | inr e ↦ (let later = place_later x q (xs ++ ys) e in let rest = place_behind xs ys q (λ h. lacks (or_right _ _ h)) in omega (arith, later, rest))
]

place_in_range : (n a q : ℕ) → a ≤ q → q < a + n → place_of (range_with_len a n) q ≡ q - a
place_in_range zero a q l u = absurd (omega (arith, l, u))
place_in_range (suc n) a q l u = elim (cases_eq q a) [
  | inl e ↦ (let here = place_here a q (range_with_len (a + 1) n) e in omega (arith, here, e))
  | inr e ↦ elim (cases_lt a q) [
    | inl k ↦ (let later = place_later a q (range_with_len (a + 1) n) e in let rest = place_in_range n (a + 1) q (omega (arith, k)) (omega (arith, u)) in omega (arith, later, rest, k))
    | inr k ↦ absurd (e (omega (arith, l, k)))
  ]
]

is_found : (t : ℕ → Bool) (xs : List ℕ) → position_or_len t xs < length xs → position t xs ≡ Some (position_or_len t xs)
is_found t xs l = ap (λ b. cond b (Some (position_or_len t xs)) None) (let e : nat_lt (position_or_len t xs) (length xs) ≡ true = grind (arith, nat_tests) in e)

not_found : (t : ℕ → Bool) (xs : List ℕ) → position_or_len t xs ≡ length xs → position t xs ≡ None
not_found t xs l = ap (λ b. cond b (Some (position_or_len t xs)) None) (let e : nat_lt (position_or_len t xs) (length xs) ≡ false = grind (arith, nat_tests) in e)

-- ---- who owns a property

declared_owner : (k : ℕ) (ds : List ClassDesc) (p c : ℕ) → p < length (declared_from k ds) → c ≡ (get_or (declared_from k ds) p (0, no_prop)).0
    → (j : ℕ) × (c ≡ k + j) × (j < length ds) × (sum_by (λ d. length d.props) (take j ds) ≤ p) × (p < sum_by (λ d. length d.props) (take j ds) + length (get_or ds j no_class).props)
declared_owner k [] p c l e = absurd (omega (arith, l))
declared_owner k (d ∷ ds) p c l e =
    let own : PropDesc → ℕ × PropDesc = λ x. (k, x) in
    let front : length (map own d.props) ≡ length d.props = length-map d.props own in
    let whole : length (map own d.props ++ declared_from (k + 1) ds) ≡ length (map own d.props) + length (declared_from (k + 1) ds) = length-append (map own d.props) (declared_from (k + 1) ds) in
    elim (cases_lt p (length d.props)) [
      | inl here ↦
          (let at : get_or (map own d.props ++ declared_from (k + 1) ds) p (0, no_prop) ≡ get_or (map own d.props) p (0, no_prop) = get_or_append_left (map own d.props) (declared_from (k + 1) ds) (0, no_prop) p (omega (arith, front, here)) in
          let is : get_or (map own d.props) p (0, no_prop) ≡ own (get_or d.props p no_prop) = get_or-map own d.props p no_prop (0, no_prop) here in
          let same : c ≡ k = e ∙ ap (λ x. x.0) (at ∙ is) in
          (0, omega (arith, same), omega arith, omega arith, omega (arith, here)))
      | inr past ↦
          (let at : get_or (map own d.props ++ declared_from (k + 1) ds) p (0, no_prop) ≡ get_or (declared_from (k + 1) ds) (p - length d.props) (0, no_prop) =
          get_or-append_right (map own d.props) (declared_from (k + 1) ds) (length d.props) p (0, no_prop) front past in
          let rest = declared_owner (k + 1) ds (p - length d.props) c (omega (arith, whole, front, l, past)) (e ∙ ap (λ x. x.0) at) in
          let more = sum_by-cons (λ x. length x.props) d (take rest.0 ds) in
          (suc rest.0, omega (arith, rest.1), omega (arith, rest.2), omega (arith, more, rest.3, past), omega (arith, more, rest.4, past)))
    ]

module _ (desc : MetaDesc) where
  pub own_of_owner : (p : ℕ) → p < prop_count desc → Has (own_props desc (owner_of desc p)) p
  own_of_owner p l =
      let found = declared_owner 0 desc.classes p (owner_of desc p) l refl in
      let P : ℕ → Type 0 = λ c. Has (own_props desc c) p in
      subst P (sym (found.1 ∙ (let e : 0 + found.0 ≡ found.0 = omega arith in e))) (range_has (length (class_at desc found.0).props) (first_own desc found.0) p found.3 found.4)

  -- ---- in the properties of several classes

  abbrev flat : List ℕ → List ℕ
  flat cs = flat_map (own_props desc) cs

  own_length : (c : ℕ) → length (own_props desc c) ≡ length (class_at desc c).props
  own_length c = length-range_with_len (first_own desc c) (length (class_at desc c).props)

  module _ (p o : ℕ) (owns : Has (own_props desc o) p) where
    bounds : (first_own desc o ≤ p) × (p < first_own desc o + length (class_at desc o).props)
    bounds = range_bounds (length (class_at desc o).props) (first_own desc o) p owns

    pub place_in_classes : (cs : List ℕ) → Has cs o → place_of (flat cs) p ≡ length (flat (take (place_of cs o) cs)) + (p - first_own desc o)
    place_in_classes [] h = absurd (cc)
    place_in_classes (c ∷ cs) h = elim (cases_eq o c) [
      | inl e ↦
          (let there : Has (own_props desc c) p = let P : ℕ → Type 0 = λ z. Has (own_props desc z) p in subst P e owns in
          let within = range_bounds (length (class_at desc c).props) (first_own desc c) p there in
          ap (λ xs. place_of xs p) (flat_map-cons (own_props desc) c cs)
          ∙ place_in_front (own_props desc c) (flat cs) p there
          ∙ place_in_range (length (class_at desc c).props) (first_own desc c) p within.0 within.1
          ∙ ap (λ z. p - first_own desc z) (sym e)
          ∙ (let add : p - first_own desc o ≡ 0 + (p - first_own desc o) = omega arith in add)
          ∙ sym (ap (λ n. length (flat (take n (c ∷ cs))) + (p - first_own desc o)) (place_here c o cs e)))
      | inr e ↦ elim (or_cases _ _ h) [
        | inl f ↦ absurd (e (eqb-true o c f))
        | inr f ↦
            (let rest = place_in_classes cs f in
            let behind = place_behind (own_props desc c) (flat cs) p (λ k. e (own_once desc o c p owns k)) in
            let long : length (flat (c ∷ take (place_of cs o) cs)) ≡ length (own_props desc c) + length (flat (take (place_of cs o) cs)) =
            ap length (flat_map-cons (own_props desc) c (take (place_of cs o) cs)) ∙ length-append (own_props desc c) (flat (take (place_of cs o) cs)) in
            let at : length (flat (take (place_of (c ∷ cs) o) (c ∷ cs))) ≡ length (flat (c ∷ take (place_of cs o) cs)) = ap (λ n. length (flat (take n (c ∷ cs)))) (place_later c o cs e ∙ (let one : 1 + place_of cs o ≡ suc (place_of cs o) = omega arith in one)) in
            ap (λ xs. place_of xs p) (flat_map-cons (own_props desc) c cs) ∙ omega (arith, behind, rest, long, at))
      ]
    ]

    pub place_in_no_class : (cs : List ℕ) → (Has cs o → ⊥) → Has (flat cs) p → ⊥
    place_in_no_class cs lacks h =
        let owner = flat_owner desc cs p h in
        let same : owner.0 ≡ o = own_once desc owner.0 o p owner.2 owns in
        let P : ℕ → Type 0 = λ z. Has cs z in
        lacks (subst P same owner.1)

-- in a list without repeats a number stands at one place
place_once : (xs : List ℕ) (i : ℕ) → IsOnce xs → i < length xs → place_of xs (get_or xs i 0) ≡ i
place_once [] i once l = absurd (omega (arith, l))
place_once (x ∷ xs) zero once l = place_here x x xs refl
place_once (x ∷ xs) (suc i) once l =
    let later = place_later x (get_or xs i 0) xs (λ same. once 0 (suc i) 0 (omega arith) l (sym same)) in
    let rest = place_once xs i (λ j k d m n. once (suc j) (suc k) d (omega (arith, m)) (omega (arith, n))) (omega (arith, l)) in
    omega (arith, later, rest)

-- a class has no more properties than there are
pub props_few : (desc : MetaDesc) (c : ℕ) → length (props_of desc c) ≤ prop_count desc
props_few desc c = length-le_from_distinct_below (props_of desc c) (prop_count desc) (distinct_from_once (props_of desc c) (props_of_once desc c)) (λ q h. prop_known desc c q (Contains-from_Has (props_of desc c) q h))

-- where the properties of a class that stands in a class order are
pub record IsPlaced (desc : MetaDesc) (c p o start : ℕ) : Type 0 where
  pub own : first_own desc o ≤ p
  pub within : start + (p - first_own desc o) < prop_count desc
  pub place : position (nat_eq p) (props_of desc c) ≡ Some (start + (p - first_own desc o))

pub placed : (desc : MetaDesc) (c p o start : ℕ) → p < prop_count desc → o ≡ owner_of desc p → IsStart desc c o start → IsPlaced desc c p o start
placed desc c p o start l e is =
    let cs : List ℕ = lineage_of desc c in
    let P : ℕ → Type 0 = λ z. Has (own_props desc z) p in
    let owns : Has (own_props desc o) p = subst P (sym e) (own_of_owner desc p l) in
    let Q : ℕ → Type 0 = λ z. Has cs z in
    let h : Has cs o = subst Q is.at (Has-from_Contains cs (get_or cs is.index 0) (Contains-get_or cs is.index 0 is.within)) in
    let same : place_of cs o ≡ is.index = ap (place_of cs) (sym is.at) ∙ place_once cs is.index (lineage_once desc c) is.within in
    let front : length (flat desc (take (place_of cs o) cs)) ≡ start = ap (λ n. length (flat desc (take n cs))) same ∙ sym is.start_is in
    let whole = place_in_classes desc p o owns cs h in
    let end = place_within (flat desc cs) p (flat_has desc cs o p h owns) in
    record {
      own = (bounds desc p o owns).0;
      within = omega (arith, whole, end, front, props_few desc c);
      place = is_found (nat_eq p) (flat desc cs) end ∙ ap Some (whole ∙ ap (λ n. n + (p - first_own desc o)) front);
    }

pub unplaced : (desc : MetaDesc) (c p o : ℕ) → p < prop_count desc → o ≡ owner_of desc p → (Contains (lineage_of desc c) o → ⊥) → position (nat_eq p) (props_of desc c) ≡ None
unplaced desc c p o l e lacks =
    let P : ℕ → Type 0 = λ z. Has (own_props desc z) p in
    let owns : Has (own_props desc o) p = subst P (sym e) (own_of_owner desc p l) in
    not_found (nat_eq p) (props_of desc c)
    (place_missing (props_of desc c) p (place_in_no_class desc p o owns (lineage_of desc c) (λ h. lacks (Contains-from_Has (lineage_of desc c) o h))))

-- one more class of a class order
pub starts_more : (desc : MetaDesc) (cs : List ℕ) (i : ℕ) → i < length cs → length (flat desc (take (i + 1) cs)) ≡ length (flat desc (take i cs)) + length (class_at desc (get_or cs i 0)).props
starts_more desc cs i l =
    ap (λ xs. length (flat desc xs)) (take_more cs i 0 l)
    ∙ ap length (flat_map-append (own_props desc) (take i cs) (get_or cs i 0 ∷ []))
    ∙ length-append (flat desc (take i cs)) (flat desc (get_or cs i 0 ∷ []))
    ∙ ap (λ n. length (flat desc (take i cs)) + n) (ap length (flat_map-cons (own_props desc) (get_or cs i 0) [] ∙ append-nil (own_props desc (get_or cs i 0))) ∙ own_length desc (get_or cs i 0))

pub starts_within : (desc : MetaDesc) (cs : List ℕ) (i : ℕ) → i < length cs → length (flat desc (take i cs)) + length (class_at desc (get_or cs i 0)).props ≤ length (flat desc cs)
starts_within desc cs i l = let e = own_length desc (get_or cs i 0) in let w = length-flat_map-take (own_props desc) cs i 0 l in omega (arith, e, w)

-- a number past the properties stands in no class order
pub past_none : (desc : MetaDesc) (p c : ℕ) → prop_count desc ≤ p → position (nat_eq p) (props_of desc c) ≡ None
past_none desc p c past = not_found (nat_eq p) (props_of desc c) (place_missing (props_of desc c) p (λ h.
    let there = Contains-from_Has (props_of desc c) p h in
    let within = flat_all desc (lineage_of desc c) there.0 0 there.1 in
    let same : get_or (props_of desc c) there.0 p ≡ p = there.2 in
    let default = get_or_default (props_of desc c) there.0 0 p there.1 in
    omega (arith, past, within, same, default)))
