-- The class order by properties: what a class inherits are the properties of its superclasses, each once and at its first
-- place, and its own properties follow.
use Rattle.std.proofs.Common.{◌≡◌, ℕ, zero, suc, ◌+◌, ◌<◌, List, [], ◌∷◌, ◌++◌, Bool, true, false, cond, refl, sym, ◌∙◌, ap, subst, arith, length, get_or, map, inl, inr, eq-eqb}
use Rattle.std.specs.Prelude.{◌≤◌, nat_eq, Option, Some, None, IsSome, sum_by, take}
use Rattle.std.specs.List.{list_any, flat_map, range_with_len}
use Rattle.std.specs.Option.{unwrap_or}
use Rattle.std.proofs.lemmas.Bool.{eqb-true, cases_lt}
use Rattle.std.proofs.lemmas.List.{append-nil, append_assoc, get_or_past}
use Rattle.std.proofs.lemmas.List.Concat.{flat_map-cons}
use Rattle.std.proofs.lemmas.Grind.{flat_map-append}
use Rattle.std.proofs.lemmas.List.Sums.{sum_by-cons}
use Rattle.mof_metamodel.specs.declared.desc.MetaDesc.{MetaDesc}
use Rattle.mof_metamodel.specs.declared.desc.ClassDesc.{ClassDesc}
use Rattle.mof_metamodel.specs.Metamodels.{class_count, class_at, no_class, supers_of, with_item, united, all_united, lineage_within, reached_classes, lineage_of, first_own, own_props, props_of, united_lists, inherited_props}
use Rattle.mof_metamodel.specs.Tables.{IsGrounded}
use Rattle.mof_metamodel.proofs.LineageLemmas.{Has, Contains-from_Has, Has-append_cases, Has-append_right, Has-append_left, Has-one, or_cases, all_united-cases, lineage_parts, lineage_sound, lineage_more, acyclic_from_grounded}
use Rattle.std.proofs.lemmas.Bool.{or_right}
use Rattle.std.proofs.lemmas.Bool.{or_left}

-- ---- items of joint lists

pub united-append : (xs ys zs : List ℕ) → united xs (ys ++ zs) ≡ united (united xs ys) zs
united-append xs [] zs = refl
united-append xs (y ∷ ys) zs = united-append (with_item xs y) ys zs

with_present : (xs : List ℕ) (x : ℕ) → Has xs x → with_item xs x ≡ xs
with_present xs x h = ap (λ b. cond b xs (xs ++ x ∷ [])) h

with_absent : (xs : List ℕ) (x : ℕ) → list_any (nat_eq x) xs ≡ false → with_item xs x ≡ xs ++ x ∷ []
with_absent xs x h = ap (λ b. cond b xs (xs ++ x ∷ [])) h

-- items that are there add nothing
pub united-present : (xs ys : List ℕ) → ((q : ℕ) → Has ys q → Has xs q) → united xs ys ≡ xs
united-present xs [] there = refl
united-present xs (y ∷ ys) there =
    ap (λ zs. united zs ys) (with_present xs y (there y (or_left _ _ (eq-eqb y y refl))))
    ∙ united-present xs ys (λ q h. there q (or_right _ _ h))

absent : (xs : List ℕ) (q : ℕ) → (Has xs q → ⊥) → list_any (nat_eq q) xs ≡ false
absent xs q lacks = by (list_any (nat_eq q) xs) refl
  where
    by : (b : Bool) → list_any (nat_eq q) xs ≡ b → b ≡ false
    by true e = absurd (lacks e)
    by false e = refl

-- numbers in a row, none of them there, stand behind
united-fresh : (n a : ℕ) (xs : List ℕ) → ((q : ℕ) → a ≤ q → q < a + n → Has xs q → ⊥) → united xs (range_with_len a n) ≡ xs ++ range_with_len a n
united-fresh zero a xs fresh = sym (append-nil xs)
united-fresh (suc n) a xs fresh =
    ap (λ zs. united zs (range_with_len (a + 1) n)) (with_absent xs a (absent xs a (fresh a (omega arith) (omega arith))))
    ∙ united-fresh n (a + 1) (xs ++ a ∷ []) (λ q l u h. elim (Has-append_cases xs (a ∷ []) q h) [
      | inl e ↦ fresh q (omega (arith, l)) (omega (arith, u)) e
      | inr e ↦ (let same : q ≡ a = Has-one a q e in omega (arith, l))
    ])
    ∙ append_assoc xs (a ∷ []) (range_with_len (a + 1) n)

-- ---- the properties of several classes

-- the properties of a class stand before those of later ones
sum_before : (ds : List ClassDesc) (a b : ℕ) → a < b → a < length ds → sum_by (λ d. length d.props) (take a ds) + length (get_or ds a no_class).props ≤ sum_by (λ d. length d.props) (take b ds)
sum_before [] a b l w = absurd (omega (arith, w))
sum_before (d ∷ ds) a zero l w = absurd (omega (arith, l))
sum_before (d ∷ ds) zero (suc b) l w = let e = sum_by-cons (λ x. length x.props) d (take b ds) in omega (arith, e)
sum_before (d ∷ ds) (suc a) (suc b) l w =
    let first = sum_by-cons (λ x. length x.props) d (take a ds) in
    let second = sum_by-cons (λ x. length x.props) d (take b ds) in
    let rest = sum_before ds a b (omega (arith, l)) (omega (arith, w)) in
    omega (arith, first, second, rest)

pub range_bounds : (n a q : ℕ) → Has (range_with_len a n) q → (a ≤ q) × (q < a + n)
range_bounds zero a q h = absurd (cc)
range_bounds (suc n) a q h = elim (or_cases _ _ h) [
  | inl e ↦ (let same : q ≡ a = eqb-true q a e in (omega arith, omega arith))
  | inr k ↦ (let rest = range_bounds n (a + 1) q k in (omega (arith, rest.0), omega (arith, rest.1)))
]

pub range_has : (n a q : ℕ) → a ≤ q → q < a + n → Has (range_with_len a n) q
range_has zero a q l u = absurd (omega (arith, l, u))
range_has (suc n) a q l u = elim (cases_lt a q) [
  | inl k ↦ or_right _ _ (range_has n (a + 1) q (omega (arith, k)) (omega (arith, u)))
  | inr k ↦ or_left _ _ (eq-eqb q a (omega (arith, l, k)))
]

module _ (desc : MetaDesc) where
  -- no two classes own one property
  pub own_once : (a b q : ℕ) → Has (own_props desc a) q → Has (own_props desc b) q → a ≡ b
  own_once a b q h k =
      let x = range_bounds (length (class_at desc a).props) (first_own desc a) q h in
      let y = range_bounds (length (class_at desc b).props) (first_own desc b) q k in
      elim (cases_lt a b) [
        | inl l ↦ absurd (later a b q l x y)
        | inr m ↦ elim (cases_lt b a) [
          | inl l ↦ absurd (later b a q l y x)
          | inr l ↦ omega (arith, m, l)
        ]
      ]
    where
      later : (a b q : ℕ) → a < b → (first_own desc a ≤ q) × (q < first_own desc a + length (class_at desc a).props) → (first_own desc b ≤ q) × (q < first_own desc b + length (class_at desc b).props) → ⊥
      later a b q l x y = elim (cases_lt a (class_count desc)) [
        | inl w ↦ (let s = sum_before desc.classes a b l w in omega (arith, s, x.1, y.0))
        | inr past ↦ (let none : class_at desc a ≡ no_class = get_or_past desc.classes a no_class past in let e = ap (λ d. length d.props) none in omega (arith, e, x.0, x.1))
      ]

  -- a property of several classes is one's own
  pub flat_owner : (cs : List ℕ) (q : ℕ) → Has (flat_map (own_props desc) cs) q → (a : ℕ) × Has cs a × Has (own_props desc a) q
  flat_owner [] q h = absurd (cc)
  flat_owner (c ∷ cs) q h = elim (Has-append_cases (own_props desc c) (flat_map (own_props desc) cs) q (subst (λ xs. Has xs q) (flat_map-cons (own_props desc) c cs) h)) [
    | inl e ↦ (c, or_left _ _ (eq-eqb c c refl), e)
    | inr e ↦ (let rest = flat_owner cs q e in (rest.0, or_right _ _ rest.1, rest.2))
  ]

  pub flat_has : (cs : List ℕ) (a q : ℕ) → Has cs a → Has (own_props desc a) q → Has (flat_map (own_props desc) cs) q
  flat_has [] a q h k = absurd (cc)
  flat_has (c ∷ cs) a q h k = subst (λ xs. Has xs q) (sym (flat_map-cons (own_props desc) c cs)) (elim (or_cases _ _ h) [
    | inl e ↦ Has-append_left (own_props desc c) _ q (let P : ℕ → Type 0 = λ z. Has (own_props desc z) q in subst P (eqb-true a c e) k)
    | inr e ↦ Has-append_right (own_props desc c) _ q (flat_has cs a q e k)
  ])

  -- one more class brings its own properties
  flat_with_item : (cs : List ℕ) (c : ℕ) → flat_map (own_props desc) (with_item cs c) ≡ united (flat_map (own_props desc) cs) (own_props desc c)
  flat_with_item cs c = by (list_any (nat_eq c) cs) refl
    where
      by : (b : Bool) → list_any (nat_eq c) cs ≡ b → flat_map (own_props desc) (cond b cs (cs ++ c ∷ [])) ≡ united (flat_map (own_props desc) cs) (own_props desc c)
      by true e = sym (united-present (flat_map (own_props desc) cs) (own_props desc c) (λ q h. flat_has cs c q e h))
      by false e =
          flat_map-append (own_props desc) cs (c ∷ [])
          ∙ ap (λ xs. flat_map (own_props desc) cs ++ xs) (flat_map-cons (own_props desc) c [] ∙ append-nil (own_props desc c))
          ∙ sym (united-fresh (length (class_at desc c).props) (first_own desc c) (flat_map (own_props desc) cs) fresh)
        where
          fresh : (q : ℕ) → first_own desc c ≤ q → q < first_own desc c + length (class_at desc c).props → Has (flat_map (own_props desc) cs) q → ⊥
          fresh q l u h =
              let owner = flat_owner cs q h in
              let same : owner.0 ≡ c = own_once owner.0 c q owner.2 (range_has (length (class_at desc c).props) (first_own desc c) q l u) in
              let there : Has cs c = let P : ℕ → Type 0 = λ z. Has cs z in subst P same owner.1 in
              cc

  flat_united : (xs ys : List ℕ) → flat_map (own_props desc) (united xs ys) ≡ united (flat_map (own_props desc) xs) (flat_map (own_props desc) ys)
  flat_united xs [] = refl
  flat_united xs (y ∷ ys) =
      flat_united (with_item xs y) ys
      ∙ ap (λ zs. united zs (flat_map (own_props desc) ys)) (flat_with_item xs y)
      ∙ sym (united-append (flat_map (own_props desc) xs) (own_props desc y) (flat_map (own_props desc) ys))
      ∙ ap (united (flat_map (own_props desc) xs)) (sym (flat_map-cons (own_props desc) y ys))

  -- the properties of the superclasses' joint class order are their joint properties
  flat_all_united : (k : ℕ) → ((s : ℕ) (r : List ℕ) → lineage_within desc k s ≡ Some r → lineage_of desc s ≡ r) → (acc ss out : List ℕ)
      → all_united acc (map (lineage_within desc k) ss) ≡ Some out → flat_map (own_props desc) out ≡ united_lists (flat_map (own_props desc) acc) (map (props_of desc) ss)
  flat_all_united k same acc [] out = λ e. let there : out ≡ acc = cc in ap (flat_map (own_props desc)) there
  flat_all_united k same acc (s ∷ ss) out = by (lineage_within desc k s) refl (λ ys. flat_all_united k same (united acc ys) ss out)
    where
      by : (o : Option (List ℕ)) → lineage_within desc k s ≡ o
          → ((ys : List ℕ) → all_united (united acc ys) (map (lineage_within desc k) ss) ≡ Some out → flat_map (own_props desc) out ≡ united_lists (flat_map (own_props desc) (united acc ys)) (map (props_of desc) ss))
          → all_united acc (o ∷ map (lineage_within desc k) ss) ≡ Some out → flat_map (own_props desc) out ≡ united_lists (flat_map (own_props desc) acc) (map (props_of desc) (s ∷ ss))
      by None g rest e = absurd (cc)
      by (Some ys) g rest e =
          rest ys e
          ∙ ap (λ xs. united_lists xs (map (props_of desc) ss)) (flat_united acc ys ∙ ap (λ l. united (flat_map (own_props desc) acc) (flat_map (own_props desc) l)) (sym (same s ys g)))

  -- a class's properties are those that it inherits, and then its own
  pub class_order : IsGrounded desc → (c : ℕ) → c < class_count desc → props_of desc c ≡ inherited_props desc c ++ own_props desc c
  class_order grounded c l = at (class_count desc) refl
    where
      at : (n : ℕ) → class_count desc ≡ n → props_of desc c ≡ inherited_props desc c ++ own_props desc c
      at zero e = absurd (omega (arith, l, e))
      at (suc k) e = by (lineage_within desc (class_count desc) c) refl (grounded c l)
        where
          found : (s : ℕ) (r : List ℕ) → lineage_within desc k s ≡ Some r → lineage_of desc s ≡ r
          found s r h = ap (λ o. unwrap_or o (reached_classes desc s)) (ap (λ n. lineage_within desc n s) e ∙ lineage_more desc k s r h)

          by : (o : Option (List ℕ)) → lineage_within desc (class_count desc) c ≡ o → IsSome o → props_of desc c ≡ inherited_props desc c ++ own_props desc c
          by None g s = absurd (cc)
          by (Some r) g s =
              let p = lineage_parts desc k c r (sym (ap (λ n. lineage_within desc n c) e) ∙ g) in
              ap (λ o. flat_map (own_props desc) (unwrap_or o (reached_classes desc c))) g
              ∙ ap (flat_map (own_props desc)) (sym p.2 ∙ with_absent p.0 c (absent p.0 c (λ h. circle p.0 p.1 h)))
              ∙ flat_map-append (own_props desc) p.0 (c ∷ [])
              ∙ ap (λ xs. xs ++ flat_map (own_props desc) (c ∷ [])) (flat_all_united k found [] (supers_of desc c) p.0 p.1)
              ∙ ap (λ xs. inherited_props desc c ++ xs) (flat_map-cons (own_props desc) c [] ∙ append-nil (own_props desc c))
            where
              circle : (cs : List ℕ) → all_united [] (map (lineage_within desc k) (supers_of desc c)) ≡ Some cs → Has cs c → ⊥
              circle cs j h = elim (all_united-cases (lineage_within desc k) [] (supers_of desc c) cs c j h) [
                | inl none ↦ cc
                | inr m ↦ (let back = lineage_sound desc k m.0 c m.1 m.3 m.4 in
                    acyclic_from_grounded desc grounded c l (m.0, back.0, Contains-from_Has (supers_of desc c) m.0 m.2, back.1))
              ]
