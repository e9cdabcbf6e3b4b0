-- Who stands in a class order: exactly the classes that the class conforms to. And every class has one where none reaches itself.
use Rattle.std.proofs.Common.{◌≡◌, ℕ, zero, suc, ◌+◌, ◌<◌, List, [], ◌∷◌, ◌++◌, Bool, true, false, cond, ◌||◌, refl, sym, ◌∙◌, ap, subst, arith, length, get_or, map, inl, inr, ◌⊎◌, eqb, eq-eqb}
use Rattle.std.specs.Prelude.{nat_eq, Option, Some, None, IsSome, Contains}
use Rattle.std.specs.List.{list_any, IsDistinct, AllByRecursion, slice_index_or, filter_map, cons_option}
use Rattle.std.proofs.lemmas.List.Quantifiers.{position-Some}
use Rattle.std.specs.Option.{option_map, unwrap_or}
use Rattle.std.specs.Prelude.{All}
use Rattle.std.proofs.lemmas.List.{get_or-map, length-map}
use Rattle.std.proofs.lemmas.List.Elements.{Contains-get_or}
use Rattle.mof_metamodel.specs.declared.desc.ClassId.{ClassId}
use Rattle.std.proofs.lemmas.Bool.{eqb-true, ne_eqb, or_left, or_right}
use Rattle.std.proofs.lemmas.List.Folds.{list_any-append, list_any_at, Any-from_list_any}
use Rattle.std.proofs.lemmas.Map.Steps.{length-le_from_distinct_below}
use Rattle.mof_metamodel.specs.declared.desc.MetaDesc.{MetaDesc}
use Rattle.mof_metamodel.specs.Metamodels.{class_count, class_number, supers_of, IsPath, Conforms, IsCircular, with_item, united, all_united, lineage_within, reached_classes, lineage_of, class_at, no_class}
use Rattle.mof_metamodel.specs.MetaFaults.{IsAcyclic}
use Rattle.mof_metamodel.specs.Tables.{IsGrounded, class_numbers, IsClassOf}

-- the list has the number, as a test says
abbrev pub Has : List ℕ → ℕ → Type 0
Has xs q = list_any (nat_eq q) xs ≡ true

pub Has-from_Contains : (xs : List ℕ) (q : ℕ) → Contains xs q → Has xs q
Has-from_Contains xs q h = list_any_at (nat_eq q) xs h.0 q h.1 (eq-eqb q _ (sym h.2))

pub Contains-from_Has : (xs : List ℕ) (q : ℕ) → Has xs q → Contains xs q
Contains-from_Has xs q h =
    let a = Any-from_list_any (nat_eq q) xs h in
    let same : q ≡ a.1 = eqb-true q a.1 a.4 in
    (a.0, a.2, ap (λ d. slice_index_or xs a.0 d) same ∙ a.3 ∙ sym same)

pub or_cases : (a b : Bool) → (a || b) ≡ true → (a ≡ true) ⊎ (b ≡ true)
or_cases true b h = inl refl
or_cases false b h = inr h

pub Has-append_left : (xs ys : List ℕ) (q : ℕ) → Has xs q → Has (xs ++ ys) q
Has-append_left xs ys q h = list_any-append (nat_eq q) xs ys ∙ or_left _ _ h

pub Has-append_right : (xs ys : List ℕ) (q : ℕ) → Has ys q → Has (xs ++ ys) q
Has-append_right xs ys q h = list_any-append (nat_eq q) xs ys ∙ or_right _ _ h

pub Has-append_cases : (xs ys : List ℕ) (q : ℕ) → Has (xs ++ ys) q → Has xs q ⊎ Has ys q
Has-append_cases xs ys q h = or_cases _ _ (sym (list_any-append (nat_eq q) xs ys) ∙ h)

pub Has-one : (x q : ℕ) → Has (x ∷ []) q → q ≡ x
Has-one x q h = elim (or_cases _ _ h) [ inl e ↦ eqb-true q x e | inr e ↦ cc ]

-- ---- one more item

pub with_item-keeps : (xs : List ℕ) (x q : ℕ) → Has xs q → Has (with_item xs x) q
with_item-keeps xs x q h = by (list_any (nat_eq x) xs)
  where
    by : (b : Bool) → Has (cond b xs (xs ++ x ∷ [])) q
    by true = h
    by false = Has-append_left xs (x ∷ []) q h

pub with_item-has : (xs : List ℕ) (x : ℕ) → Has (with_item xs x) x
with_item-has xs x = by (list_any (nat_eq x) xs) refl
  where
    by : (b : Bool) → list_any (nat_eq x) xs ≡ b → Has (cond b xs (xs ++ x ∷ [])) x
    by true e = e
    by false e = Has-append_right xs (x ∷ []) x (or_left _ _ (eq-eqb x x refl))

pub with_item-cases : (xs : List ℕ) (x q : ℕ) → Has (with_item xs x) q → Has xs q ⊎ (q ≡ x)
with_item-cases xs x q = by (list_any (nat_eq x) xs)
  where
    by : (b : Bool) → Has (cond b xs (xs ++ x ∷ [])) q → Has xs q ⊎ (q ≡ x)
    by true h = inl h
    by false h = elim (Has-append_cases xs (x ∷ []) q h) [ inl e ↦ inl e | inr e ↦ inr (Has-one x q e) ]

-- ---- the items of two lists

pub united-keeps : (xs ys : List ℕ) (q : ℕ) → Has xs q → Has (united xs ys) q
united-keeps xs [] q h = h
united-keeps xs (y ∷ ys) q h = united-keeps (with_item xs y) ys q (with_item-keeps xs y q h)

pub united-right : (xs ys : List ℕ) (q : ℕ) → Has ys q → Has (united xs ys) q
united-right xs [] q h = cc
united-right xs (y ∷ ys) q h = elim (or_cases _ _ h) [
  | inl e ↦ united-keeps (with_item xs y) ys q (let P : ℕ → Type 0 = λ z. Has (with_item xs y) z in subst P (sym (eqb-true q y e)) (with_item-has xs y))
  | inr e ↦ united-right (with_item xs y) ys q e
]

pub united-cases : (xs ys : List ℕ) (q : ℕ) → Has (united xs ys) q → Has xs q ⊎ Has ys q
united-cases xs [] q h = inl h
united-cases xs (y ∷ ys) q h = elim (united-cases (with_item xs y) ys q h) [
  | inl e ↦ elim (with_item-cases xs y q e) [ inl f ↦ inl f | inr f ↦ inr (or_left _ _ (eq-eqb q y f)) ]
  | inr e ↦ inr (or_right _ _ e)
]

-- ---- the items of several lists

module _ (f : ℕ → Option (List ℕ)) where
  pub all_united-keeps : (acc : List ℕ) (ss : List ℕ) (out : List ℕ) (q : ℕ) → all_united acc (map f ss) ≡ Some out → Has acc q → Has out q
  all_united-keeps acc [] out q = λ e h. let same : acc ≡ out = cc in subst (λ xs. Has xs q) same h
  all_united-keeps acc (s ∷ ss) out q = by (f s) (λ ys. all_united-keeps (united acc ys) ss out q)
    where
      by : (r : Option (List ℕ)) → ((ys : List ℕ) → all_united (united acc ys) (map f ss) ≡ Some out → Has (united acc ys) q → Has out q)
          → all_united acc (r ∷ map f ss) ≡ Some out → Has acc q → Has out q
      by None rest e h = absurd (cc)
      by (Some ys) rest e h = rest ys e (united-keeps acc ys q h)

  -- each list is there
  pub all_united-there : (acc : List ℕ) (ss : List ℕ) (out : List ℕ) (s : ℕ) → all_united acc (map f ss) ≡ Some out → Has ss s → (r : List ℕ) × (f s ≡ Some r)
  all_united-there acc [] out s = λ e h. absurd (cc)
  all_united-there acc (t ∷ ss) out s = by (f t) refl (λ ys. all_united-there (united acc ys) ss out s)
    where
      by : (o : Option (List ℕ)) → f t ≡ o → ((ys : List ℕ) → all_united (united acc ys) (map f ss) ≡ Some out → Has ss s → (r : List ℕ) × (f s ≡ Some r))
          → all_united acc (o ∷ map f ss) ≡ Some out → Has (t ∷ ss) s → (r : List ℕ) × (f s ≡ Some r)
      by None g rest e h = absurd (cc)
      by (Some ys) g rest e h = elim (or_cases _ _ h) [
        | inl k ↦ (ys, ap f (eqb-true s t k) ∙ g)
        | inr k ↦ rest ys e k
      ]

  -- and its items are among the items
  pub all_united-each : (acc : List ℕ) (ss : List ℕ) (out : List ℕ) (s q : ℕ) (r : List ℕ) → all_united acc (map f ss) ≡ Some out → Has ss s → f s ≡ Some r → Has r q → Has out q
  all_united-each acc [] out s q r = λ e h g m. absurd (cc)
  all_united-each acc (t ∷ ss) out s q r = by (f t) refl (λ ys. all_united-each (united acc ys) ss out s q r)
    where
      by : (o : Option (List ℕ)) → f t ≡ o → ((ys : List ℕ) → all_united (united acc ys) (map f ss) ≡ Some out → Has ss s → f s ≡ Some r → Has r q → Has out q)
          → all_united acc (o ∷ map f ss) ≡ Some out → Has (t ∷ ss) s → f s ≡ Some r → Has r q → Has out q
      by None k rest e h g m = absurd (cc)
      by (Some ys) k rest e h g m = elim (or_cases _ _ h) [
        | inl l ↦ all_united-keeps (united acc ys) ss out q e (united-right acc ys q (let same : r ≡ ys = let fs : f s ≡ f t = ap f (eqb-true s t l) in cc in subst (λ xs. Has xs q) same m))
        | inr l ↦ rest ys e l g m
      ]

  pub all_united-cases : (acc : List ℕ) (ss : List ℕ) (out : List ℕ) (q : ℕ) → all_united acc (map f ss) ≡ Some out → Has out q → Has acc q ⊎ ((s : ℕ) × (r : List ℕ) × Has ss s × (f s ≡ Some r) × Has r q)
  all_united-cases acc [] out q = λ e h. inl (let same : out ≡ acc = cc in subst (λ xs. Has xs q) same h)
  all_united-cases acc (t ∷ ss) out q = by (f t) refl (λ ys. all_united-cases (united acc ys) ss out q)
    where
      by : (o : Option (List ℕ)) → f t ≡ o
          → ((ys : List ℕ) → all_united (united acc ys) (map f ss) ≡ Some out → Has out q → Has (united acc ys) q ⊎ ((s : ℕ) × (r : List ℕ) × Has ss s × (f s ≡ Some r) × Has r q))
          → all_united acc (o ∷ map f ss) ≡ Some out → Has out q → Has acc q ⊎ ((s : ℕ) × (r : List ℕ) × Has (t ∷ ss) s × (f s ≡ Some r) × Has r q)
      by None k rest e h = absurd (cc)
      by (Some ys) k rest e h = elim (rest ys e h) [
        | inl l ↦ elim (united-cases acc ys q l) [ inl m ↦ inl m | inr m ↦ inr (t, ys, or_left _ _ (eq-eqb t t refl), k, m) ]
        | inr l ↦ inr (l.0, l.1, or_right _ _ l.2, l.3, l.4)
      ]

  -- where they have no joint list, one of them is missing
  pub all_united-missing : (acc : List ℕ) (ss : List ℕ) → all_united acc (map f ss) ≡ None → (s : ℕ) × Has ss s × (f s ≡ None)
  all_united-missing acc [] = λ e. absurd (cc)
  all_united-missing acc (t ∷ ss) = by (f t) refl (λ ys. all_united-missing (united acc ys) ss)
    where
      by : (o : Option (List ℕ)) → f t ≡ o → ((ys : List ℕ) → all_united (united acc ys) (map f ss) ≡ None → (s : ℕ) × Has ss s × (f s ≡ None))
          → all_united acc (o ∷ map f ss) ≡ None → (s : ℕ) × Has (t ∷ ss) s × (f s ≡ None)
      by None k rest e = (t, or_left _ _ (eq-eqb t t refl), k)
      by (Some ys) k rest e = let m = rest ys e in (m.0, or_right _ _ m.1, m.2)

  -- and where one of them is missing, there is no joint list
  pub all_united-none : (acc ss : List ℕ) (s : ℕ) → Has ss s → f s ≡ None → all_united acc (map f ss) ≡ None
  all_united-none acc [] s h none = absurd (cc)
  all_united-none acc (t ∷ ss) s h none = by (f t) refl (λ ys k. all_united-none (united acc ys) ss s k none)
    where
      by : (o : Option (List ℕ)) → f t ≡ o → ((ys : List ℕ) → Has ss s → all_united (united acc ys) (map f ss) ≡ None) → all_united acc (o ∷ map f ss) ≡ None
      by None e rest = refl
      by (Some ys) e rest = elim (or_cases _ _ h) [
        | inl same ↦ absurd (let is : f s ≡ f t = ap f (eqb-true s t same) in cc)
        | inr k ↦ rest ys k
      ]

-- more lists that are there, and the same of those that were
pub all_united-agree : (f g : ℕ → Option (List ℕ)) → ((s : ℕ) (r : List ℕ) → f s ≡ Some r → g s ≡ Some r) → (acc ss out : List ℕ) → all_united acc (map f ss) ≡ Some out → all_united acc (map g ss) ≡ Some out
all_united-agree f g more acc [] out = λ e. e
all_united-agree f g more acc (s ∷ ss) out = by (f s) refl (λ ys. all_united-agree f g more (united acc ys) ss out)
  where
    by : (o : Option (List ℕ)) → f s ≡ o → ((ys : List ℕ) → all_united (united acc ys) (map f ss) ≡ Some out → all_united (united acc ys) (map g ss) ≡ Some out)
        → all_united acc (o ∷ map f ss) ≡ Some out → all_united acc (g s ∷ map g ss) ≡ Some out
    by None k rest e = absurd (cc)
    by (Some ys) k rest e = ap (λ o. all_united acc (o ∷ map g ss)) (more s ys k) ∙ rest ys e

-- ---- class orders

-- the superclasses' joint order, where there is one
module _ (desc : MetaDesc) where
  pub lineage_parts : (n c : ℕ) (r : List ℕ) → lineage_within desc (suc n) c ≡ Some r → (cs : List ℕ) × (all_united [] (map (lineage_within desc n) (supers_of desc c)) ≡ Some cs) × (with_item cs c ≡ r)
  lineage_parts n c r = by (all_united [] (map (lineage_within desc n) (supers_of desc c))) refl
    where
      by : (o : Option (List ℕ)) → all_united [] (map (lineage_within desc n) (supers_of desc c)) ≡ o → option_map (λ cs. with_item cs c) o ≡ Some r
          → (cs : List ℕ) × (all_united [] (map (lineage_within desc n) (supers_of desc c)) ≡ Some cs) × (with_item cs c ≡ r)
      by None k e = absurd (cc)
      by (Some cs) k e = (cs, k, cc)

  -- each class of the order is one that the class conforms to
  pub lineage_sound : (n c q : ℕ) (r : List ℕ) → lineage_within desc n c ≡ Some r → Has r q → Conforms desc c q
  lineage_sound zero c q r e h = absurd (cc)
  lineage_sound (suc n) c q r e h =
      let p = lineage_parts n c r e in
      elim (with_item-cases p.0 c q (subst (λ xs. Has xs q) (sym p.2) h)) [
        | inr same ↦ ([], sym same)
        | inl inside ↦ elim (all_united-cases (lineage_within desc n) [] (supers_of desc c) p.0 q p.1 inside) [
          | inl none ↦ absurd (cc)
          | inr m ↦ let rest = lineage_sound n m.0 q m.1 m.3 m.4 in (m.0 ∷ rest.0, (Contains-from_Has (supers_of desc c) m.0 m.2, rest.1))
        ]
      ]

  -- and each class that it conforms to is in the order
  pub lineage_complete : (n c q : ℕ) (r path : List ℕ) → lineage_within desc n c ≡ Some r → IsPath desc c path q → Has r q
  lineage_complete zero c q r path e h = absurd (cc)
  lineage_complete (suc n) c q r [] e h =
      let p = lineage_parts n c r e in
      let there : Has (with_item p.0 c) q = let P : ℕ → Type 0 = λ z. Has (with_item p.0 c) z in subst P h (with_item-has p.0 c) in
      subst (λ xs. Has xs q) p.2 there
  lineage_complete (suc n) c q r (s ∷ path) e h =
      let p = lineage_parts n c r e in
      let super : Has (supers_of desc c) s = Has-from_Contains (supers_of desc c) s h.0 in
      let order = all_united-there (lineage_within desc n) [] (supers_of desc c) p.0 s p.1 super in
      let below : Has order.0 q = lineage_complete n s q order.0 path order.1 h.1 in
      let inside : Has p.0 q = all_united-each (lineage_within desc n) [] (supers_of desc c) p.0 s q order.0 p.1 super order.1 below in
      subst (λ xs. Has xs q) p.2 (with_item-keeps p.0 c q inside)

  -- an order that is there within n steps is there within more
  pub lineage_more : (n c : ℕ) (r : List ℕ) → lineage_within desc n c ≡ Some r → lineage_within desc (suc n) c ≡ Some r
  lineage_more zero c r e = absurd (cc)
  lineage_more (suc n) c r e =
      let p = lineage_parts n c r e in
      let above : all_united [] (map (lineage_within desc (suc n)) (supers_of desc c)) ≡ Some p.0 =
      all_united-agree (lineage_within desc n) (lineage_within desc (suc n)) (lineage_more n) [] (supers_of desc c) p.0 p.1 in
      ap (option_map (λ cs. with_item cs c)) above ∙ ap Some p.2

  -- the same of several steps more
  pub lineage_upto : (j n c : ℕ) (r : List ℕ) → lineage_within desc n c ≡ Some r → lineage_within desc (j + n) c ≡ Some r
  lineage_upto zero n c r e = ap (λ m. lineage_within desc m c) (omega arith) ∙ e
  lineage_upto (suc j) n c r e = ap (λ m. lineage_within desc m c) (let m : suc j + n ≡ suc (j + n) = omega arith in m) ∙ lineage_more (j + n) c r (lineage_upto j n c r e)

  -- ---- circles

  pub path_snoc : (a b c : ℕ) (path : List ℕ) → IsPath desc a path b → Contains (supers_of desc b) c → IsPath desc a (path ++ c ∷ []) c
  path_snoc a b c [] h s = (let P : ℕ → Type 0 = λ z. Contains (supers_of desc z) c in subst P (sym h) s, refl)
  path_snoc a b c (e ∷ path) h s = (h.0, path_snoc e b c path h.1 s)

  -- a class with an order reaches itself by no superclasses
  pub acyclic_at : (n c : ℕ) (r : List ℕ) → lineage_within desc n c ≡ Some r → IsCircular desc c → ⊥
  acyclic_at zero c r e h = cc
  acyclic_at (suc n) c r e h =
      let p = lineage_parts n c r e in
      let order = all_united-there (lineage_within desc n) [] (supers_of desc c) p.0 h.0 p.1 (Has-from_Contains (supers_of desc c) h.0 h.2) in
      acyclic_at n h.0 order.0 order.1 (turned h.0 h.2 h.1 h.3)
    where
      turned : (e : ℕ) → Contains (supers_of desc c) e → (path : List ℕ) → IsPath desc e path c → IsCircular desc e
      turned e s [] h = (e, [], (let P : ℕ → Type 0 = λ z. Contains (supers_of desc z) e in subst P (sym h) s), refl)
      turned e s (d ∷ path) h = (d, path ++ e ∷ [], h.0, path_snoc d c e path h.1 s)

  pub acyclic_from_grounded : IsGrounded desc → IsAcyclic desc
  acyclic_from_grounded g c l h = by (lineage_within desc (class_count desc) c) refl (g c l)
    where
      by : (o : Option (List ℕ)) → lineage_within desc (class_count desc) c ≡ o → IsSome o → ⊥
      by None k s = cc
      by (Some r) k s = acyclic_at (class_count desc) c r k h

  -- ---- where no class reaches itself, each has an order

  -- a class without one begins a path as long as was looked
  stuck : (n c : ℕ) → lineage_within desc n c ≡ None → (path : List ℕ) × (d : ℕ) × (length path ≡ n) × IsPath desc c path d
  stuck zero c e = ([], c, refl, refl)
  stuck (suc n) c e =
      let m = all_united-missing (lineage_within desc n) [] (supers_of desc c) (by (all_united [] (map (lineage_within desc n) (supers_of desc c))) e) in
      let rest = stuck n m.0 m.2 in
      (m.0 ∷ rest.0, rest.1, ap suc rest.2, (Contains-from_Has (supers_of desc c) m.0 m.1, rest.3))
    where
      by : (o : Option (List ℕ)) → option_map (λ cs. with_item cs c) o ≡ None → o ≡ None
      by None k = refl
      by (Some cs) k = absurd (cc)

  -- superclasses are classes
  pub supers_within : (c q : ℕ) → Has (supers_of desc c) q → q < class_count desc
  supers_within c q h = those (class_at desc c).supers h
    where
      those : (names : List (List ℕ)) → Has (filter_map (class_number desc) names) q → q < class_count desc
      those [] = λ h. absurd (cc)
      those (name ∷ names) = by (class_number desc name) refl (those names)
        where
          by : (o : Option ℕ) → class_number desc name ≡ o → (Has (filter_map (class_number desc) names) q → q < class_count desc)
              → Has (cons_option o (filter_map (class_number desc) names)) q → q < class_count desc
          by None e rest h = rest h
          by (Some m) e rest h = elim (or_cases _ _ h) [
            | inl same ↦ let is : q ≡ m = eqb-true q m same in let there : m < class_count desc = (position-Some _ _ m no_class e).0 in omega arith
            | inr k ↦ rest k
          ]

  pub path_within : (a d : ℕ) (path : List ℕ) → IsPath desc a path d → (q : ℕ) → Has path q → q < class_count desc
  path_within a d [] p q h = absurd (cc)
  path_within a d (e ∷ path) p q h = elim (or_cases _ _ h) [
    | inl same ↦ let is : q ≡ e = eqb-true q e same in let there : e < class_count desc = supers_within a e (Has-from_Contains (supers_of desc a) e p.0) in omega arith
    | inr k ↦ path_within e d path p.1 q k
  ]

  -- the part of a path up to one of its classes
  path_to : (a d : ℕ) (path : List ℕ) → IsPath desc a path d → (q : ℕ) → Has path q → (e : ℕ) × (front : List ℕ) × Contains (supers_of desc a) e × IsPath desc e front q
  path_to a d [] p q h = absurd (cc)
  path_to a d (e ∷ path) p q h = elim (or_cases _ _ h) [
    | inl same ↦ (e, [], p.0, sym (eqb-true q e same))
    | inr k ↦ let rest = path_to e d path p.1 q k in (e, rest.0 ∷ rest.1, p.0, (rest.2, rest.3))
  ]

  -- a path on which no class reaches itself has each class once
  path_distinct : IsAcyclic desc → (a d : ℕ) (path : List ℕ) → a < class_count desc → IsPath desc a path d → IsDistinct eqb (a ∷ path)
  unfolding IsDistinct
  path_distinct acyclic a d [] l p = (tt, tt)
  path_distinct acyclic a d (e ∷ path) l p = (
    apart (e ∷ path) (λ q h same. acyclic a l (let there = path_to a d (e ∷ path) p q h in (there.0, there.1, there.2, (let P : ℕ → Type 0 = λ z. IsPath desc there.0 there.1 z in subst P (sym same) there.3)))),
    path_distinct acyclic e d path (supers_within a e (Has-from_Contains (supers_of desc a) e p.0)) p.1,
  )
    where
      apart : (qs : List ℕ) → ((q : ℕ) → Has qs q → a ≡ q → ⊥) → AllByRecursion (λ y. eqb a y ≡ false) qs
      apart [] none = tt
      apart (q ∷ qs) none = (ne_eqb a q (none q (or_left _ _ (eq-eqb q q refl))), apart qs (λ y h. none y (or_right _ _ h)))

  pub grounded_from_acyclic : IsAcyclic desc → IsGrounded desc
  grounded_from_acyclic acyclic c l = by (lineage_within desc (class_count desc) c) refl
    where
      by : (o : Option (List ℕ)) → lineage_within desc (class_count desc) c ≡ o → IsSome o
      by (Some r) e = refl
      by None e = absurd (
          let s = stuck (class_count desc) c e in
          let few = length-le_from_distinct_below (c ∷ s.0) (class_count desc) (path_distinct acyclic c s.1 s.0 l s.3) (λ q h. elim (or_cases _ _ h) [
            | inl same ↦ let is : q ≡ c = eqb-true q c same in omega arith
            | inr k ↦ path_within c s.1 s.0 s.3 q k
          ]) in
          let long : length s.0 ≡ class_count desc = s.2 in
          omega (arith, few))

  -- the order is exactly the classes that the class conforms to
  pub conforms_exactly : IsGrounded desc → (c q : ℕ) → c < class_count desc → (Has (lineage_of desc c) q → Conforms desc c q) × (Conforms desc c q → Has (lineage_of desc c) q)
  conforms_exactly grounded c q l = by (lineage_within desc (class_count desc) c) refl (grounded c l)
    where
      by : (o : Option (List ℕ)) → lineage_within desc (class_count desc) c ≡ o → IsSome o
          → (Has (unwrap_or o (reached_classes desc c)) q → Conforms desc c q) × (Conforms desc c q → Has (unwrap_or o (reached_classes desc c)) q)
      by None e s = absurd (cc)
      by (Some r) e s = (λ h. lineage_sound (class_count desc) c q r e h, λ h. lineage_complete (class_count desc) c q r h.0 e h.1)

  -- superclasses in a table are classes
  pub supers_are_classes : (c : ℕ) (ids : List ClassId) → class_numbers ids ≡ supers_of desc c → All (IsClassOf desc) ids
  supers_are_classes c ids same k d l =
      let at : get_or (class_numbers ids) k d.0 ≡ (get_or ids k d).0 = get_or-map (λ i. i.0) ids k d d.0 l in
      let long : length (class_numbers ids) ≡ length ids = length-map ids (λ i. i.0) in
      let inside : Contains (class_numbers ids) (get_or (class_numbers ids) k d.0) = Contains-get_or (class_numbers ids) k d.0 (omega (arith, long)) in
      let P : List ℕ → Type 0 = λ xs. Contains xs (get_or (class_numbers ids) k d.0) in
      let within = supers_within c _ (Has-from_Contains (supers_of desc c) _ (subst P same inside)) in
      omega (arith, within, at)
