-- The classes that a class reaches by superclasses, on circles too: exactly those stand in its lineage.
use Rattle.std.proofs.Common.{◌≡◌, ℕ, zero, suc, ◌<◌, ◌≤◌, List, [], ◌∷◌, ◌++◌, Bool, true, false, ◌&&◌, refl, sym, ◌∙◌, ap, subst, arith, length, inl, inr, eqb, eq-eqb, true≢false}
use Rattle.std.specs.Prelude.{nat_eq, Option, Some, None}
use Rattle.std.specs.List.{list_any, IsDistinct, AllByRecursion, range_with_len}
use Rattle.std.specs.Option.{unwrap_or}
use Rattle.std.proofs.lemmas.Bool.{eqb-true, ne_eqb}
use Rattle.std.proofs.lemmas.List.Folds.{list_any_at, Any-from_list_any}
use Rattle.std.proofs.lemmas.Map.Steps.{length-le_from_distinct_below}
use Rattle.std.proofs.lemmas.Map.Views.{any-filter_same}
use Rattle.mof_metamodel.specs.declared.desc.MetaDesc.{MetaDesc}
use Rattle.mof_metamodel.specs.Metamodels.{class_count, supers_of, IsPath, Conforms, conforms_within, reached_classes, lineage_within, lineage_of}
use Rattle.mof_metamodel.proofs.LineageLemmas.{Has, Has-from_Contains, or_cases, supers_within, path_within, lineage_sound, lineage_complete}
use Rattle.std.proofs.lemmas.Bool.{or_right}
use Rattle.std.proofs.lemmas.Bool.{or_left}
use Rattle.mof_metamodel.proofs.ClassOrderLemmas.{range_has}

module _ (desc : MetaDesc) where
  -- ---- paths

  path_joint : (a b c : ℕ) (p q : List ℕ) → IsPath desc a p b → IsPath desc b q c → IsPath desc a (p ++ q) c
  path_joint a b c [] q h k = let P : ℕ → Type 0 = λ z. IsPath desc z q c in subst P (sym h) k
  path_joint a b c (e ∷ p) q h k = (h.0, path_joint e b c p q h.1 k)

  -- whoever a class conforms to, conforms to no others than it does itself
  pub conforms_through : (a b c : ℕ) → Conforms desc a b → Conforms desc b c → Conforms desc a c
  conforms_through a b c h k = (h.0 ++ k.0, path_joint a b c h.0 k.0 h.1 k.1)

  -- a path leads to a class
  pub path_ends : (a b : ℕ) (path : List ℕ) → IsPath desc a path b → a < class_count desc → b < class_count desc
  path_ends a b [] p l = let same : a ≡ b = p in omega arith
  path_ends a b (e ∷ path) p l = path_ends e b path p.1 (supers_within desc a e (Has-from_Contains _ e p.0))

  -- the part behind one of the classes of a path without repeats
  path_at : (a d : ℕ) (path : List ℕ) → IsPath desc a path d → IsDistinct eqb (a ∷ path) → (q : ℕ) → eqb q a ≡ true → (rest : List ℕ) × IsPath desc q rest d × IsDistinct eqb (q ∷ rest)
  path_at a d path p distinct q same =
      let is : a ≡ q = sym (eqb-true q a same) in
      let P : ℕ → Type 0 = λ z. IsPath desc z path d in
      let Q : ℕ → Type 0 = λ z. IsDistinct eqb (z ∷ path) in
      (path, subst P is p, subst Q is distinct)

  path_from : (a d : ℕ) (path : List ℕ) → IsPath desc a path d → IsDistinct eqb (a ∷ path) → (q : ℕ) → Has (a ∷ path) q → (rest : List ℕ) × IsPath desc q rest d × IsDistinct eqb (q ∷ rest)
  unfolding IsDistinct
  path_from a d [] p distinct q h = elim (or_cases _ _ h) [ inl same ↦ path_at a d [] p distinct q same | inr k ↦ absurd (cc) ]
  path_from a d (e ∷ path) p distinct q h = elim (or_cases _ _ h) [ inl same ↦ path_at a d (e ∷ path) p distinct q same | inr k ↦ path_from e d path p.1 distinct.1 q k ]

  -- where there is a path, there is one without repeats
  path_once : (a d : ℕ) (path : List ℕ) → IsPath desc a path d → (rest : List ℕ) × IsPath desc a rest d × IsDistinct eqb (a ∷ rest)
  unfolding IsDistinct
  path_once a d [] p = ([], p, (tt, tt))
  path_once a d (e ∷ path) p = by (path_once e d path p.1)
    where
      apart : (qs : List ℕ) → (Has qs a → ⊥) → AllByRecursion (λ y. eqb a y ≡ false) qs
      apart [] none = tt
      apart (q ∷ qs) none = (ne_eqb a q (λ same. none (or_left _ _ (eq-eqb a q same))), apart qs (λ h. none (or_right _ _ h)))

      by : (rest : List ℕ) × IsPath desc e rest d × IsDistinct eqb (e ∷ rest) → (rest : List ℕ) × IsPath desc a rest d × IsDistinct eqb (a ∷ rest)
      by r = test (list_any (nat_eq a) (e ∷ r.0)) refl
        where
          test : (b : Bool) → list_any (nat_eq a) (e ∷ r.0) ≡ b → (rest : List ℕ) × IsPath desc a rest d × IsDistinct eqb (a ∷ rest)
          test true h = path_from e d r.0 r.1 r.2 a h
          test false h = (e ∷ r.0, (p.0, r.1), (apart (e ∷ r.0) (λ k. true≢false (sym k ∙ h)), r.2))

  -- ---- by steps

  pub steps_sound : (n c d : ℕ) → conforms_within desc n c d ≡ true → Conforms desc c d
  steps_sound zero c d h = ([], eqb-true c d h)
  steps_sound (suc n) c d h = elim (or_cases _ _ h) [
    | inl e ↦ ([], eqb-true c d e)
    | inr k ↦ (
        let a = Any-from_list_any (λ e. conforms_within desc n e d) (supers_of desc c) k in
        let rest = steps_sound n a.1 d a.4 in
        (a.1 ∷ rest.0, ((a.0, a.2, a.3), rest.1)))
  ]

  steps_along : (n c d : ℕ) (path : List ℕ) → length path ≤ n → IsPath desc c path d → conforms_within desc n c d ≡ true
  steps_along zero c d [] l p = eq-eqb c d p
  steps_along zero c d (e ∷ path) l p = absurd (omega (arith, l))
  steps_along (suc n) c d [] l p = or_left _ _ (eq-eqb c d p)
  steps_along (suc n) c d (e ∷ path) l p =
      or_right _ _ (list_any_at (λ x. conforms_within desc n x d) (supers_of desc c) p.0.0 e p.0.1
      (ap (λ x. conforms_within desc n x d) p.0.2 ∙ steps_along n e d path (omega (arith, l)) p.1))

  -- as many steps as there are classes suffice
  pub steps_complete : (c d : ℕ) → c < class_count desc → Conforms desc c d → conforms_within desc (class_count desc) c d ≡ true
  steps_complete c d l h =
      let once = path_once c d h.0 h.1 in
      let few = length-le_from_distinct_below (c ∷ once.0) (class_count desc) once.2 (λ q k. elim (or_cases _ _ k) [
        | inl same ↦ (let is : q ≡ c = eqb-true q c same in omega arith)
        | inr m ↦ path_within desc c d once.0 once.1 q m
      ]) in
      steps_along (class_count desc) c d once.0 (omega (arith, few)) once.1

  -- ---- lineages

  pub reached_exactly : (c q : ℕ) → c < class_count desc → (Has (reached_classes desc c) q → Conforms desc c q) × (Conforms desc c q → Has (reached_classes desc c) q)
  reached_exactly c q l =
      let test = conforms_within desc (class_count desc) c in
      let is : list_any (nat_eq q) (reached_classes desc c) ≡ (test q && list_any (nat_eq q) (range_with_len 0 (class_count desc))) =
      any-filter_same (nat_eq q) test (test q) (λ k e. ap test (sym (eqb-true q k e))) (range_with_len 0 (class_count desc)) in (
        λ h. steps_sound (class_count desc) c q (front (test q) _ (sym is ∙ h)),
        λ h. is ∙ both (test q) _ (steps_complete c q l h) (range_has (class_count desc) 0 q (omega arith) (let w = path_ends c q h.0 h.1 l in omega (arith, w))),
      )
    where
      front : (a b : Bool) → (a && b) ≡ true → a ≡ true
      front true b h = refl
      front false b h = h

      both : (a b : Bool) → a ≡ true → b ≡ true → (a && b) ≡ true
      both true b h k = k
      both false b h k = h

  -- the lineage of a class has exactly the classes that it conforms to, on circles too
  pub lineage_exactly : (c q : ℕ) → c < class_count desc → (Has (lineage_of desc c) q → Conforms desc c q) × (Conforms desc c q → Has (lineage_of desc c) q)
  lineage_exactly c q l = by (lineage_within desc (class_count desc) c) refl
    where
      by : (o : Option (List ℕ)) → lineage_within desc (class_count desc) c ≡ o → (Has (unwrap_or o (reached_classes desc c)) q → Conforms desc c q) × (Conforms desc c q → Has (unwrap_or o (reached_classes desc c)) q)
      by None e = reached_exactly c q l
      by (Some r) e = (λ h. lineage_sound desc (class_count desc) c q r e h, λ h. lineage_complete desc (class_count desc) c q r h.0 e h.1)

  pub lineage_within_classes : (c q : ℕ) → c < class_count desc → Has (lineage_of desc c) q → q < class_count desc
  lineage_within_classes c q l h = let s = (lineage_exactly c q l).0 h in path_ends c q s.0 s.1 l
