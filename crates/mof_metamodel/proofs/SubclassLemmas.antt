-- Lists of numbers, to some of which a number is added.
use Rattle.std.proofs.Common.{◌≡◌, ℕ, ◌+◌, ◌<◌, ◌≤◌, List, [], ◌∷◌, ◌++◌, refl, sym, ◌∙◌, ap, subst, arith, length, get_or, set, inl, inr, replicate, eq-eqb}
use Rattle.std.proofs.lemmas.Bool.{cases_lt, cases_eq}
use Rattle.std.proofs.lemmas.List.{get_or-set_same, get_or-set_other, length-set, get_or-replicate, get_or_past, length-replicate}
use Rattle.mof_metamodel.specs.declared.desc.MetaDesc.{MetaDesc}
use Rattle.mof_metamodel.specs.Metamodels.{class_count, supers_of}
use Rattle.mof_metamodel.specs.Tables.{AddsUnder, AreSubclasses}
use Rattle.mof_metamodel.proofs.LineageLemmas.{Has, Has-append_left, Has-append_right, Has-append_cases, Has-one}
use Rattle.std.proofs.lemmas.Bool.{or_left}
use Rattle.mof_metamodel.proofs.QueueLemmas.{index_of}

-- no list so far
pub adds_none : (old : List (List ℕ)) (rows : List ℕ) (c : ℕ) → AddsUnder old old rows 0 c
adds_none old rows c = record { count = refl; kept = λ s q h. h; only = λ s q h. inl h; added = λ i a b. absurd (omega (arith, a)) }

-- one more
pub adds_more : (old new : List (List ℕ)) (rows : List ℕ) (n c row : ℕ) (list : List ℕ) → AddsUnder old new rows n c → row ≡ get_or rows n 0 → row < length old → list ≡ get_or new row []
    → AddsUnder old (set new row (list ++ c ∷ [])) rows (n + 1) c
adds_more old new rows n c row list adds at l is = record {
  count = length-set new row (list ++ c ∷ []) ∙ adds.count;
  kept = λ s q h. more s q (adds.kept s q h);
  only = λ s q h. elim (cases_eq s row) [
    | inl same ↦ elim (Has-append_cases list (c ∷ []) q (subst (λ xs. Has xs q) (ap (λ k. get_or (set new row (list ++ c ∷ [])) k []) same ∙ here) h)) [
      | inl e ↦ adds.only s q (subst (λ xs. Has xs q) (is ∙ ap (λ k. get_or new k []) (sym same)) e)
      | inr e ↦ inr (Has-one c q e)
    ]
    | inr ne ↦ adds.only s q (subst (λ xs. Has xs q) (get_or-set_other new row s (list ++ c ∷ []) [] ne) h)
  ];
  added = λ i a b. elim (cases_lt i n) [
    | inl before ↦ more (get_or rows i 0) c (adds.added i before b)
    | inr past ↦ (
        let same : i ≡ n = omega (arith, a, past) in
        subst (λ xs. Has xs c) (sym (ap (λ k. get_or (set new row (list ++ c ∷ [])) k []) (ap (λ k. get_or rows k 0) same ∙ sym at) ∙ here)) (Has-append_right list (c ∷ []) c (or_left _ _ (eq-eqb c c refl))))
  ];
}
  where
    here : get_or (set new row (list ++ c ∷ [])) row [] ≡ list ++ c ∷ []
    here = get_or-set_same new row (list ++ c ∷ []) [] (let e = adds.count in omega (arith, e, l))

    more : (s q : ℕ) → Has (get_or new s []) q → Has (get_or (set new row (list ++ c ∷ [])) s []) q
    more s q h = elim (cases_eq s row) [
      | inl same ↦ subst (λ xs. Has xs q) (sym (ap (λ k. get_or (set new row (list ++ c ∷ [])) k []) same ∙ here)) (Has-append_left list (c ∷ []) q (subst (λ xs. Has xs q) (ap (λ k. get_or new k []) same ∙ sym is) h))
      | inr ne ↦ subst (λ xs. Has xs q) (sym (get_or-set_other new row s (list ++ c ∷ []) [] ne)) h
    ]

module _ (desc : MetaDesc) where
  -- the lists of no class
  pub subclasses_none : (lists : List (List ℕ)) → lists ≡ replicate (class_count desc) [] → AreSubclasses desc 0 lists
  subclasses_none lists e = record {
    count = ap length e ∙ length-replicate (class_count desc) [];
    below = λ s q h. absurd (let none : get_or lists s [] ≡ [] = empty s in let no : Has [] q = subst (λ xs. Has xs q) none h in cc);
    listed = λ c s l h. absurd (omega (arith, l));
  }
    where
      empty : (s : ℕ) → get_or lists s [] ≡ []
      empty s = elim (cases_lt s (class_count desc)) [
        | inl l ↦ ap (λ xs. get_or xs s []) e ∙ get_or-replicate (class_count desc) s [] [] l
        | inr past ↦ get_or_past lists s [] (let n = ap length e ∙ length-replicate (class_count desc) [] in omega (arith, n, past))
      ]

  -- one class more
  pub subclasses_more : (lists lists' : List (List ℕ)) (rows : List ℕ) (n c : ℕ) → AreSubclasses desc c lists → c < class_count desc → rows ≡ supers_of desc c → length rows ≤ n → AddsUnder lists lists' rows n c → AreSubclasses desc (c + 1) lists'
  subclasses_more lists lists' rows n c are l is long adds = record {
    count = adds.count ∙ are.count;
    below = λ s q h. elim (adds.only s q h) [ inl e ↦ are.below s q e | inr same ↦ omega (arith, same, l) ];
    listed = λ d s m h. elim (cases_lt d c) [
      | inl before ↦ adds.kept s d (are.listed d s before h)
      | inr past ↦ (
          let same : c ≡ d = omega (arith, m, past) in
          let P : ℕ → Type 0 = λ z. Has (get_or lists' s []) z in
          let Q : ℕ → Type 0 = λ z. Has (supers_of desc z) s in
          let at = index_of rows s (subst (λ xs. Has xs s) (sym is) (subst Q (sym same) h)) in
          let R : ℕ → Type 0 = λ z. Has (get_or lists' z []) c in
          subst P same (subst R at.2 (adds.added at.0 (let k = at.1 in omega (arith, k, long)) at.1)))
    ];
  }
