-- Entries by classes: how one is found, and lists of them that grow class by class.
use Rattle.std.proofs.Common.{◌≡◌, ℕ, ◌+◌, ◌<◌, ◌≤◌, List, [], ◌∷◌, ◌++◌, refl, sym, ◌∙◌, ap, subst, arith, length, get_or, set, inl, inr, replicate, zero, suc, Less, Equal, Greater}
use Rattle.std.specs.Prelude.{Contains}
use Rattle.std.specs.List.{HoldsAt}
use Rattle.std.specs.List.Sorted.{IsNonDecreasingBy, IsPartitionPoint}
use Rattle.std.specs.Ordering.{nat_cmp, ordering_index}
use Rattle.std.proofs.lemmas.Bool.{cases_lt, cases_eq}
use Rattle.std.proofs.lemmas.Bool.Decides.{nat_tests}
use Rattle.std.proofs.lemmas.Cmp.{ranked}
use Rattle.std.proofs.lemmas.List.{get_or-set_same, get_or-set_other, length-set, get_or-replicate, get_or_past, length-replicate, get_or_default, get_or_append_left, get_or_at, length_push}
use Rattle.std.proofs.lemmas.List.Elements.{Contains-get_or, Contains-append_left, Contains-append_right, Contains-append_cases}
use Rattle.mof_metamodel.specs.declared.entries.Entry.{Entry}
use Rattle.mof_metamodel.specs.Tables.{entry, AreRising, AreOfClasses, AddsEntries}

-- ---- one is found

higher : (a b c : ℕ) → a ≤ b → ordering_index (nat_cmp a c) ≤ ordering_index (nat_cmp b c)
higher a b c le = grind (arith, nat_tests)

pub entry_found : (es : List Entry) (c i : ℕ) (e : Entry) → i < length es → HoldsAt (λ y. nat_cmp y.class c ≡ Equal) es i → e ≡ get_or es i e → Contains es (entry c e.value)
entry_found es c i e l h is =
    let class : e.class ≡ c = ap (λ (x : Entry). x.class) is ∙ ranked (get_or es i e).class c Equal (sym (h e)) in
    (i, l, get_or_default es i (entry c e.value) e l ∙ sym is ∙ ap (λ k. entry k e.value) class)

pub entry_absent : (es : List Entry) (c i : ℕ) → AreRising es
    → (IsNonDecreasingBy (λ y. ordering_index (nat_cmp y.class c)) es → IsPartitionPoint (λ y. nat_cmp y.class c ≡ Less) (λ y. nat_cmp y.class c ≡ Greater) es i)
    → (v : ℕ) → Contains es (entry c v) → ⊥
entry_absent es c i rising h v (k, l, is) =
    let parts = h (λ a b d le m. higher (get_or es a d).class (get_or es b d).class c (rising a b d le m)) in
    let class : (get_or es k (entry c v)).class ≡ c = ap (λ (x : Entry). x.class) is in
    elim (cases_lt k i) [
      | inl before ↦ (let less : (get_or es k (entry c v)).class < c = ranked (get_or es k (entry c v)).class c Less (sym (parts.0 k (entry c v) (omega arith) before)) in omega (arith, less, class))
      | inr past ↦ (let more : c < (get_or es k (entry c v)).class = ranked (get_or es k (entry c v)).class c Greater (sym (parts.1 k (entry c v) past l)) in omega (arith, more, class))
    ]

-- ---- lists of them

pub adds_no_entries : (old : List (List Entry)) (keys values : List ℕ) (c : ℕ) → AddsEntries old old keys values 0 c
adds_no_entries old keys values c = record {
  count = refl;
  kept = λ k e h. h;
  added = λ i a b. absurd (omega (arith, a));
  only = λ k e h. inl h;
  classes = λ are. record { rising = are.rising; below = λ k e h. (let l = are.below k e h in omega (arith, l)) };
}

-- an entry behind others
rising_more : (es : List Entry) (c v : ℕ) → AreRising es → ((e : Entry) → Contains es e → e.class < c + 1) → AreRising (es ++ entry c v ∷ [])
rising_more es c v rising below i j d le l =
    let all = length_push es (entry c v) in
    elim (cases_lt j (length es)) [
      | inl before ↦ (
          let first : (get_or (es ++ entry c v ∷ []) i d).class ≡ (get_or es i d).class = ap (λ (x : Entry). x.class) (get_or_append_left es (entry c v ∷ []) d i (omega (arith, le, before))) in
          let second : (get_or (es ++ entry c v ∷ []) j d).class ≡ (get_or es j d).class = ap (λ (x : Entry). x.class) (get_or_append_left es (entry c v ∷ []) d j before) in
          let up = rising i j d le before in
          omega (arith, first, second, up))
      | inr past ↦ (
          let end : length es ≡ j = omega (arith, past, l, all) in
          let last : (get_or (es ++ entry c v ∷ []) j d).class ≡ c = ap (λ k. (get_or (es ++ entry c v ∷ []) k d).class) (sym end) ∙ ap (λ (x : Entry). x.class) (get_or_at es (entry c v) [] d (length es) refl) in
          elim (cases_lt i (length es)) [
            | inl before ↦ (
                let first : (get_or (es ++ entry c v ∷ []) i d).class ≡ (get_or es i d).class = ap (λ (x : Entry). x.class) (get_or_append_left es (entry c v ∷ []) d i before) in
                let short = below (get_or es i d) (Contains-get_or es i d before) in
                omega (arith, first, last, short))
            | inr same ↦ (let is : i ≡ j = omega (arith, le, same, end) in omega (arith, ap (λ k. (get_or (es ++ entry c v ∷ []) k d).class) is))
          ])
    ]

only_one : (x e : Entry) → Contains (x ∷ []) e → x ≡ e
only_one x e (zero, l, is) = is
only_one x e (suc k, l, is) = absurd (omega (arith, l))

-- one more of the values
pub adds_entry : (old new : List (List Entry)) (keys values : List ℕ) (n c key v : ℕ) (list : List Entry) → AddsEntries old new keys values n c → n < length keys → key ≡ get_or keys n 0 → v ≡ get_or values n 0
    → key < length old → list ≡ get_or new key [] → AddsEntries old (set new key (list ++ entry c v ∷ [])) keys values (n + 1) c
adds_entry old new keys values n c key v list adds more_keys at value l is = record {
  count = length-set new key (list ++ entry c v ∷ []) ∙ adds.count;
  kept = λ k e h. more k e (adds.kept k e h);
  added = λ i a b. elim (cases_lt i n) [
    | inl before ↦ more (get_or keys i 0) (entry c (get_or values i 0)) (adds.added i before b)
    | inr past ↦ (
        let same : n ≡ i = omega (arith, a, past) in
        let P : ℕ → Type 0 = λ j. Contains (get_or (set new key (list ++ entry c v ∷ [])) (get_or keys j 0) []) (entry c (get_or values j 0)) in
        subst P same (
        subst (λ xs. Contains xs (entry c (get_or values n 0))) (sym (ap (λ k. get_or (set new key (list ++ entry c v ∷ [])) k []) (sym at) ∙ here))
        (Contains-append_right list (entry c v ∷ []) (entry c (get_or values n 0)) (0, omega arith, ap (entry c) value))))
  ];
  only = λ k e h. elim (cases_eq k key) [
    | inl same ↦ elim (Contains-append_cases list (entry c v ∷ []) e (subst (λ xs. Contains xs e) (ap (λ j. get_or (set new key (list ++ entry c v ∷ [])) j []) same ∙ here) h)) [
      | inl f ↦ adds.only k e (subst (λ xs. Contains xs e) (is ∙ ap (λ j. get_or new j []) (sym same)) f)
      | inr f ↦ inr (n, more_keys, same ∙ at, sym (only_one (entry c v) e f) ∙ ap (entry c) value)
    ]
    | inr ne ↦ adds.only k e (subst (λ xs. Contains xs e) (get_or-set_other new key k (list ++ entry c v ∷ []) [] ne) h)
  ];
  classes = λ are.
      let before = adds.classes are in
      record {
        rising = λ k. elim (cases_eq k key) [
          | inl same ↦ subst AreRising (sym (ap (λ j. get_or (set new key (list ++ entry c v ∷ [])) j []) same ∙ here))
              (rising_more list c v (subst AreRising (sym is) (before.rising key)) (λ e h. before.below key e (subst (λ xs. Contains xs e) is h)))
          | inr ne ↦ subst AreRising (sym (get_or-set_other new key k (list ++ entry c v ∷ []) [] ne)) (before.rising k)
        ];
        below = λ k e h. elim (cases_eq k key) [
          | inl same ↦ elim (Contains-append_cases list (entry c v ∷ []) e (subst (λ xs. Contains xs e) (ap (λ j. get_or (set new key (list ++ entry c v ∷ [])) j []) same ∙ here) h)) [
            | inl f ↦ before.below key e (subst (λ xs. Contains xs e) is f)
            | inr f ↦ (let class : c ≡ e.class = ap (λ (x : Entry). x.class) (only_one (entry c v) e f) in omega (arith, class))
          ]
          | inr ne ↦ before.below k e (subst (λ xs. Contains xs e) (get_or-set_other new key k (list ++ entry c v ∷ []) [] ne) h)
        ];
      };
}
  where
    here : get_or (set new key (list ++ entry c v ∷ [])) key [] ≡ list ++ entry c v ∷ []
    here = get_or-set_same new key (list ++ entry c v ∷ []) [] (let e = adds.count in omega (arith, e, l))

    more : (k : ℕ) (e : Entry) → Contains (get_or new k []) e → Contains (get_or (set new key (list ++ entry c v ∷ [])) k []) e
    more k e h = elim (cases_eq k key) [
      | inl same ↦ subst (λ xs. Contains xs e) (sym (ap (λ j. get_or (set new key (list ++ entry c v ∷ [])) j []) same ∙ here))
          (Contains-append_left list (entry c v ∷ []) e (subst (λ xs. Contains xs e) (ap (λ j. get_or new j []) same ∙ sym is) h))
      | inr ne ↦ subst (λ xs. Contains xs e) (sym (get_or-set_other new key k (list ++ entry c v ∷ []) [] ne)) h
    ]

-- lists without entries
empty_at : (rows : List (List Entry)) (n : ℕ) → rows ≡ replicate n [] → (k : ℕ) → get_or rows k [] ≡ []
empty_at rows n e k = elim (cases_lt k n) [
  | inl l ↦ ap (λ xs. get_or xs k []) e ∙ get_or-replicate n k [] [] l
  | inr past ↦ get_or_past rows k [] (let m = ap length e ∙ length-replicate n [] in omega (arith, m, past))
]

pub no_entry : (rows : List (List Entry)) (n : ℕ) → rows ≡ replicate n [] → (k : ℕ) (e : Entry) → Contains (get_or rows k []) e → ⊥
no_entry rows n is k e h = let none = subst (λ xs. Contains xs e) (empty_at rows n is k) h in omega (arith, none.1)

pub classes_none : (rows : List (List Entry)) (n : ℕ) → rows ≡ replicate n [] → AreOfClasses 0 rows
classes_none rows n is = record {
  rising = λ k i j d le l. absurd (let m = ap length (empty_at rows n is k) in omega (arith, m, l));
  below = λ k e h. absurd (no_entry rows n is k e h);
}
