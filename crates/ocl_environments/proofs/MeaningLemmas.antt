-- Names with what they mean: a table after a change, and on the way through the classifiers of a metamodel.
use Rattle.std.proofs.Common.{if◌then◌else◌, ◌≡◌, ◌<◌, ℕ, ◌+◌, ◌-◌, suc, Bool, true, false, List, [], ◌∷◌, ◌++◌, Option, None, Some, map, set, length, get_or, refl, sym, ◌∙◌, ap, cond, arith, eq-eqb, inl, inr, Result, Ok, Err}
use Rattle.std.specs.Prelude.{nat_lt, ◌==◌, position, is_some, OnOk}
use Rattle.std.specs.Option.{option_map, option_or}
use Rattle.std.specs.Cmp.Lexicographic.{bytes_decides}
use Rattle.std.proofs.lemmas.Bool.{false≢true, ne_eqb, cases_eq}
use Rattle.std.proofs.lemmas.Bool.Decides.{nat_tests}
use Rattle.std.proofs.lemmas.List.{get_or-set_same, get_or-set_other, get_or_append_left, get_or-append_right, length-map}
use Rattle.std.proofs.lemmas.List.Quantifiers.{position-Some}
use Rattle.mof_metamodel.specs.Metamodels.{same_name}
use Rattle.ocl_environments.specs.declared.classifier.Classifier.{Classifier}
use Rattle.ocl_environments.specs.declared.meaning.Meaning.{Meaning}
use Rattle.ocl_environments.specs.Environments.{NamesWith, number_of, value_of}
use Rattle.ocl_environments.specs.Meanings.{no_meaning, meaning_at, with_option, with_classifier, at_number, below}
use Rattle.ocl_environments.proofs.ScopeLaws.{number_behind, position-cons, value_at}

-- names at one place are one
one_name : {X : Type 0} (names : NamesWith X) (a b : List ℕ) (i : ℕ) → number_of names a ≡ Some i → number_of names b ≡ Some i → a ≡ b
one_name names a b i x y =
    let p = position-Some (same_name a) (map (λ e. e.0) names) i [] x in
    let q = position-Some (same_name b) (map (λ e. e.0) names) i [] y in
    (bytes_decides _ _).0 p.1 ∙ sym ((bytes_decides _ _).0 q.1)

pub number_within : {X : Type 0} (names : NamesWith X) (name : List ℕ) (i : ℕ) → number_of names name ≡ Some i → i < length names
number_within names name i is =
    let p = position-Some (same_name name) (map (λ e. e.0) names) i [] is in
    let long : length (map (λ e. e.0) names) ≡ length names = length-map names (λ e. e.0) in
    omega (arith, p.0, long)

-- ---- a table after a change

module _ {X : Type 0} (names : NamesWith X) (ms : List Meaning) (name : List ℕ) (meaning : Meaning) where
  -- another meaning of a name that is there
  pub put_at : (i : ℕ) → i < length ms → number_of names name ≡ Some i → (n : List ℕ)
      → meaning_at (set ms i meaning) (number_of names n) ≡ (if same_name n name then meaning else meaning_at ms (number_of names n))
  put_at i within at n = by (same_name n name) refl (number_of names n) refl
    where
      by : (b : Bool) → same_name n name ≡ b → (o : Option ℕ) → number_of names n ≡ o → meaning_at (set ms i meaning) o ≡ (if b then meaning else meaning_at ms o)
      by true same o is =
          let here : o ≡ Some i = sym is ∙ ap (number_of names) ((bytes_decides n name).0 same) ∙ at in
          ap (meaning_at (set ms i meaning)) here ∙ get_or-set_same ms i meaning no_meaning within
      by false other None is = refl
      by false other (Some j) is =
          get_or-set_other ms i j meaning no_meaning (λ e. false≢true (sym other ∙ (bytes_decides n name).1 (one_name names n name i (is ∙ ap Some e) at)))

  -- a name more
  pub put_behind : (x : X) → length ms ≡ length names → number_of names name ≡ None → (n : List ℕ)
      → meaning_at (ms ++ meaning ∷ []) (number_of (names ++ (name, x) ∷ []) n) ≡ (if same_name n name then meaning else meaning_at ms (number_of names n))
  put_behind x parallel absent n =
      ap (meaning_at (ms ++ meaning ∷ [])) (number_behind names ((name, x) ∷ []) n
      ∙ ap (λ o. option_or (number_of names n) (option_map (λ i. length names + i) o)) (position-cons (same_name n) name []))
      ∙ by (same_name n name) refl (number_of names n) refl
    where
      first : length names + 0 - length names ≡ 0
      first = omega arith

      last : get_or (ms ++ meaning ∷ []) (length names + 0) no_meaning ≡ meaning
      last = get_or-append_right ms (meaning ∷ []) (length names) (length names + 0) no_meaning parallel (omega arith)
          ∙ ap (λ i. get_or (meaning ∷ []) i no_meaning) first

      by : (b : Bool) → same_name n name ≡ b → (o : Option ℕ) → number_of names n ≡ o
          → meaning_at (ms ++ meaning ∷ []) (option_or o (option_map (λ i. length names + i) (cond b (Some 0) (option_map suc None)))) ≡ (if b then meaning else meaning_at ms o)
      by true same o is =
          ap (λ p. meaning_at (ms ++ meaning ∷ []) (option_or p (Some (length names + 0)))) (sym is ∙ ap (number_of names) ((bytes_decides n name).0 same) ∙ absent)
          ∙ last
      by false other None is = refl
      by false other (Some j) is = let within = number_within names n j is in get_or_append_left ms (meaning ∷ []) no_meaning j (omega (arith, within, parallel))

-- a name that isn't there has no value
pub no_value : {X : Type 0} (names : NamesWith X) (d : List ℕ × X) (name own : List ℕ) → own ≡ name → None ≡ number_of names name → is_some (value_of names own) ≡ false
no_value names d name own same absent = ap is_some (ap (value_of names) same ∙ value_at names name d ∙ ap (option_map (λ i. (get_or names i d).1)) (sym absent))

-- what a table has after a name more
pub put_more : {X : Type 0} (names after : NamesWith X) (ms grown : List Meaning) (name own : List ℕ) (meaning : Meaning) (x : X) → length ms ≡ length names
    → None ≡ number_of names name → own ≡ name → after ≡ names ++ (own, x) ∷ [] → grown ≡ ms ++ meaning ∷ [] → (n : List ℕ)
    → meaning_at grown (number_of after n) ≡ (if same_name n name then meaning else meaning_at ms (number_of names n))
put_more names after ms grown name own meaning x parallel absent same named kept n =
    ap (λ g. meaning_at g (number_of after n)) kept
    ∙ ap (λ a. meaning_at (ms ++ meaning ∷ []) (number_of a n)) (named ∙ ap (λ o. names ++ (o, x) ∷ []) same)
    ∙ put_behind names ms name meaning x parallel (sym absent) n

-- ---- what is the first of its name

module _ {D : Type 0} (key : D → List ℕ) (xs : List D) (d : D) (c : ℕ) (name : List ℕ) (is : name ≡ key (get_or xs c d)) where
  abbrev number : List ℕ → Option ℕ
  number n = position (λ x. same_name n (key x)) xs

  named_here : (n : List ℕ) → number n ≡ Some c → n ≡ name
  named_here n at = (bytes_decides _ _).0 (position-Some (λ x. same_name n (key x)) xs c d at).1 ∙ sym is

  pub at_first : number name ≡ Some c → (n : List ℕ) → at_number c (number n) ≡ (if same_name n name then Some c else None)
  at_first first n = by (same_name n name) refl (number n) refl
    where
      by : (b : Bool) → same_name n name ≡ b → (o : Option ℕ) → number n ≡ o → at_number c o ≡ (if b then Some c else None)
      by true same o at =
          ap (at_number c) (sym at ∙ ap number ((bytes_decides n name).0 same) ∙ first) ∙ ap (λ b. if b then Some c else None) (eq-eqb c c refl)
      by false other None at = refl
      by false other (Some j) at = elim (cases_eq j c) [
        | inl e ↦ absurd (false≢true (sym other ∙ (bytes_decides n name).1 (named_here n (at ∙ ap Some e))))
        | inr e ↦ ap (λ b. if b then Some j else None) (ne_eqb j c e)
      ]

  pub at_other : (number name ≡ Some c → ⊥) → (n : List ℕ) → at_number c (number n) ≡ None
  at_other other n = by (number n) refl
    where
      by : (o : Option ℕ) → number n ≡ o → at_number c o ≡ None
      by None at = refl
      by (Some j) at = elim (cases_eq j c) [
        | inl e ↦ absurd (other (sym (ap number (named_here n (at ∙ ap Some e))) ∙ at ∙ ap Some e))
        | inr e ↦ ap (λ b. if b then Some j else None) (ne_eqb j c e)
      ]

  -- with the classifier of the number added to its name
  pub first_added : (K : ℕ → Classifier) (old new : List ℕ → Meaning) → number name ≡ Some c
      → ((n : List ℕ) → new n ≡ (if same_name n name then with_classifier (old name) (K c) else old n))
      → (n : List ℕ) → new n ≡ with_option (old n) (option_map K (at_number c (number n)))
  first_added K old new first added n =
      added n ∙ by (same_name n name) refl ∙ sym (ap (λ o. with_option (old n) (option_map K o)) (at_first first n))
    where
      by : (b : Bool) → same_name n name ≡ b → (if b then with_classifier (old name) (K c) else old n) ≡ with_option (old n) (option_map K (if b then Some c else None))
      by true same = ap (λ k. with_classifier (old k) (K c)) (sym ((bytes_decides n name).0 same))
      by false other = refl

  -- with nothing added, where another has the name
  pub first_skipped : (K : ℕ → Classifier) (old : List ℕ → Meaning) → (number name ≡ Some c → ⊥)
      → (n : List ℕ) → old n ≡ with_option (old n) (option_map K (at_number c (number n)))
  first_skipped K old other n = sym (ap (λ o. with_option (old n) (option_map K o)) (at_other other n))

pub on_ok : {X E : Type 0} (r : Result X E) (P Q : Type 0) → (P → Q) → OnOk r P → OnOk r Q
on_ok (Ok x) P Q f p = f p
on_ok (Err e) P Q f p = tt

pub not_other : (a b : ℕ) (o : Option ℕ) → (a ≡ b → ⊥) → Some a ≡ o → o ≡ Some b → ⊥
not_other a b o other is at = other (cc)

pub not_none : (b : ℕ) (o : Option ℕ) → None ≡ o → o ≡ Some b → ⊥
not_none b o is at = absurd (cc)

-- ---- on the way through the classes, or the enumerations

pub none_below : (o : Option ℕ) → below 0 o ≡ None
none_below None = refl
none_below (Some i) = let is : nat_lt i 0 ≡ false = grind (arith, nat_tests) in ap (λ b. if b then Some i else None) is

pub all_below : (n : ℕ) (o : Option ℕ) → ((i : ℕ) → o ≡ Some i → i < n) → below n o ≡ o
all_below n None within = refl
all_below n (Some i) within = let less = within i refl in let is : nat_lt i n ≡ true = grind (arith, nat_tests) in ap (λ b. if b then Some i else None) is

-- one more
pub below_step : (K : ℕ → Classifier) (meaning : Meaning) (c : ℕ) (o : Option ℕ)
    → with_option (with_option meaning (option_map K (below c o))) (option_map K (at_number c o)) ≡ with_option meaning (option_map K (below (c + 1) o))
below_step K meaning c None = refl
below_step K meaning c (Some j) = by (nat_lt j c) (j == c) (nat_lt j (c + 1)) refl refl refl
  where
    by : (p q r : Bool) → nat_lt j c ≡ p → (j == c) ≡ q → nat_lt j (c + 1) ≡ r
        → with_option (with_option meaning (option_map K (if p then Some j else None))) (option_map K (if q then Some j else None))
        ≡ with_option meaning (option_map K (if r then Some j else None))
    by true false true a b e = refl
    by false true true a b e = refl
    by false false false a b e = refl
    by true true true a b e = absurd (grind (arith, nat_tests))
    by true true false a b e = absurd (grind (arith, nat_tests))
    by true false false a b e = absurd (grind (arith, nat_tests))
    by false true false a b e = absurd (grind (arith, nat_tests))
    by false false true a b e = absurd (grind (arith, nat_tests))
