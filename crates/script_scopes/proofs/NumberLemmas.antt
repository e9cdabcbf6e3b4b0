-- The numbers of the names that pass a test: those of universal and of existential variables.
use Rattle.std.proofs.Common.{◌≡◌, ℕ, ◌+◌, ◌<◌, zero, suc, List, [], ◌∷◌, ◌++◌, Bool, true, false, cond, not, refl, sym, ◌∙◌, ap, subst, arith, ⊎_elim, true≢false, length, get_or}
use Rattle.std.specs.Prelude.{Some, Contains, AllPairs, slice_get, ◌↔◌}
use Rattle.std.specs.Set.{is_member}
use Rattle.std.proofs.lemmas.Option.{slice_get_within, same_Some, none-some}
use Rattle.std.proofs.lemmas.List.Elements.{Contains-get_or, Contains-append_left, Contains-append_right, Contains-append_cases}
use Rattle.mof_metamodel.specs.Characters.{same_name}
use Rattle.qv_syntax.specs.declared.script.RelationTree.{RelationTree}
use Rattle.script_scopes.specs.ScriptNames.{each_once}
use Rattle.script_scopes.specs.Occurrences.{variables_of}
use Rattle.script_scopes.specs.Divisions.{IsUniversal}
use Rattle.script_scopes.specs.UniversalNames.{universal_names, is_among, numbers_from}
use Rattle.script_scopes.specs.Resolutions.{AreThose}
use Rattle.script_scopes.proofs.NameLemmas.{has_name, name_had}
use Rattle.script_scopes.proofs.OnceLemmas.{member_once}
use Rattle.script_scopes.proofs.DivisionLaws.{listed_universal, universal_listed}

abbrev AreAscending : List ℕ → Type 0
AreAscending numbers = AllPairs (λ v w. v < w) numbers

ascending_cons : (x : ℕ) (xs : List ℕ) → ((n : ℕ) → Contains xs n → x < n) → AreAscending xs → AreAscending (x ∷ xs)
ascending_cons x xs above h zero zero d l lj = absurd (omega arith)
ascending_cons x xs above h zero (suc j) d l lj = above (get_or xs j d) (Contains-get_or xs j d (omega arith))
ascending_cons x xs above h (suc i) zero d l lj = absurd (omega arith)
ascending_cons x xs above h (suc i) (suc j) d l lj = h i j d (omega arith) (omega arith)

module _ (test : List ℕ → Bool) where
  -- a number that is listed is that of a name which passes
  numbers_has : (k : ℕ) (names : List (List ℕ)) (n : ℕ) → Contains (numbers_from test k names) n
      → (i : ℕ) × (name : List ℕ) × (n ≡ k + i) × (slice_get names i ≡ Some name) × (test name ≡ true)
  numbers_has k [] n (i, l, at) = absurd (omega arith)
  numbers_has k (name ∷ names) n c = ⊎_elim
      (λ left. by (test name) refl left)
      (λ right. let (i, x, is, found, passes) = numbers_has (k + 1) names n right in
      let same : n ≡ k + suc i = omega (arith, is) in
      (suc i, x, same, found, passes))
      (Contains-append_cases (cond (test name) (k ∷ []) []) (numbers_from test (k + 1) names) n c)
    where
      by : (b : Bool) → test name ≡ b → Contains (cond b (k ∷ []) []) n → (i : ℕ) × (x : List ℕ) × (n ≡ k + i) × (slice_get (name ∷ names) i ≡ Some x) × (test x ≡ true)
      by true e (zero, l, at) =
          let same : n ≡ k + 0 = omega (arith, at) in
          (0, name, same, refl, e)
      by true e (suc i, l, at) = absurd (omega arith)
      by false e (i, l, at) = absurd (omega arith)

  numbers_to : (k : ℕ) (names : List (List ℕ)) (i : ℕ) (name : List ℕ) → slice_get names i ≡ Some name → test name ≡ true → Contains (numbers_from test k names) (k + i)
  numbers_to k [] i name found passes = absurd (none-some name found)
  numbers_to k (x ∷ names) zero name found passes =
      let here : test x ≡ true = ap test (same_Some x name found) ∙ passes in
      let same : k ≡ k + 0 = omega arith in
      Contains-append_left (cond (test x) (k ∷ []) []) (numbers_from test (k + 1) names) (k + 0)
      (subst (λ (b : Bool). Contains (cond b (k ∷ []) []) (k + 0)) (sym here) (0, omega arith, same))
  numbers_to k (x ∷ names) (suc i) name found passes =
      let same : k + 1 + i ≡ k + suc i = omega arith in
      Contains-append_right (cond (test x) (k ∷ []) []) (numbers_from test (k + 1) names) (k + suc i)
      (subst (Contains (numbers_from test (k + 1) names)) same (numbers_to (k + 1) names i name found passes))

  above : (k : ℕ) (names : List (List ℕ)) (n : ℕ) → Contains (numbers_from test (k + 1) names) n → k < n
  above k names n c = let (i, name, is, found, passes) = numbers_has (k + 1) names n c in omega (arith, is)

  ascending : (k : ℕ) (names : List (List ℕ)) → AreAscending (numbers_from test k names)
  ascending k [] = λ i j d l lj. absurd (omega arith)
  ascending k (name ∷ names) = by (ascending (k + 1) names) (test name)
    where
      by : AreAscending (numbers_from test (k + 1) names) → (b : Bool) → AreAscending (cond b (k ∷ []) [] ++ numbers_from test (k + 1) names)
      by rest true = ascending_cons k (numbers_from test (k + 1) names) (above k names) rest
      by rest false = rest

  those : (names : List (List ℕ)) (number : ℕ) (name : List ℕ) → slice_get names number ≡ Some name → Contains (numbers_from test 0 names) number ↔ (test name ≡ true)
  those names number name found = (
    λ c. let (i, x, is, there, passes) = numbers_has 0 names number c in
        let same : i ≡ number = omega (arith, is) in
        ap test (same_Some name x (sym found ∙ sym (ap (slice_get names) same) ∙ there)) ∙ passes,
    λ passes. let same : 0 + number ≡ number = omega arith in
        subst (Contains (numbers_from test 0 names)) same (numbers_to 0 names number name found passes),
  )

  within : (names : List (List ℕ)) (number : ℕ) → Contains (numbers_from test 0 names) number → number < length names
  within names number c =
      let (i, x, is, there, passes) = numbers_has 0 names number c in
      omega (arith, is, slice_get_within names i x there)

  are_those : (r : RelationTree) (Holds : List ℕ → Type 0) → ((name : List ℕ) → test name ≡ true → Holds name) → ((name : List ℕ) → Holds name → test name ≡ true)
      → AreThose r Holds (numbers_from test 0 (variables_of r))
  are_those r Holds says said = record {
    those = λ number name found.
        let both = those (variables_of r) number name found in
        (λ c. says name (both.0 c), λ h. both.1 (said name h));
    within = within (variables_of r);
    order = ascending 0 (variables_of r);
  }

-- ---- universal and existential variables

among : (target : List ℕ) (r : RelationTree) (v : List ℕ) → is_member same_name (each_once (universal_names target r)) v ≡ true → IsUniversal target r v
among target r v h = listed_universal target r v (has_name (universal_names target r) v (sym (member_once (universal_names target r) v) ∙ h))

is_among_them : (target : List ℕ) (r : RelationTree) (v : List ℕ) → IsUniversal target r v → is_member same_name (each_once (universal_names target r)) v ≡ true
is_among_them target r v h = member_once (universal_names target r) v ∙ name_had (universal_names target r) v (universal_listed target r v h)

pub universal_numbers : (target : List ℕ) (r : RelationTree) → AreThose r (IsUniversal target r) (numbers_from (is_among (each_once (universal_names target r)) true) 0 (variables_of r))
universal_numbers target r = are_those (is_among (each_once (universal_names target r)) true) r (IsUniversal target r) (among target r) (is_among_them target r)

not_both : (b : Bool) → b ≡ true → not b ≡ true → ⊥
not_both true h n = true≢false (sym n)
not_both false h n = true≢false (sym h)

pub existential_numbers : (target : List ℕ) (r : RelationTree)
    → AreThose r (λ v. ¬ IsUniversal target r v) (numbers_from (is_among (each_once (universal_names target r)) false) 0 (variables_of r))
existential_numbers target r = are_those (is_among (each_once (universal_names target r)) false) r (λ v. ¬ IsUniversal target r v)
    (λ v h u. not_both (is_member same_name (each_once (universal_names target r)) v) (is_among_them target r v u) h)
    (λ v h. by v h (is_member same_name (each_once (universal_names target r)) v) refl)
  where
    by : (v : List ℕ) → (IsUniversal target r v → ⊥) → (b : Bool) → is_member same_name (each_once (universal_names target r)) v ≡ b → not (is_member same_name (each_once (universal_names target r)) v) ≡ true
    by v h true e = absurd (h (among target r v e))
    by v h false e = ap not e
