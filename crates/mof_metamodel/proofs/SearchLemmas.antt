-- A search that finds nothing, in the words of the list that it goes over.
use Rattle.std.proofs.Common.{◌≡◌, ◌≢◌, ℕ, ◌+◌, ◌<◌, ◌≤◌, zero, suc, List, [], ◌∷◌, ◌++◌, Bool, true, false, cond, length, get_or, refl, ap, sym, ◌∙◌, arith, Option, Some, None, inl, inr, eq-eqb}
use Rattle.std.specs.Prelude.{Contains, not, position, nat_lt}
use Rattle.std.specs.List.{list_any, list_all, range_with_len, position_or_len}
use Rattle.std.proofs.lemmas.Bool.Decides.{nat_tests}
use Rattle.std.specs.Option.{option_or}
use Rattle.std.specs.Cmp.Lexicographic.{bytes_decides}
use Rattle.std.proofs.lemmas.Bool.{false≢true, eqb-true, and_from}
use Rattle.std.proofs.lemmas.List.{get_or_default}
use Rattle.std.proofs.lemmas.List.FromFn.{length-range_with_len, get_or-range_with_len}
use Rattle.std.proofs.lemmas.List.Folds.{list_any_at, list_all_at}
use Rattle.std.proofs.lemmas.List.Elements.{Contains-append_left, Contains-append_cases, Contains-push}
use Rattle.std.proofs.lemmas.List.Quantifiers.{position-Some}
use Rattle.std.proofs.lemmas.Map.Views.{Contains-from_any}
use Rattle.mof_metamodel.specs.Characters.{same_name}
use Rattle.mof_metamodel.specs.MetaFaults.{first_of, unless, in_outer, first_repeat, is_number}

pub not_false : (a : Bool) → a ≡ false → not a ≡ true
not_false a h = ap not h

pub none_parts : (a b : Option (List ℕ)) → option_or a b ≡ None → (a ≡ None) × (b ≡ None)
none_parts None b h = (refl, h)
none_parts (Some x) b h = absurd cc

pub none_both : (a b : Option (List ℕ)) → a ≡ None → b ≡ None → option_or a b ≡ None
none_both a b x y = ap (λ o. option_or o b) x ∙ y

pub unless_none : (b : Bool) (name : List ℕ) → unless b name ≡ None → b ≡ true
unless_none true name h = refl
unless_none false name h = absurd cc

pub unless_true : (b : Bool) (name : List ℕ) → b ≡ true → unless b name ≡ None
unless_true b name h = ap (λ x. unless x name) h

pub in_outer_none : (outer : List ℕ) (o : Option (List ℕ)) → in_outer outer o ≡ None → o ≡ None
in_outer_none outer None h = refl
in_outer_none outer (Some n) h = absurd cc

pub none_in_outer : (outer : List ℕ) (o : Option (List ℕ)) → o ≡ None → in_outer outer o ≡ None
none_in_outer outer o h = ap (in_outer outer) h

-- ---- numbers that are there

pub number_is : (x : Option ℕ) (n : ℕ) → is_number x n ≡ true → x ≡ Some n
number_is None n h = absurd (false≢true h)
number_is (Some m) n h = ap Some (eqb-true m n h)

pub is_number_of : (x : Option ℕ) (n : ℕ) → x ≡ Some n → is_number x n ≡ true
is_number_of x n h = ap (λ o. is_number o n) h ∙ eq-eqb n n refl

-- ---- a list of items

module _ {X : Type 0} (f : X → Option (List ℕ)) where
  pub none_each : (xs : List X) → first_of f xs ≡ None → (i : ℕ) (d : X) → i < length xs → f (get_or xs i d) ≡ None
  none_each [] h i d l = absurd (omega arith)
  none_each (x ∷ xs) h zero d l = (none_parts (f x) (first_of f xs) h).0
  none_each (x ∷ xs) h (suc i) d l = none_each xs (none_parts (f x) (first_of f xs) h).1 i d (omega arith)

  pub none_all : (xs : List X) → ((i : ℕ) (d : X) → i < length xs → f (get_or xs i d) ≡ None) → first_of f xs ≡ None
  none_all [] h = refl
  none_all (x ∷ xs) h = none_both (f x) (first_of f xs) (h 0 x (omega arith)) (none_all xs (λ i d l. h (suc i) d (omega arith)))

-- ---- the numbers below n

module _ (f : ℕ → Option (List ℕ)) (n : ℕ) where
  pub none_number : first_of f (range_with_len 0 n) ≡ None → (i : ℕ) → i < n → f i ≡ None
  none_number h i l =
      sym (ap f (get_or-range_with_len 0 n i 0 l ∙ (let e : 0 + i ≡ i = omega arith in e)))
      ∙ none_each f (range_with_len 0 n) h i 0 (let c = length-range_with_len 0 n in omega (arith, c))

  pub none_numbers : ((i : ℕ) → i < n → f i ≡ None) → first_of f (range_with_len 0 n) ≡ None
  none_numbers h = none_all f (range_with_len 0 n) (λ i d l.
      let short : i < n = (let c = length-range_with_len 0 n in omega (arith, c)) in
      ap f (get_or-range_with_len 0 n i d short ∙ (let e : 0 + i ≡ i = omega arith in e)) ∙ h i short)

-- ---- every item passes

module _ {X : Type 0} (p : X → Bool) where
  pub passes_each : (xs : List X) → list_all p xs ≡ true → (x : X) → Contains xs x → p x ≡ true
  passes_each xs h x (i, l, e) = by (p (get_or xs i x)) refl
    where
      by : (b : Bool) → p (get_or xs i x) ≡ b → p x ≡ true
      by true t = sym (ap p e) ∙ t
      by false t = absurd (false≢true (sym (list_all_at p xs i x l t) ∙ h))

  pub passes_all : (xs : List X) → ((x : X) → Contains xs x → p x ≡ true) → list_all p xs ≡ true
  passes_all [] h = refl
  passes_all (x ∷ xs) h = and_from (p x) (list_all p xs) (h x (0, omega arith, refl)) (passes_all xs (λ y c. let (k, l, e) = c in h y (suc k, omega arith, e)))

-- ---- names

pub same_true : (a b : List ℕ) → same_name a b ≡ true → a ≡ b
same_true a b h = (bytes_decides a b).0 h

pub true_same : (a b : List ℕ) → a ≡ b → same_name a b ≡ true
true_same a b h = (bytes_decides a b).1 h

-- no name stands before one that it equals
abbrev pub Apart : List (List ℕ) → Type 0
Apart names = (i j : ℕ) → i < j → j < length names → get_or names i [] ≢ get_or names j []

met_apart : (met names : List (List ℕ)) (n : List ℕ) → first_repeat met names ≡ None → Contains met n → Contains names n → ⊥
met_apart met [] n h c (k, l, e) = omega arith
met_apart met (name ∷ names) n h c d = by (λ g e. met_apart (met ++ name ∷ []) names n g (Contains-append_left met (name ∷ []) n c) e) (list_any (same_name name) met) refl h d
  where
    by : (first_repeat (met ++ name ∷ []) names ≡ None → Contains names n → ⊥) → (b : Bool) → list_any (same_name name) met ≡ b → cond b (Some name) (first_repeat (met ++ name ∷ []) names) ≡ None → Contains (name ∷ names) n → ⊥
    by later true e g d' = cc
    by later false e g (suc k, l, q) = later g (k, omega arith, q)
    by later false e g (zero, l, q) =
        let (i, li, ei) = c in
        let hit : list_any (same_name name) met ≡ true = list_any_at (same_name name) met i n li (true_same name (get_or met i n) (q ∙ sym ei)) in
        let z : true ≡ false = sym hit ∙ e in cc

rest_free : (met names : List (List ℕ)) (name : List ℕ) → first_repeat met (name ∷ names) ≡ None → first_repeat (met ++ name ∷ []) names ≡ None
rest_free met names name h = by (list_any (same_name name) met) h
  where
    by : (b : Bool) → cond b (Some name) (first_repeat (met ++ name ∷ []) names) ≡ None → first_repeat (met ++ name ∷ []) names ≡ None
    by true g = absurd cc
    by false g = g

-- where no repeat is found, no name stands before one that it equals
pub repeat_apart : (met names : List (List ℕ)) → first_repeat met names ≡ None → Apart names
repeat_apart met [] h i j l lj same = omega arith
repeat_apart met (name ∷ names) h zero zero l lj same = omega arith
repeat_apart met (name ∷ names) h zero (suc j) l lj same =
    met_apart (met ++ name ∷ []) names name (rest_free met names name h) (Contains-push met name)
    (j, omega arith, get_or_default names j name [] (omega arith) ∙ sym same)
repeat_apart met (name ∷ names) h (suc i) zero l lj same = omega arith
repeat_apart met (name ∷ names) h (suc i) (suc j) l lj same = repeat_apart (met ++ name ∷ []) names (rest_free met names name h) i j (omega arith) (omega arith) same

-- and the reverse
pub apart_repeat : (met names : List (List ℕ)) → ((n : List ℕ) → Contains met n → Contains names n → ⊥) → Apart names → first_repeat met names ≡ None
apart_repeat met [] fresh apart = refl
apart_repeat met (name ∷ names) fresh apart =
    ap (λ b. cond b (Some name) (first_repeat (met ++ name ∷ []) names)) (unmet (list_any (same_name name) met) refl)
    ∙ apart_repeat (met ++ name ∷ []) names later (λ i j l lj. apart (suc i) (suc j) (omega arith) (omega arith))
  where
    unmet : (b : Bool) → list_any (same_name name) met ≡ b → list_any (same_name name) met ≡ false
    unmet false e = e
    unmet true e = absurd (fresh name (Contains-from_any same_true name met e) (0, omega arith, refl))

    later : (n : List ℕ) → Contains (met ++ name ∷ []) n → Contains names n → ⊥
    later n c (k, l, e) = elim (Contains-append_cases met (name ∷ []) n c) [
      | inl a ↦ fresh n a (suc k, omega arith, e)
      | inr b ↦ (let (m, lm, em) = b in apart 0 (suc k) (omega arith) (omega arith) (one m lm em ∙ sym e ∙ get_or_default names k n [] l))
    ]
      where
        one : (m : ℕ) → m < 1 → get_or (name ∷ []) m n ≡ n → name ≡ n
        one zero lm em = em
        one (suc m) lm em = absurd (omega arith)

-- ---- the first item of a name

before : {X : Type 0} (p : X → Bool) (xs : List X) (i : ℕ) (d : X) → i < length xs → p (get_or xs i d) ≡ true → position_or_len p xs ≤ i
before p [] i d l t = absurd (omega arith)
before p (x ∷ xs) zero d l t = let e : position_or_len p (x ∷ xs) ≡ 0 = ap (λ b. cond (not b) (1 + position_or_len p xs) 0) t in omega arith
before p (x ∷ xs) (suc i) d l t = by (not (p x)) (before p xs i d (omega arith) t)
  where
    by : (b : Bool) → position_or_len p xs ≤ i → cond b (1 + position_or_len p xs) 0 ≤ suc i
    by true h = omega arith
    by false h = omega arith

is_found : {X : Type 0} (p : X → Bool) (xs : List X) → position_or_len p xs < length xs → position p xs ≡ Some (position_or_len p xs)
is_found p xs l = ap (λ b. cond b (Some (position_or_len p xs)) None) (let e : nat_lt (position_or_len p xs) (length xs) ≡ true = grind (arith, nat_tests) in e)

none_some : {X : Type 0} (o : Option X) (x : X) → o ≡ None → o ≡ Some x → ⊥
none_some o x a b = cc

module _ {X : Type 0} (name_of : X → List ℕ) where
  -- it has the name, and no item before it does
  pub position_named : (xs : List X) (name : List ℕ) (i : ℕ) (d : X) → position (λ x. same_name name (name_of x)) xs ≡ Some i
      → (i < length xs) × (name ≡ name_of (get_or xs i d)) × ((k : ℕ) → k < i → name ≢ name_of (get_or xs k d))
  position_named xs name i d h =
      let (l, t, first) = position-Some (λ x. same_name name (name_of x)) xs i d h in
      (l, same_true name (name_of (get_or xs i d)) t, λ k lk e. false≢true (sym (first k lk) ∙ true_same name (name_of (get_or xs k d)) e))

  -- where no item of the name is found, none has it
  pub position_none : (xs : List X) (name : List ℕ) → position (λ x. same_name name (name_of x)) xs ≡ None → (i : ℕ) (d : X) → i < length xs → name ≢ name_of (get_or xs i d)
  position_none xs name h i d l e =
      let test = λ (x : X). same_name name (name_of x) in
      none_some (position test xs) (position_or_len test xs) h
      (is_found test xs (let le = before test xs i d l (true_same name (name_of (get_or xs i d)) e) in omega (arith, le, l)))

  -- an item whose name no other one has is found
  pub position_alone : (xs : List X) (i : ℕ) (d : X) → i < length xs → ((k : ℕ) → k < length xs → name_of (get_or xs k d) ≡ name_of (get_or xs i d) → k ≡ i)
      → position (λ x. same_name (name_of (get_or xs i d)) (name_of x)) xs ≡ Some i
  position_alone xs i d l alone = by (position (λ x. same_name (name_of (get_or xs i d)) (name_of x)) xs) refl
    where
      by : (o : Option ℕ) → position (λ x. same_name (name_of (get_or xs i d)) (name_of x)) xs ≡ o → position (λ x. same_name (name_of (get_or xs i d)) (name_of x)) xs ≡ Some i
      by None h = absurd (position_none xs (name_of (get_or xs i d)) h i d l refl)
      by (Some k) h = let (lk, same, first) = position_named xs (name_of (get_or xs i d)) k d h in h ∙ ap Some (alone k lk (sym same))

  -- where no item has the name, none is found
  pub none_position : (xs : List X) (name : List ℕ) (d : X) → ((k : ℕ) → k < length xs → name ≢ name_of (get_or xs k d)) → position (λ x. same_name name (name_of x)) xs ≡ None
  none_position xs name d none = by (position (λ x. same_name name (name_of x)) xs) refl
    where
      by : (o : Option ℕ) → position (λ x. same_name name (name_of x)) xs ≡ o → position (λ x. same_name name (name_of x)) xs ≡ None
      by None h = h
      by (Some k) h = let (lk, same, first) = position_named xs name k d h in absurd (none k lk same)
