-- Lists: what is in a filtered, mapped or joined list, and elements that stand in a relation to all behind them.
use Rattle.std.specs.Prelude.{◌≡◌, ◌⊎◌, ◌≢◌, ◌<◌, ◌≤◌, ◌+◌, ℕ, zero, suc, Bool, true, false, ◌&&◌, ◌||◌, cond, List, [], ◌∷◌, ◌++◌, map, length, take, Option, None, Some, All, AllPairs, Contains}
use Rattle.std.specs.List.{filter, filter_map, cons_option, list_all, list_any, range_with_len}
use Rattle.std.proofs.Common.{refl, ap, sym, ◌∙◌, subst, arith, inl, inr, get_or}
use Rattle.std.proofs.lemmas.Bool.{cases_lt}
use Rattle.std.proofs.lemmas.List.Elements.{Contains-append_cases, Contains-get_or, All-contains, filter_passes}
use Rattle.std.proofs.lemmas.List.Kept.{AllPairs-cons}
use Rattle.mof_metamodel.proofs.Facts.{nothing_in, contains_first}
use Rattle.object_tables.proofs.ListLemmas.{Contains-filter, Contains-from_map}
use Rattle.template_match.proofs.ListLaws.{contains_later}

-- ---- what is in a list

-- the first element, or one behind it
pub here_or_later : {X : Type 0} (x y : X) (xs : List X) → Contains (x ∷ xs) y → (x ≡ y) ⊎ Contains xs y
here_or_later x y xs (zero, below, is) = inl is
here_or_later x y xs (suc k, below, is) = inr (k, omega (arith, below), is)

-- what holds of each element holds of all
pub all_from : {X : Type 0} (P : X → Type 0) (xs : List X) → ((x : X) → Contains xs x → P x) → All P xs
all_from P xs h = λ k d within. h (get_or xs k d) (Contains-get_or xs k d within)

-- a test that each element passes, and one that none does
pub all_pass : {X : Type 0} (test : X → Bool) (xs : List X) → ((x : X) → Contains xs x → test x ≡ true) → list_all test xs ≡ true
all_pass test [] h = refl
all_pass test (x ∷ xs) h = ap (λ b. b && list_all test xs) (h x (contains_first x xs)) ∙ all_pass test xs (λ y c. h y (contains_later y x xs c))

pub none_passes : {X : Type 0} (test : X → Bool) (xs : List X) → ((x : X) → Contains xs x → test x ≡ false) → list_any test xs ≡ false
none_passes test [] h = refl
none_passes test (x ∷ xs) h = ap (λ b. b || list_any test xs) (h x (contains_first x xs)) ∙ none_passes test xs (λ y c. h y (contains_later y x xs c))

-- what a filter keeps was there, and passes
pub from_filter : {X : Type 0} (test : X → Bool) (xs : List X) (x : X) → Contains (filter test xs) x → Contains xs x × (test x ≡ true)
from_filter test xs x c = (Contains-filter test xs x c, All-contains (λ y. test y ≡ true) (filter test xs) x (filter_passes test xs) c)

-- what is given for an element
pub from_filter_map : {X Y : Type 0} (f : X → Option Y) (xs : List X) (y : Y) → Contains (filter_map f xs) y
    → (x : X) × Contains xs x × (f x ≡ Some y)
from_filter_map f [] y c = absurd (nothing_in y c)
from_filter_map {X} {Y} f (x ∷ xs) y c = by (f x) refl c (from_filter_map f xs y)
  where
    by : (o : Option Y) → f x ≡ o → Contains (cons_option o (filter_map f xs)) y
        → (Contains (filter_map f xs) y → (z : X) × Contains xs z × (f z ≡ Some y))
        → (z : X) × Contains (x ∷ xs) z × (f z ≡ Some y)
    by None is d more = let found = more d in (found.0, contains_later found.0 x xs found.1, found.2)
    by (Some w) is (zero, within, same) more = (x, contains_first x xs, is ∙ ap (λ z. Some z) same)
    by (Some w) is (suc k, within, same) more =
        let found = more (k, omega (arith, within), same) in
        (found.0, contains_later found.0 x xs found.1, found.2)

pub in_filter_map : {X Y : Type 0} (f : X → Option Y) (xs : List X) (x : X) (y : Y) → Contains xs x → f x ≡ Some y → Contains (filter_map f xs) y
in_filter_map f [] x y c h = absurd (nothing_in x c)
in_filter_map f (z ∷ zs) x y (zero, within, is) h = subst (λ o. Contains (cons_option o (filter_map f zs)) y) (sym (ap f is ∙ h))
    (contains_first y (filter_map f zs))
in_filter_map {X} {Y} f (z ∷ zs) x y (suc k, within, is) h = by (f z) (in_filter_map f zs x y (k, omega (arith, within), is) h)
  where
    by : (o : Option Y) → Contains (filter_map f zs) y → Contains (cons_option o (filter_map f zs)) y
    by None c = c
    by (Some v) c = contains_later y v (filter_map f zs) c

-- nothing is given where nothing is for each element
pub none_given : {X Y : Type 0} (f : X → Option Y) (xs : List X) → ((x : X) → Contains xs x → f x ≡ None) → filter_map f xs ≡ []
none_given f [] h = refl
none_given f (x ∷ xs) h = ap (λ o. cons_option o (filter_map f xs)) (h x (contains_first x xs))
    ∙ none_given f xs (λ y c. h y (contains_later y x xs c))

-- ---- each element and those behind it

-- each element is related to all behind it
abbrev pub AllLater : {X : Type 0} → (X → X → Type 0) → List X → Type 0
AllLater R [] = Unit {0}
AllLater {X} R (x ∷ xs) = ((y : X) → Contains xs y → R x y) × AllLater R xs

pub pairs_later : {X : Type 0} (R : X → X → Type 0) (xs : List X) → AllLater R xs → AllPairs R xs
pairs_later R [] h = λ i j d below within. absurd (omega (arith, within))
pairs_later R (x ∷ xs) h = AllPairs-cons R x xs (all_from (R x) xs h.0) (pairs_later R xs h.1)

pub later_pairs : {X : Type 0} (R : X → X → Type 0) (xs : List X) → AllPairs R xs → AllLater R xs
later_pairs R [] h = tt
later_pairs R (x ∷ xs) h = (
  λ y c. subst (R x) c.2 (h 0 (suc c.0) y (omega arith) (let l = c.1 in omega (arith, l))),
  later_pairs R xs (λ i j d below within. h (suc i) (suc j) d (omega (arith, below)) (omega (arith, within))),
)

pub later_weaker : {X : Type 0} (R S : X → X → Type 0) (xs : List X) → ((x y : X) → Contains xs x → Contains xs y → R x y → S x y) → AllLater R xs
    → AllLater S xs
later_weaker R S [] weaker h = tt
later_weaker R S (x ∷ xs) weaker h = (
  λ y c. weaker x y (contains_first x xs) (contains_later y x xs c) (h.0 y c),
  later_weaker R S xs (λ y z a b. weaker y z (contains_later y x xs a) (contains_later z x xs b)) h.1,
)

pub later_filter : {X : Type 0} (R : X → X → Type 0) (test : X → Bool) (xs : List X) → AllLater R xs → AllLater R (filter test xs)
later_filter R test [] h = tt
later_filter R test (x ∷ xs) h = by (test x) (later_filter R test xs h.1)
  where
    by : (b : Bool) → AllLater R (filter test xs) → AllLater R (cond b (x ∷ filter test xs) (filter test xs))
    by true rest = (λ y c. h.0 y (from_filter test xs y c).0, rest)
    by false rest = rest

pub later_map : {X Y : Type 0} (R : X → X → Type 0) (S : Y → Y → Type 0) (f : X → Y) (xs : List X)
    → ((x y : X) → Contains xs x → Contains xs y → R x y → S (f x) (f y)) → AllLater R xs → AllLater S (map f xs)
later_map R S f [] related h = tt
later_map R S f (x ∷ xs) related h = (
  λ y c. (let (z, there, is) = Contains-from_map f xs y c in
      subst (S (f x)) is (related x z (contains_first x xs) (contains_later z x xs there) (h.0 z there))),
  later_map R S f xs (λ y z a b. related y z (contains_later y x xs a) (contains_later z x xs b)) h.1,
)

pub later_filter_map : {X Y : Type 0} (R : X → X → Type 0) (S : Y → Y → Type 0) (f : X → Option Y) (xs : List X)
    → ((x y : X) (v w : Y) → Contains xs x → Contains xs y → R x y → f x ≡ Some v → f y ≡ Some w → S v w)
    → AllLater R xs → AllLater S (filter_map f xs)
later_filter_map R S f [] related h = tt
later_filter_map {X} {Y} R S f (x ∷ xs) related h =
    by (f x) refl (later_filter_map R S f xs (λ y z v w a b. related y z v w (contains_later y x xs a) (contains_later z x xs b)) h.1)
  where
    by : (o : Option Y) → f x ≡ o → AllLater S (filter_map f xs) → AllLater S (cons_option o (filter_map f xs))
    by None is rest = rest
    by (Some v) is rest = (
      λ w c. (let (z, there, same) = from_filter_map f xs w c in
          related x z v w (contains_first x xs) (contains_later z x xs there) (h.0 z there) is same),
      rest,
    )

pub later_append : {X : Type 0} (R : X → X → Type 0) (xs ys : List X) → AllLater R xs → AllLater R ys
    → ((x y : X) → Contains xs x → Contains ys y → R x y) → AllLater R (xs ++ ys)
later_append R [] ys a b across = b
later_append {X} R (x ∷ xs) ys a b across = (
  λ y c. by y (Contains-append_cases xs ys y c),
  later_append R xs ys a.1 b (λ z y c d. across z y (contains_later z x xs c) d),
)
  where
    by : (y : X) → Contains xs y ⊎ Contains ys y → R x y
    by y (inl there) = a.0 y there
    by y (inr there) = across x y (contains_first x xs) there

pub in_taken : {X : Type 0} (n : ℕ) (xs : List X) (x : X) → Contains (take n xs) x → Contains xs x
in_taken zero [] x c = c
in_taken zero (y ∷ ys) x c = absurd (nothing_in x c)
in_taken (suc n) [] x c = c
in_taken (suc n) (y ∷ ys) x (zero, within, is) = (zero, omega arith, is)
in_taken (suc n) (y ∷ ys) x (suc k, within, is) = contains_later x y ys (in_taken n ys x (k, omega (arith, within), is))

pub later_take : {X : Type 0} (R : X → X → Type 0) (n : ℕ) (xs : List X) → AllLater R xs → AllLater R (take n xs)
later_take R zero [] h = tt
later_take R zero (x ∷ xs) h = tt
later_take R (suc n) [] h = tt
later_take R (suc n) (x ∷ xs) h = (λ y c. h.0 y (in_taken n xs y c), later_take R n xs h.1)

-- two places of one element are one
pub one_place : {X : Type 0} (xs : List X) (i j : ℕ) (d : X) → AllLater (λ (x y : X). x ≢ y) xs → i < length xs → j < length xs
    → get_or xs i d ≡ get_or xs j d → i ≡ j
one_place {X} xs i j d once a b same =
    let apart = pairs_later (λ (x y : X). x ≢ y) xs once in
    elim (cases_lt i j) [
      | inl less ↦ absurd (apart i j d less b same)
      | inr le ↦ elim (cases_lt j i) [
        | inl more ↦ absurd (apart j i d more a (sym same))
        | inr ge ↦ omega (arith, le, ge)
      ]
    ]

-- ---- numbers in a row

pub within_range : (first count n : ℕ) → Contains (range_with_len first count) n → (first ≤ n) × (n < first + count)
within_range first zero n c = absurd (nothing_in n c)
within_range first (suc count) n c = elim (here_or_later first n (range_with_len (first + 1) count) c) [
  | inl same ↦ (omega (arith, same), omega (arith, same))
  | inr there ↦ (let (low, high) = within_range (first + 1) count n there in (omega (arith, low), omega (arith, high)))
]

pub range_later : (first count : ℕ) → AllLater (λ (i j : ℕ). i < j) (range_with_len first count)
range_later first zero = tt
range_later first (suc count) = (λ n c. (let bounds = within_range (first + 1) count n c in omega (arith, bounds.0)), range_later (first + 1) count)
