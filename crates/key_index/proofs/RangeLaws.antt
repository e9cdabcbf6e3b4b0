-- What stands between two searches in halves: in a list in order, whose order begins with that of a key, the elements of one key.
use Rattle.std.specs.Prelude.{◌≡◌, ◌⊎◌, ◌<◌, ◌≤◌, ℕ, zero, suc, Bool, true, false, ◌&&◌, not, List, [], ◌∷◌, filter, length, take, drop, cond}
use Rattle.std.specs.Cmp.{IsTotalOrder}
use Rattle.std.specs.List.{AllByRecursion}
use Rattle.std.specs.List.Sorted.{IsStrictlySortedBy, IsPartitionedBy, IsPartitionPoint}
use Rattle.std.specs.Ordering.{ordering_then, is_eq, is_lt, is_le, is_gt}
use Rattle.std.specs.declared.cmp.Ordering.{Ordering}
use Rattle.std.specs.declared.cmp.Ordering.TheVariants.{Less, Equal, Greater}
use Rattle.std.proofs.Common.{refl, sym, ap, ◌∙◌, subst, arith, inl, inr, get_or}
use Rattle.std.proofs.lemmas.Cmp.{upto}
use Rattle.std.proofs.lemmas.List.Kept.{IsStrictlySortedBy-filter}

-- a list that is filtered twice
filtered_twice : {X : Type 0} (p q r : X → Bool) → ((x : X) → (p x && q x) ≡ r x) → (xs : List X) → filter q (filter p xs) ≡ filter r xs
filtered_twice p q r is [] = refl
filtered_twice {X} p q r is (x ∷ xs) =
    by (p x) ∙ ap (λ b. cond b (x ∷ filter q (filter p xs)) (filter q (filter p xs))) (is x)
    ∙ ap (λ ys. cond (r x) (x ∷ ys) ys) (filtered_twice p q r is xs)
  where
    by : (a : Bool) → filter q (cond a (x ∷ filter p xs) (filter p xs)) ≡ cond (a && q x) (x ∷ filter q (filter p xs)) (filter q (filter p xs))
    by true = refl
    by false = refl

-- a test that passes before each element that passes parts a list in order
parted : {X : Type 0} (order : X → X → Ordering) (p : X → Bool) → ((x y : X) → order x y ≡ Less → p y ≡ true → p x ≡ true) → (xs : List X)
    → IsStrictlySortedBy order xs → IsPartitionedBy p xs
unfolding IsStrictlySortedBy
parted order p before [] up i j d least within h = absurd (omega arith)
parted order p before (x ∷ xs) up zero zero d least within h = h
parted {X} order p before (x ∷ xs) up zero (suc j) d least within h = first xs j up.0 (omega arith) h
  where
    first : (ys : List X) (k : ℕ) → AllByRecursion (λ y. order x y ≡ Less) ys → k < length ys → p (get_or ys k d) ≡ true → p x ≡ true
    first [] k a l g = absurd (omega (arith, l))
    first (y ∷ ys) zero a l g = before x y a.0 g
    first (y ∷ ys) (suc k) a l g = first ys k a.1 (omega (arith, l)) g
parted order p before (x ∷ xs) up (suc i) zero d least within h = absurd (omega arith)
parted order p before (x ∷ xs) up (suc i) (suc j) d least within h = parted order p before xs up.1 i j d (omega arith) (omega arith) h

module _ {X : Type 0} (p : X → Bool) where
  none_pass : (xs : List X) → ((k : ℕ) (d : X) → k < length xs → p (get_or xs k d) ≡ false) → filter p xs ≡ []
  none_pass [] h = refl
  none_pass (x ∷ xs) h =
      ap (λ b. cond b (x ∷ filter p xs) (filter p xs)) (h 0 x (omega arith)) ∙ none_pass xs (λ k d l. h (suc k) d (omega (arith, l)))

  all_fail : (xs : List X) → ((k : ℕ) (d : X) → k < length xs → p (get_or xs k d) ≡ false) → filter (λ x. not (p x)) xs ≡ xs
  all_fail [] h = refl
  all_fail (x ∷ xs) h =
      ap (λ b. cond (not b) (x ∷ filter (λ x. not (p x)) xs) (filter (λ x. not (p x)) xs)) (h 0 x (omega arith))
      ∙ ap (λ ys. x ∷ ys) (all_fail xs (λ k d l. h (suc k) d (omega (arith, l))))

  abbrev IsPoint : List X → ℕ → Type 0
  IsPoint xs i = IsPartitionPoint (λ y. p y ≡ true) (λ y. p y ≡ false) xs i

  next_point : (x : X) (xs : List X) (i : ℕ) → IsPoint (x ∷ xs) (suc i) → IsPoint xs i
  next_point x xs i point = (
    λ k d low high. point.0 (suc k) d (omega arith) (omega (arith, high)),
    λ k d low high. point.1 (suc k) d (omega (arith, low)) (omega (arith, high)),
  )

  -- the elements before the point pass
  before_point : (xs : List X) (i : ℕ) → i ≤ length xs → IsPoint xs i → take i xs ≡ filter p xs
  before_point [] zero l point = refl
  before_point [] (suc i) l point = absurd (omega (arith, l))
  before_point (x ∷ xs) zero l point = sym (none_pass (x ∷ xs) (λ k d below. point.1 k d (omega arith) below))
  before_point (x ∷ xs) (suc i) l point =
      ap (λ ys. x ∷ ys) (before_point xs i (omega (arith, l)) (next_point x xs i point))
      ∙ sym (ap (λ b. cond b (x ∷ filter p xs) (filter p xs)) (point.0 0 x (omega arith) (omega arith)))

  -- those from it on fail
  pub from_point : (xs : List X) (i : ℕ) → i ≤ length xs → IsPoint xs i → drop i xs ≡ filter (λ x. not (p x)) xs
  from_point [] zero l point = refl
  from_point [] (suc i) l point = absurd (omega (arith, l))
  from_point (x ∷ xs) zero l point = sym (all_fail (x ∷ xs) (λ k d below. point.1 k d (omega arith) below))
  from_point (x ∷ xs) (suc i) l point =
      from_point xs i (omega (arith, l)) (next_point x xs i point)
      ∙ sym (ap (λ b. cond (not b) (x ∷ filter (λ x. not (p x)) xs) (filter (λ x. not (p x)) xs)) (point.0 0 x (omega arith) (omega arith)))

-- ---- elements of one key

module _ {X K : Type 0} (key : X → K) (order : K → K → Ordering) (total : IsTotalOrder order) (later : X → X → Ordering) (k : K) where
  -- by the key, and then by what comes later
  abbrev by_key : X → X → Ordering
  by_key x y = ordering_then (order (key x) (key y)) (later x y)

  -- how the key of an element stands to this one
  abbrev stands : X → Ordering
  stands x = order (key x) k

  abbrev pub is_before : X → Bool
  is_before x = is_lt (stands x)

  abbrev pub is_not_behind : X → Bool
  is_not_behind x = is_le (stands x)

  -- the key of the earlier of two elements is earlier, or the same
  earlier : (x y : X) → by_key x y ≡ Less → (stands x ≡ stands y) ⊎ (order (key x) (key y) ≡ Less)
  earlier x y less = by (order (key x) (key y)) refl less
    where
      by : (o : Ordering) → order (key x) (key y) ≡ o → ordering_then o (later x y) ≡ Less → (stands x ≡ stands y) ⊎ (order (key x) (key y) ≡ Less)
      by Less is h = inr is
      by Equal is h = inl (total.congr (key x) (key y) k is)
      by Greater is h = absurd (cc)

  before_too : (x y : X) → by_key x y ≡ Less → is_before y ≡ true → is_before x ≡ true
  before_too x y less h = by (earlier x y less)
    where
      is_less : (o : Ordering) → is_lt o ≡ true → o ≡ Less
      is_less Less g = refl
      is_less Equal g = absurd (cc)
      is_less Greater g = absurd (cc)

      by : (stands x ≡ stands y) ⊎ (order (key x) (key y) ≡ Less) → is_before x ≡ true
      by (inl same) = ap is_lt same ∙ h
      by (inr below) = ap is_lt (total.trans (key x) (key y) k below (is_less (stands y) h))

  not_behind_too : (x y : X) → by_key x y ≡ Less → is_not_behind y ≡ true → is_not_behind x ≡ true
  not_behind_too x y less h = by (earlier x y less)
    where
      gt_of : (o : Ordering) → is_le o ≡ true → is_gt o ≡ false
      gt_of Less g = refl
      gt_of Equal g = refl
      gt_of Greater g = absurd (cc)

      le_of : (o : Ordering) → is_gt o ≡ false → is_le o ≡ true
      le_of Less g = refl
      le_of Equal g = refl
      le_of Greater g = absurd (cc)

      by : (stands x ≡ stands y) ⊎ (order (key x) (key y) ≡ Less) → is_not_behind x ≡ true
      by (inl same) = ap is_le same ∙ h
      by (inr below) = le_of (stands x) (upto total (key x) (key y) k (ap is_gt below) (gt_of (stands y) h))

  module _ (xs : List X) (up : IsStrictlySortedBy by_key xs) where
    pub first_parted : IsPartitionedBy is_before xs
    first_parted = parted by_key is_before before_too xs up

    module _ (first : ℕ) (within : first ≤ length xs) (at : IsPartitionPoint (λ x. is_before x ≡ true) (λ x. is_before x ≡ false) xs first) where
      rest_is : drop first xs ≡ filter (λ x. not (is_before x)) xs
      rest_is = from_point is_before xs first within at

      rest_parted : IsPartitionedBy is_not_behind (drop first xs)
      rest_parted =
          parted by_key is_not_behind not_behind_too (drop first xs)
          (subst (IsStrictlySortedBy by_key) (sym rest_is) (IsStrictlySortedBy-filter by_key (λ x. not (is_before x)) xs up))

      there : (x : X) → (not (is_before x) && is_not_behind x) ≡ is_eq (stands x)
      there x = by (stands x)
        where
          by : (o : Ordering) → (not (is_lt o) && is_le o) ≡ is_eq o
          by Less = refl
          by Equal = refl
          by Greater = refl

      found_there : (count : ℕ) → count ≤ length (drop first xs)
          → IsPartitionPoint (λ x. is_not_behind x ≡ true) (λ x. is_not_behind x ≡ false) (drop first xs) count
          → take count (drop first xs) ≡ filter (λ x. is_eq (stands x)) xs
      found_there count few point =
          before_point is_not_behind (drop first xs) count few point ∙ ap (filter is_not_behind) rest_is
          ∙ filtered_twice (λ x. not (is_before x)) is_not_behind (λ x. is_eq (stands x)) there xs

      -- the elements of the key, from what is behind those before it
      pub found : (rest : List X) → rest ≡ drop first xs → (count : ℕ) → count ≤ length rest
          → (IsPartitionedBy is_not_behind rest → IsPartitionPoint (λ x. is_not_behind x ≡ true) (λ x. is_not_behind x ≡ false) rest count)
          → take count rest ≡ filter (λ x. is_eq (stands x)) xs
      found rest is count few point =
          let same : List X → Type 0 = λ ys. IsPartitionPoint (λ x. is_not_behind x ≡ true) (λ x. is_not_behind x ≡ false) ys count in
          ap (take count) is
          ∙ found_there count (subst (λ ys. count ≤ length ys) is few)
          (subst same is (point (subst (IsPartitionedBy is_not_behind) (sym is) rest_parted)))
