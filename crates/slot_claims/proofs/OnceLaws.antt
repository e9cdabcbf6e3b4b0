-- A list in order in which each element of another one stands once is that one's elements in order, each once; so that depends on which
-- elements there are alone.
use Rattle.std.specs.Prelude.{◌≡◌, ◌⊎◌, zero, suc, List, [], ◌∷◌, map, Contains}
use Rattle.std.specs.Cmp.{IsTotalOrder}
use Rattle.std.specs.FinMap.{IsAntisymmetric}
use Rattle.std.specs.List.{AllByRecursion}
use Rattle.std.specs.List.Sorted.{IsStrictlySortedBy}
use Rattle.std.specs.Ordering.{match_ordering, ordering_reverse}
use Rattle.std.specs.declared.cmp.Ordering.{Ordering}
use Rattle.std.specs.declared.cmp.Ordering.TheVariants.{Less, Equal, Greater}
use Rattle.std.proofs.Common.{refl, sym, ap, ◌∙◌, subst, arith, inl, inr}
use Rattle.mof_metamodel.proofs.Facts.{contains_first, contains_map, nothing_in}
use Rattle.object_tables.proofs.ListLemmas.{Contains-from_map}
use Rattle.template_match.specs.Each.{IsEachOnce}
use Rattle.template_match.proofs.ListLaws.{contains_later}
use Rattle.repair_semantics.specs.Terms.{placed_by, each_once}
use Rattle.repair_semantics.proofs.EntryOrderLaws.{sorted_once}

pub contains_cases : {X : Type 0} (x y : X) (xs : List X) → Contains (y ∷ xs) x → (y ≡ x) ⊎ Contains xs x
contains_cases x y xs (zero, within, is) = inl is
contains_cases x y xs (suc k, within, is) = inr (k, omega (arith, within), is)

-- the lists have the same elements
pub record HaveSame {X : Type 0} (xs ys : List X) : Type 0 where
  pub there : (x : X) → Contains xs x → Contains ys x
  pub back : (x : X) → Contains ys x → Contains xs x

module _ {X : Type 0} (order : X → X → Ordering) (total : IsTotalOrder order) (exact : IsAntisymmetric order) where
  placed_all : (P : X → Type 0) (x : X) (ys : List X) → P x → AllByRecursion P ys → AllByRecursion P (placed_by order x ys)
  placed_all P x [] p a = (p, tt)
  placed_all P x (y ∷ ys) p a =
      elim (order x y) as (λ o. AllByRecursion P (match_ordering o (x ∷ y ∷ ys) (y ∷ ys) (y ∷ placed_by order x ys))) [
        | Less ↦ (p, a)
        | Equal ↦ a
        | Greater ↦ (a.0, placed_all P x ys p a.1)
      ]

  further : (x y : X) (ys : List X) → order x y ≡ Less → AllByRecursion (λ z. order y z ≡ Less) ys → AllByRecursion (λ z. order x z ≡ Less) ys
  further x y [] h a = tt
  further x y (z ∷ ys) h a = (total.trans x y z h a.0, further x y ys h a.1)

  placed_sorted : (x : X) (ys : List X) → IsStrictlySortedBy order ys → IsStrictlySortedBy order (placed_by order x ys)
  unfolding IsStrictlySortedBy
  placed_sorted x [] up = (tt, tt)
  placed_sorted x (y ∷ ys) up = by (order x y) refl (placed_sorted x ys up.1)
    where
      by : (o : Ordering) → order x y ≡ o → IsStrictlySortedBy order (placed_by order x ys)
          → IsStrictlySortedBy order (match_ordering o (x ∷ y ∷ ys) (y ∷ ys) (y ∷ placed_by order x ys))
      by Less is rest = ((is, further x y ys is up.0), up)
      by Equal is rest = up
      by Greater is rest = (placed_all (λ z. order y z ≡ Less) x ys (total.antisymm y x ∙ ap ordering_reverse is) up.0, rest)

  placed_has : (x : X) (ys : List X) → Contains (placed_by order x ys) x
  placed_has x [] = contains_first x []
  placed_has x (y ∷ ys) = by (order x y) refl (placed_has x ys)
    where
      by : (o : Ordering) → order x y ≡ o → Contains (placed_by order x ys) x
          → Contains (match_ordering o (x ∷ y ∷ ys) (y ∷ ys) (y ∷ placed_by order x ys)) x
      by Less is rest = contains_first x (y ∷ ys)
      by Equal is rest = subst (λ z. Contains (y ∷ ys) z) (sym (exact x y is)) (contains_first y ys)
      by Greater is rest = contains_later x y (placed_by order x ys) rest

  placed_keeps : (x z : X) (ys : List X) → Contains ys z → Contains (placed_by order x ys) z
  placed_keeps x z [] c = absurd (nothing_in z c)
  placed_keeps x z (y ∷ ys) c =
      elim (order x y) as (λ o. Contains (match_ordering o (x ∷ y ∷ ys) (y ∷ ys) (y ∷ placed_by order x ys)) z) [
        | Less ↦ contains_later z x (y ∷ ys) c
        | Equal ↦ c
        | Greater ↦
            elim (contains_cases z y ys c) [
              | inl is ↦ subst (λ w. Contains (y ∷ placed_by order x ys) w) is (contains_first y (placed_by order x ys))
              | inr later ↦ contains_later z y (placed_by order x ys) (placed_keeps x z ys later)
            ]
      ]

  placed_only : (x z : X) (ys : List X) → Contains (placed_by order x ys) z → (x ≡ z) ⊎ Contains ys z
  placed_only x z [] c = contains_cases z x [] c
  placed_only x z (y ∷ ys) c = by (order x y) (placed_only x z ys) c
    where
      by : (o : Ordering) → (Contains (placed_by order x ys) z → (x ≡ z) ⊎ Contains ys z)
          → Contains (match_ordering o (x ∷ y ∷ ys) (y ∷ ys) (y ∷ placed_by order x ys)) z
          → (x ≡ z) ⊎ Contains (y ∷ ys) z
      by Less rest d = contains_cases z x (y ∷ ys) d
      by Equal rest d = inr d
      by Greater rest d =
          elim (contains_cases z y (placed_by order x ys) d) [
            | inl is ↦ inr (subst (λ w. Contains (y ∷ ys) w) is (contains_first y ys))
            | inr later ↦ elim (rest later) [ inl is ↦ inl is | inr there ↦ inr (contains_later z y ys there) ]
          ]

  pub once_sorted : (xs : List X) → IsStrictlySortedBy order (each_once order xs)
  unfolding IsStrictlySortedBy
  once_sorted [] = tt
  once_sorted (x ∷ xs) = placed_sorted x (each_once order xs) (once_sorted xs)

  once_has : (xs : List X) (z : X) → Contains xs z → Contains (each_once order xs) z
  once_has [] z c = absurd (nothing_in z c)
  once_has (x ∷ xs) z c =
      elim (contains_cases z x xs c) [
        | inl is ↦ subst (λ w. Contains (placed_by order x (each_once order xs)) w) is (placed_has x (each_once order xs))
        | inr later ↦ placed_keeps x z (each_once order xs) (once_has xs z later)
      ]

  once_only : (xs : List X) (z : X) → Contains (each_once order xs) z → Contains xs z
  once_only [] z c = absurd (nothing_in z c)
  once_only (x ∷ xs) z c =
      elim (placed_only x z (each_once order xs) c) [
        | inl is ↦ subst (λ w. Contains (x ∷ xs) w) is (contains_first x xs)
        | inr later ↦ contains_later z x xs (once_only xs z later)
      ]

  pub once_same : (xs : List X) → HaveSame (each_once order xs) xs
  once_same xs = record { there = once_only xs; back = once_has xs }

  -- a list in order is its own elements in order
  pub sorted_is_once : (xs ys : List X) → IsStrictlySortedBy order ys → HaveSame xs ys → ys ≡ each_once order xs
  sorted_is_once xs ys up same =
      sorted_once order (λ x y. total.antisymm x y) ys (each_once order xs) up (once_sorted xs) (λ x c. once_has xs x (same.back x c))
      (λ x c. same.there x (once_only xs x c))

  -- the same elements give the same list
  pub once_alike : (xs ys : List X) → HaveSame xs ys → each_once order xs ≡ each_once order ys
  once_alike xs ys same =
      sorted_is_once ys (each_once order xs) (once_sorted xs)
      (record { there = λ x c. once_has xs x (same.back x c); back = λ x c. same.there x (once_only xs x c) })

  -- ---- by what elements stand for

  module _ {Y : Type 0} (f : Y → X) where
    pub mapped_sorted : (ys : List Y) → IsStrictlySortedBy (λ y z. order (f y) (f z)) ys → IsStrictlySortedBy order (map f ys)
    unfolding IsStrictlySortedBy
    mapped_sorted [] up = tt
    mapped_sorted (y ∷ ys) up = (first ys up.0, mapped_sorted ys up.1)
      where
        first : (zs : List Y) → AllByRecursion (λ z. order (f y) (f z) ≡ Less) zs → AllByRecursion (λ z. order (f y) z ≡ Less) (map f zs)
        first [] a = tt
        first (z ∷ zs) a = (a.0, first zs a.1)

    mapped_same : (xs ys : List Y) → IsEachOnce (λ y z. order (f y) (f z)) xs ys → HaveSame (map f xs) (map f ys)
    mapped_same xs ys each = record {
      there = λ x c.
          let found = Contains-from_map f xs x c in
          let other = each.all found.0 found.1 in
          subst (Contains (map f ys)) (sym (exact (f found.0) (f other.0) other.2) ∙ found.2) (contains_map f ys other.0 other.1);
      back = λ x c.
          let found = Contains-from_map f ys x c in
          subst (Contains (map f xs)) found.2 (contains_map f xs found.0 (each.only found.0 found.1));
    }

    pub mapped_once : (xs ys : List Y) → IsEachOnce (λ y z. order (f y) (f z)) xs ys → map f ys ≡ each_once order (map f xs)
    mapped_once xs ys each = sorted_is_once (map f xs) (map f ys) (mapped_sorted ys each.sorted) (mapped_same xs ys each)
