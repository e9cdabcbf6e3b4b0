-- Top relations put in the order of their strata.
use Rattle.std.specs.Prelude.{◌≡◌, ◌≢◌, ◌<◌, ◌≤◌, ◌+◌, ℕ, zero, suc, Bool, true, false, ◌&&◌, List, [], ◌∷◌, ◌++◌, length, Some, slice_get, slice_index_or, Contains, AllPairs, take, if◌then◌else◌}
use Rattle.std.specs.List.Sorted.{IsPermutation, IsNonDecreasingBy}
use Rattle.std.proofs.Common.{refl, sym, ap, subst, ◌∙◌, inl, inr, arith}
use Rattle.std.proofs.lemmas.Bool.{and_parts}
use Rattle.std.proofs.lemmas.List.{length-map, get_or-map, get_or-take, get_or_default, length-take-le, take-map, map_more}
use Rattle.std.proofs.lemmas.List.Elements.{Contains-get_or, Contains-append_left, Contains-append_right, Contains-append_cases}
use Rattle.std.proofs.lemmas.List.Sorted.{Contains-permutation, IsPermutation-map, IsPermutation-sym}
use Rattle.std.proofs.lemmas.Option.{same_Some}
use Rattle.link_arena.proofs.Orders.{AllPairs-permutation}
use Rattle.mof_metamodel.proofs.Facts.{nothing_in, contains_first, contains_map}
use Rattle.qv_syntax.specs.declared.program.Program.{Program}
use Rattle.qv_syntax.specs.declared.program.Rel.{Rel}
use Rattle.qvtr_semantics.specs.Satisfaction.{IsTop}
use Rattle.entry_bindings.proofs.ListLaws.{mapped_from}
use Rattle.entry_bindings.proofs.PairLaws.{AllLater, pairs_from_later}
use Rattle.entry_tops.specs.declared.ranked.Ranked.{Ranked}
use Rattle.entry_tops.specs.TopOrder.{is_top, ranked_if_top, ranked_from, numbers_of, IsNoHigher, AreTopsInOrder}

abbrev ranked : ℕ → ℕ → Ranked
ranked stratum number = record { stratum = stratum; number = number }

-- ---- which relations are ranked

-- the relation that is ranked
pub record IsRanked (rels : List Rel) (start : ℕ) (r : Ranked) : Type 0 where
  pub place : ℕ
  pub rel : Rel
  pub at : slice_get rels place ≡ Some rel
  pub number : r.number ≡ start + place
  pub top : is_top rel ≡ true
  pub stratum : r.stratum ≡ rel.stratum

later_ranked : (rel : Rel) (rels : List Rel) (start : ℕ) (r : Ranked) → IsRanked rels (start + 1) r → IsRanked (rel ∷ rels) start r
later_ranked rel rels start r is = record { place = suc (is.place); rel = is.rel; at = is.at; number = omega (arith, is.number); top = is.top; stratum = is.stratum }

first_ranked : (rel : Rel) (rels : List Rel) (start : ℕ) (r : Ranked) (b : Bool) → is_top rel ≡ b → Contains (if b then ranked rel.stratum start ∷ [] else []) r → IsRanked (rel ∷ rels) start r
first_ranked rel rels start r true is (zero, less, same) =
    record { place = 0; rel = rel; at = refl; number = sym (ap (λ (x : Ranked). x.number) same) ∙ omega arith; top = is; stratum = sym (ap (λ (x : Ranked). x.stratum) same) }
first_ranked rel rels start r true is (suc k, less, same) = absurd (omega (arith, less))
first_ranked rel rels start r false is there = absurd (nothing_in r there)

pub ranked_is : (rels : List Rel) (start : ℕ) (r : Ranked) → Contains (ranked_from start rels) r → IsRanked rels start r
ranked_is [] start r there = absurd (nothing_in r there)
ranked_is (rel ∷ rels) start r there =
    elim (Contains-append_cases (ranked_if_top start rel) (ranked_from (start + 1) rels) r there) [
      | inl here ↦ first_ranked rel rels start r (is_top rel) refl here
      | inr later ↦ later_ranked rel rels start r (ranked_is rels (start + 1) r later)
    ]

top_there : (rel : Rel) (start : ℕ) (b : Bool) → is_top rel ≡ b → b ≡ true → Contains (if b then ranked rel.stratum start ∷ [] else []) (ranked rel.stratum start)
top_there rel start true is top = contains_first (ranked rel.stratum start) []
top_there rel start false is top = absurd (cc)

pub is_ranked : (rels : List Rel) (start place : ℕ) (rel : Rel) → slice_get rels place ≡ Some rel → is_top rel ≡ true → Contains (ranked_from start rels) (ranked rel.stratum (start + place))
is_ranked [] start place rel at top = absurd (cc)
is_ranked (r ∷ rels) start zero rel at top =
    let same : r ≡ rel = same_Some r rel at in
    let number : start ≡ start + 0 = omega arith in
    let there = Contains-append_left (ranked_if_top start r) (ranked_from (start + 1) rels) (ranked r.stratum start) (top_there r start (is_top r) refl (ap is_top same ∙ top)) in
    subst (λ n. Contains (ranked_from start (r ∷ rels)) (ranked rel.stratum n)) number
    (subst (λ (x : Rel). Contains (ranked_from start (r ∷ rels)) (ranked x.stratum start)) same there)
is_ranked (r ∷ rels) start (suc k) rel at top =
    let number : (start + 1) + k ≡ start + suc k = omega arith in
    Contains-append_right (ranked_if_top start r) (ranked_from (start + 1) rels) (ranked rel.stratum (start + suc k))
    (subst (λ n. Contains (ranked_from (start + 1) rels) (ranked rel.stratum n)) number (is_ranked rels (start + 1) k rel at top))

-- ---- each once

low : (rels : List Rel) (start n : ℕ) → Contains (numbers_of (ranked_from start rels)) n → start ≤ n
low rels start n there =
    let (r, within, is) = mapped_from (λ (x : Ranked). x.number) (ranked_from start rels) n there in
    let number = (ranked_is rels start r within).number in
    omega (arith, number, is)

apart : (rels : List Rel) (start : ℕ) → AllLater (λ m n. m ≢ n) (numbers_of (ranked_from start rels))
apart [] start = tt
apart (rel ∷ rels) start = by (is_top rel) (apart rels (start + 1))
  where
    by : (b : Bool) → AllLater (λ m n. m ≢ n) (numbers_of (ranked_from (start + 1) rels))
        → AllLater (λ m n. m ≢ n) (numbers_of ((if b then ranked rel.stratum start ∷ [] else []) ++ ranked_from (start + 1) rels))
    by true rest = (λ n there same. let most = low rels (start + 1) n there in absurd (omega (arith, most, same)), rest)
    by false rest = rest

-- ---- in order

module _ (program : Program) (rs : List Ranked) (same : IsPermutation (ranked_from 0 program.rels) rs) (sorted : IsNonDecreasingBy (λ r. r.stratum) rs) where
  is : (r : Ranked) → Contains rs r → IsRanked program.rels 0 r
  is r there = ranked_is program.rels 0 r (Contains-permutation rs (ranked_from 0 program.rels) r (IsPermutation-sym (ranked_from 0 program.rels) rs same) there)

  found : (r : Ranked) (x : IsRanked program.rels 0 r) → slice_get program.rels r.number ≡ Some x.rel
  found r x = let number : r.number ≡ x.place = omega (arith, x.number) in ap (slice_get program.rels) number ∙ x.at

  top : (r : Ranked) (x : IsRanked program.rels 0 r) → IsTop program r.number x.rel
  top r x = let both = and_parts (x.rel).top (x.rel).in_direction x.top in record { is = found r x; top = both.0; in_direction = both.1 }

  both_true : (a b : Bool) → a ≡ true → b ≡ true → a && b ≡ true
  both_true true b h k = k
  both_true false b h k = absurd (cc)

  only : (n : ℕ) → Contains (numbers_of rs) n → (rel : Rel) × IsTop program n rel
  only n there =
      let (r, within, at) = mapped_from (λ (x : Ranked). x.number) rs n there in
      let x = is r within in
      (x.rel, subst (λ k. IsTop program k x.rel) at (top r x))

  all : (n : ℕ) (rel : Rel) → IsTop program n rel → Contains (numbers_of rs) n
  all n rel t =
      let there = is_ranked program.rels 0 n rel t.is (both_true rel.top rel.in_direction t.top t.in_direction) in
      let number : 0 + n ≡ n = omega arith in
      subst (Contains (numbers_of rs)) number (contains_map (λ (x : Ranked). x.number) rs (ranked rel.stratum (0 + n)) (Contains-permutation (ranked_from 0 program.rels) rs (ranked rel.stratum (0 + n)) same there))

  once : AllPairs (λ m n. m ≢ n) (numbers_of rs)
  once =
      AllPairs-permutation (numbers_of (ranked_from 0 program.rels)) (numbers_of rs) (IsPermutation-map (λ (x : Ranked). x.number) (ranked_from 0 program.rels) rs same)
      (pairs_from_later (λ m n. m ≢ n) (numbers_of (ranked_from 0 program.rels)) (apart program.rels 0))

  within_at : (xs : List Ranked) (k : ℕ) (d : Ranked) → k < length xs → Contains xs (slice_index_or xs k d)
  within_at [] k d less = absurd (omega (arith, less))
  within_at (x ∷ xs) zero d less = contains_first x xs
  within_at (x ∷ xs) (suc k) d less = let (i, below, at) = within_at xs k d (omega (arith, less)) in (suc i, omega (arith, below), at)

  ordered : AllPairs (IsNoHigher program) (numbers_of rs)
  ordered i j d before less a b at_a at_b =
      let long = length-map rs (λ (x : Ranked). x.number) in
      let e : Ranked = ranked 0 d in
      let j_less : j < length rs = omega (arith, less, long) in
      let i_less : i < length rs = omega (arith, j_less, before) in
      let r = slice_index_or rs i e in
      let s = slice_index_or rs j e in
      let x = is r (within_at rs i e i_less) in
      let y = is s (within_at rs j e j_less) in
      let r_is : slice_index_or (numbers_of rs) i d ≡ r.number = get_or-map (λ (z : Ranked). z.number) rs i e d i_less in
      let s_is : slice_index_or (numbers_of rs) j d ≡ s.number = get_or-map (λ (z : Ranked). z.number) rs j e d j_less in
      let one : x.rel ≡ a = same_Some x.rel a (sym (found r x) ∙ ap (slice_get program.rels) (sym r_is) ∙ at_a) in
      let other : y.rel ≡ b = same_Some y.rel b (sym (found s y) ∙ ap (slice_get program.rels) (sym s_is) ∙ at_b) in
      let up : r.stratum ≤ s.stratum = sorted i j e (omega (arith, before)) j_less in
      let lower = x.stratum ∙ ap (λ (z : Rel). z.stratum) one in
      let upper = y.stratum ∙ ap (λ (z : Rel). z.stratum) other in
      omega (arith, up, lower, upper)

  pub in_order : AreTopsInOrder program (numbers_of rs)
  in_order = record { only = only; all = all; once = once; ordered = ordered }

-- ---- what stands before a place

-- each element before a place stands so to the one there
pub stands_before : {X : Type 0} (R : X → X → Type 0) (xs : List X) (i : ℕ) (d : X) → i < length xs → AllPairs R xs → (x : X) → Contains (take i xs) x → R x (slice_index_or xs i d)
stands_before R xs i d less pairs x (k, within, is) =
    let long : length (take i xs) ≡ i = length-take-le i xs (omega (arith, less)) in
    let before : k < i = omega (arith, within, long) in
    let same : slice_index_or xs k d ≡ x = get_or_default xs k d x (omega (arith, before, less)) ∙ sym (get_or-take i xs k x before) ∙ is in
    subst (λ y. R y (slice_index_or xs i d)) same (pairs k i d before less)

-- ---- the next relation

module _ (program : Program) (order : List Ranked) (is : AreTopsInOrder program (numbers_of order)) (i : ℕ) (d : Ranked) (below : i < length order) where
  abbrev number : ℕ
  number = (slice_index_or order i d).number

  at : slice_index_or (numbers_of order) i d.number ≡ number
  at = get_or-map (λ (x : Ranked). x.number) order i d d.number below

  place : i < length (numbers_of order)
  place = omega (arith, below, length-map order (λ (x : Ranked). x.number))

  taken : (m : ℕ) → Contains (numbers_of (take i order)) m → Contains (take i (numbers_of order)) m
  taken m there = subst (λ (ns : List ℕ). Contains ns m) (sym (take-map (λ (x : Ranked). x.number) i order)) there

  -- it is top
  pub next_top : (rel : Rel) × IsTop program number rel
  next_top = is.only number (subst (Contains (numbers_of order)) at (Contains-get_or (numbers_of order) i d.number place))

  -- it has no lesser stratum than those before it, and isn't among them
  pub next_higher : (m : ℕ) → Contains (numbers_of (take i order)) m → IsNoHigher program m number
  next_higher m there = subst (IsNoHigher program m) at (stands_before (IsNoHigher program) (numbers_of order) i d.number place is.ordered m (taken m there))

  pub next_new : (m : ℕ) → Contains (numbers_of (take i order)) m → m ≢ number
  next_new m there = subst (λ n. m ≢ n) at (stands_before (λ k n. k ≢ n) (numbers_of order) i d.number place is.once m (taken m there))

  pub next_done : numbers_of (take (i + 1) order) ≡ numbers_of (take i order) ++ number ∷ []
  next_done = map_more (λ (x : Ranked). x.number) order i d below
