-- Membership and difference by recursion. Definitions and contracts say `Contains` and `AllPairs`; here stands what ties the two.
use Rattle.std.proofs.Common.{◌≡◌, ◌≢◌, ℕ, zero, suc, ◌<◌, ◌⊎◌, List, [], ◌∷◌, length, get_or, sym, subst, arith, inl, inr}
use Rattle.std.specs.Prelude.{Contains, AllPairs}
use Rattle.link_arena.specs.declared.half.Half.{Half}
use Rattle.link_arena.specs.declared.half.Head.{Head}
use Rattle.link_arena.specs.Threads.{IsThread}
use Rattle.link_arena.specs.Lists.{list_at, owner_at, IsThreaded, IsFiled}
use Rattle.link_arena.specs.Twins.{twin, IsListed}
use Rattle.link_arena.proofs.Elements.{Contains-first, Contains-later}

abbrev pub IsIn : ℕ → List ℕ → Type 0
IsIn x [] = ⊥
IsIn x (y ∷ ys) = (x ≡ y) ⊎ IsIn x ys

abbrev pub IsDistinct : List ℕ → Type 0
IsDistinct [] = Unit {0}
IsDistinct (x ∷ xs) = (¬ IsIn x xs) × IsDistinct xs

in_at : (xs : List ℕ) (k d y : ℕ) → k < length xs → get_or xs k d ≡ y → IsIn y xs
in_at [] k d y within is = absurd (omega arith)
in_at (x ∷ xs) zero d y within is = inl (sym is)
in_at (x ∷ xs) (suc k) d y within is = let h : k < length xs = omega arith in inr (in_at xs k d y h is)

pub in_from : (xs : List ℕ) (y : ℕ) → Contains xs y → IsIn y xs
in_from xs y has = in_at xs has.0 y y has.1 has.2

pub contains_in : (xs : List ℕ) (x : ℕ) → IsIn x xs → Contains xs x
contains_in [] x has = absurd has
contains_in (y ∷ ys) x (inl e) = subst (λ (k : ℕ). Contains (y ∷ ys) k) (sym e) (Contains-first y ys)
contains_in (y ∷ ys) x (inr has) = Contains-later y ys x (contains_in ys x has)

pub distinct_from : (xs : List ℕ) → AllPairs (λ x y. x ≢ y) xs → IsDistinct xs
distinct_from [] apart = tt
distinct_from (x ∷ xs) apart = (
  λ h. (let has : Contains xs x = contains_in xs x h in
      let within : has.0 < length xs = has.1 in
      apart 0 (suc has.0) x (omega arith) (omega arith) (sym has.2)),
  distinct_from xs (λ i j d before within. apart (suc i) (suc j) d (omega arith) (omega arith)),
)

pub pairs_from : (xs : List ℕ) → IsDistinct xs → AllPairs (λ x y. x ≢ y) xs
pairs_from [] apart i j d before within = absurd (omega arith)
pairs_from (x ∷ xs) apart i zero d before within = absurd (omega arith)
pairs_from (x ∷ xs) apart zero (suc j) d before within = λ e. let h : j < length xs = omega arith in apart.0 (in_at xs j d x h (sym e))
pairs_from (x ∷ xs) apart (suc i) (suc j) d before within =
    let b : i < j = omega arith in
    let h : j < length xs = omega arith in
    pairs_from xs apart.1 i j d b h

-- what definitions say of the members of a list

pub thread_within : {N P : List ℕ} {f l : ℕ} {xs : List ℕ} → IsThread N P f l xs → (x : ℕ) → IsIn x xs → (x < length N) × (x < length P)
thread_within {xs = xs} t x h = t.within x (contains_in xs x h)

pub thread_apart : {N P : List ℕ} {f l : ℕ} {xs : List ℕ} → IsThread N P f l xs → IsDistinct xs
thread_apart {xs = xs} t = distinct_from xs t.apart

pub owned_in : {heads : List Head} {halves : List Half} → IsThreaded heads halves → (id s : ℕ) → IsIn s (list_at heads halves id) → owner_at halves s ≡ id
owned_in {heads = heads} {halves = halves} ok id s h = ok.owned id s (contains_in (list_at heads halves id) s h)

pub filed_in : {heads : List Head} {halves : List Half} → IsFiled heads halves → (s : ℕ) → s < length halves → IsIn s (list_at heads halves (owner_at halves s))
filed_in {heads = heads} {halves = halves} ok s h = in_from (list_at heads halves (owner_at halves s)) s (ok.all s h)

pub listed_within : {halves : List Half} {xs : List ℕ} → IsListed halves xs → (s : ℕ) → IsIn s xs → s < length halves
listed_within {xs = xs} ok s h = ok.within s (contains_in xs s h)

pub listed_twin : {halves : List Half} {xs : List ℕ} → IsListed halves xs → (s : ℕ) → IsIn s xs → twin s < length halves
listed_twin {xs = xs} ok s h = ok.twin_within s (contains_in xs s h)
