-- Standings that are written, how many are new, and how many calls were not passed.
use Rattle.std.proofs.Common.{◌≡◌, ◌≢◌, ◌<◌, ◌≤◌, ◌+◌, ◌⊎◌, ℕ, zero, suc, List, [], ◌∷◌, length, length-append, replicate, set, refl, sym, ◌∙◌, ap, ⊎_elim, inl, inr, arith}
use Rattle.std.proofs.lemmas.List.{get_or-set_same, get_or-set_other, get_or_past}
use Rattle.std.proofs.lemmas.Bool.{cases_eq, cases_lt}
use Rattle.call_graph.specs.declared.standing.Standing.{Standing}
use Rattle.call_graph.specs.declared.standing.Standing.TheVariants.{New, Open, Done}
use Rattle.call_graph.specs.Graphs.{Graph}
use Rattle.call_graph.specs.Walks.{standing_at, calls_of, passed_at, new_count, left_count}

pub new_open : (p : ℕ) → New ≡ Open p → ⊥
new_open p h = cc

pub new_done : (s : ℕ) → New ≡ Done s → ⊥
new_done s h = cc

pub open_done : (p s : ℕ) → Open p ≡ Done s → ⊥
open_done p s h = cc

pub open_place : (p q : ℕ) → Open p ≡ Open q → p ≡ q
open_place p q h = cc

pub done_stratum : (s t : ℕ) → Done s ≡ Done t → s ≡ t
done_stratum s t h = cc

-- a node that isn't done is none past the end
pub node_within : (standings : List Standing) (u : ℕ) → (standing_at standings u ≡ Done 0 → ⊥) → u < length standings
node_within standings u undone = ⊎_elim
    (λ (inside : u < length standings). inside)
    (λ (past : length standings ≤ u). absurd (undone (get_or_past standings u (Done 0) past)))
    (cases_lt u (length standings))

pub new_within : (standings : List Standing) (u : ℕ) → standing_at standings u ≡ New → u < length standings
new_within standings u is = node_within standings u (λ done. new_done 0 (sym is ∙ done))

pub open_within : (standings : List Standing) (u p : ℕ) → standing_at standings u ≡ Open p → u < length standings
open_within standings u p is = node_within standings u (λ done. open_done p 0 (sym is ∙ done))

-- a node is the one that is written, or another
pub written : (standings : List Standing) (u w : ℕ) (s : Standing) → u < length standings
    → ((w ≡ u) × (standing_at (set standings u s) w ≡ s)) ⊎ ((w ≢ u) × (standing_at (set standings u s) w ≡ standing_at standings w))
written standings u w s within = ⊎_elim
    (λ (same : w ≡ u). inl (same, ap (standing_at (set standings u s)) same ∙ get_or-set_same standings u s (Done 0) within))
    (λ (other : w ≢ u). inr (other, get_or-set_other standings u w s (Done 0) other))
    (cases_eq w u)

pub seen_on : (standings : List Standing) (u : ℕ) (s : Standing) → u < length standings → (s ≡ New → ⊥) → (w : ℕ) → (standing_at standings w ≡ New → ⊥) → standing_at (set standings u s) w ≡ New → ⊥
seen_on standings u s within old w seen h = ⊎_elim
    (λ (same : (w ≡ u) × (standing_at (set standings u s) w ≡ s)). old (sym same.1 ∙ h))
    (λ (other : (w ≢ u) × (standing_at (set standings u s) w ≡ standing_at standings w)). seen (sym other.1 ∙ h))
    (written standings u w s within)

pub fewer_done : (standings : List Standing) (u s : ℕ) → new_count (set standings u (Done s)) ≤ new_count standings
fewer_done [] u s = omega arith
fewer_done (New ∷ standings) zero s = omega arith
fewer_done (Open p ∷ standings) zero s = omega arith
fewer_done (Done t ∷ standings) zero s = omega arith
fewer_done (New ∷ standings) (suc u) s = let less = fewer_done standings u s in omega (arith, less)
fewer_done (Open p ∷ standings) (suc u) s = fewer_done standings u s
fewer_done (Done t ∷ standings) (suc u) s = fewer_done standings u s

pub fewer_open : (standings : List Standing) (u p : ℕ) → standing_at standings u ≡ New → new_count (set standings u (Open p)) + 1 ≡ new_count standings
fewer_open [] u p h = absurd (new_done 0 (sym h))
fewer_open (New ∷ standings) zero p h = omega arith
fewer_open (Open q ∷ standings) zero p h = absurd (new_open q (sym h))
fewer_open (Done t ∷ standings) zero p h = absurd (new_done t (sym h))
fewer_open (New ∷ standings) (suc u) p h = let less = fewer_open standings u p h in omega (arith, less)
fewer_open (Open q ∷ standings) (suc u) p h = fewer_open standings u p h
fewer_open (Done t ∷ standings) (suc u) p h = fewer_open standings u p h

pub all_new : (n u : ℕ) → (standing_at (replicate n New) u ≡ New) ⊎ ((n ≤ u) × (standing_at (replicate n New) u ≡ Done 0))
all_new zero u = inr (omega arith, refl)
all_new (suc n) zero = inl refl
all_new (suc n) (suc u) = ⊎_elim
    (λ (new : standing_at (replicate n New) u ≡ New). inl new)
    (λ (past : (n ≤ u) × (standing_at (replicate n New) u ≡ Done 0)). let less : n ≤ u = past.0 in inr (omega (arith, less), past.1))
    (all_new n u)

pub new_count_all : (n : ℕ) → new_count (replicate n New) ≡ n
new_count_all zero = refl
new_count_all (suc n) = let rest = new_count_all n in omega (arith, rest)

-- one more call of a node is passed
pub left_less : (whens wheres : Graph) (passed : List ℕ) (u : ℕ) → length whens ≡ length wheres → length passed ≡ length whens → passed_at passed u < length (calls_of whens wheres u)
    → left_count whens wheres (set passed u (passed_at passed u + 1)) + 1 ≡ left_count whens wheres passed
left_less [] [] passed u same long below = absurd (omega (arith, below))
left_less [] (b ∷ wheres) passed u same long below = absurd (omega (arith, same))
left_less (a ∷ whens) [] passed u same long below = absurd (omega (arith, same))
left_less (a ∷ whens) (b ∷ wheres) [] u same long below = absurd (omega (arith, long))
left_less (a ∷ whens) (b ∷ wheres) (n ∷ passed) zero same long below = let longer = length-append a b in omega (arith, longer, below)
left_less (a ∷ whens) (b ∷ wheres) (n ∷ passed) (suc u) same long below =
    let fewer = left_less whens wheres passed u (omega (arith, same)) (omega (arith, long)) below in
    omega (arith, fewer)
