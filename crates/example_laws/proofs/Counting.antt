-- A list of terms in order has no more of them than one in which they all are.
use Rattle.std.proofs.Common.{◌≡◌, ◌<◌, ◌≤◌, ◌+◌, ℕ, zero, suc, Bool, true, false, List, [], ◌∷◌, length, get_or, None, Some, refl, sym, ap, ◌∙◌, subst, arith}
use Rattle.std.specs.Prelude.{Contains, not, cond, nat_lt}
use Rattle.std.specs.List.{range_with_len, position, position_or_len}
use Rattle.std.specs.Ordering.{is_eq}
use Rattle.std.specs.declared.cmp.Ordering.TheVariants.{Less}
use Rattle.std.proofs.lemmas.Bool.{true≢false}
use Rattle.std.proofs.lemmas.Bool.Decides.{nat_tests}
use Rattle.std.proofs.lemmas.List.FromFn.{get_or-range_with_len, length-range_with_len}
use Rattle.mof_metamodel.proofs.Facts.{contains_first}
use Rattle.template_match.proofs.ListLaws.{contains_later}
use Rattle.repair_semantics.specs.declared.term.Term.{Term}
use Rattle.repair_semantics.specs.Terms.{term_order}
use Rattle.repair_semantics.proofs.TieLaws.{ties_are_one}
use Rattle.repair_laws.proofs.TermOrder.{IsAscending}

-- a number of a range is in it
pub in_range : (n k : ℕ) → k < n → Contains (range_with_len 0 n) k
in_range n k below = (k, rw (length-range_with_len) below, get_or-range_with_len 0 n k k below ∙ omega arith)

-- the list without what stands at a place
without : {X : Type 0} → List X → ℕ → List X
without [] place = []
without (x ∷ xs) zero = xs
without (x ∷ xs) (suc place) = x ∷ without xs place

shorter : {X : Type 0} (xs : List X) (place : ℕ) → place < length xs → suc (length (without xs place)) ≡ length xs
unfolding without
shorter [] place below = absurd (omega (arith, below))
shorter (x ∷ xs) zero below = refl
shorter (x ∷ xs) (suc place) below = ap suc (shorter xs place (omega (arith, below)))

-- another one is still there
still : {X : Type 0} (xs : List X) (x y : X) → (c : Contains xs x) → Contains xs y → (x ≡ y → ⊥) → Contains (without xs c.0) y
unfolding without
still [] x y (k, below, is) there other = absurd (omega (arith, below))
still (z ∷ xs) x y (zero, below, is) (zero, within, same) other = absurd (other (sym is ∙ same))
still (z ∷ xs) x y (zero, below, is) (suc l, within, same) other = (l, omega (arith, within), same)
still (z ∷ xs) x y (suc k, below, is) (zero, within, same) other = (zero, omega arith, same)
still (z ∷ xs) x y (suc k, below, is) (suc l, within, same) other = contains_later y z (without xs k) (still xs x y (k, omega (arith, below), is) (l, omega (arith, within), same) other)

not_before_itself : (t u : Term) → term_order t u ≡ Less → t ≡ u → ⊥
not_before_itself t u less same = true≢false (sym ((ties_are_one t u).1 same) ∙ ap is_eq less)

pub no_more : (ts all : List Term) → IsAscending ts → ((t : Term) → Contains ts t → Contains all t) → length ts ≤ length all
no_more _ all IsAscending.none within = omega arith
no_more _ all (IsAscending.more t ts before rest) within =
    let here : Contains all t = within t (contains_first t ts) in
    let fewer : length ts ≤ length (without all here.0) =
    no_more ts (without all here.0) rest (λ u c. still all t u here (within u (contains_later u t ts c)) (not_before_itself t u (before u c))) in
    let one = shorter all here.0 here.1 in
    omega (arith, fewer, one)

-- ---- the first place that passes a test

found_before : {X : Type 0} (p : X → Bool) (xs : List X) (k : ℕ) (d : X) → k < length xs → p (get_or xs k d) ≡ true → position_or_len p xs < length xs
found_before p [] k d within h = absurd (omega (arith, within))
found_before p (x ∷ xs) zero d within h = subst (λ b. cond (not b) (1 + position_or_len p xs) 0 < length (x ∷ xs)) (sym h) (omega arith)
found_before p (x ∷ xs) (suc k) d within h = step (p x) (found_before p xs k d (omega (arith, within)) h)
  where
    step : (b : Bool) → position_or_len p xs < length xs → cond (not b) (1 + position_or_len p xs) 0 < length (x ∷ xs)
    step true l = omega arith
    step false l = omega (arith, l)

-- there is one, where any place passes
pub position_there : {X : Type 0} (p : X → Bool) (xs : List X) (k : ℕ) (d : X) → k < length xs → p (get_or xs k d) ≡ true → (i : ℕ) × (position p xs ≡ Some i)
position_there p xs k d within h =
    let l = found_before p xs k d within h in
    let below : nat_lt (position_or_len p xs) (length xs) ≡ true = grind (arith, nat_tests) in
    (position_or_len p xs, ap (λ b. cond b (Some (position_or_len p xs)) None) below)
