-- The order of what slots hold: it is total, and what ties in it is one.
use Rattle.std.specs.Prelude.{◌≡◌, ℕ, true}
use Rattle.std.specs.Cmp.{IsTotalOrder}
use Rattle.std.specs.FinMap.{nat_cmp-IsAntisymmetric}
use Rattle.std.specs.Ordering.{is_eq, ordering_reverse}
use Rattle.std.specs.declared.cmp.Ordering.TheVariants.{Less, Equal, Greater}
use Rattle.std.proofs.Common.{refl, ap, sym, ◌∙◌, arith, true≢false}
use Rattle.std.proofs.lemmas.Bool.Decides.{nat_tests}
use Rattle.std.proofs.lemmas.Cmp.{nat_cmp_total}
use Rattle.ocl_eval.specs.OrderLaws.{order_total, ties_where_same, same_decides}
use Rattle.repair_semantics.specs.Claims.{Held, same_held}
use Rattle.repair_semantics.specs.Images.{same_number}
use Rattle.repair_semantics.specs.Candidates.{held_order}

greater_less : Greater ≡ Less → ⊥
greater_less h = cc

greater_equal : Greater ≡ Equal → ⊥
greater_equal h = cc

less_equal : Less ≡ Equal → ⊥
less_equal h = cc

-- what ties is one
pub held_ties : (h i : Held ℕ) → held_order h i ≡ Equal → h ≡ i
held_ties (Held.datum d) (Held.datum e) t = ap (λ z. Held.datum z) ((same_decides d e).0 (ties_where_same d e ∙ ap is_eq t))
held_ties (Held.datum d) (Held.object b) t = absurd (less_equal t)
held_ties (Held.object a) (Held.datum e) t = absurd (greater_equal t)
held_ties (Held.object a) (Held.object b) t = ap (λ z. Held.object z) (nat_cmp-IsAntisymmetric a b t)

pub held_total : IsTotalOrder held_order
held_total = record { antisymm = turned; trans = through; congr = alike }
  where
    turned : (h i : Held ℕ) → held_order h i ≡ ordering_reverse (held_order i h)
    turned (Held.datum d) (Held.datum e) = order_total.antisymm d e
    turned (Held.datum d) (Held.object b) = refl
    turned (Held.object a) (Held.datum e) = refl
    turned (Held.object a) (Held.object b) = nat_cmp_total.antisymm a b

    through : (h i j : Held ℕ) → held_order h i ≡ Less → held_order i j ≡ Less → held_order h j ≡ Less
    through (Held.datum d) (Held.datum e) (Held.datum f) a b = order_total.trans d e f a b
    through (Held.datum d) i (Held.object c) a b = refl
    through (Held.datum d) (Held.object e) (Held.datum f) a b = absurd (greater_less b)
    through (Held.object d) (Held.datum e) j a b = absurd (greater_less a)
    through (Held.object d) (Held.object e) (Held.datum f) a b = absurd (greater_less b)
    through (Held.object d) (Held.object e) (Held.object f) a b = nat_cmp_total.trans d e f a b

    alike : (h i j : Held ℕ) → held_order h i ≡ Equal → held_order h j ≡ held_order i j
    alike h i j t = ap (λ z. held_order z j) (held_ties h i t)

-- the test of what slots hold
pub same_is : (h i : Held ℕ) → same_held same_number h i ≡ true → h ≡ i
same_is (Held.datum d) (Held.datum e) s = ap (λ z. Held.datum z) ((same_decides d e).0 s)
same_is (Held.object a) (Held.object b) s = let same : a ≡ b = grind (arith, nat_tests) in ap (λ z. Held.object z) same
same_is (Held.datum d) (Held.object b) s = absurd (true≢false (sym s))
same_is (Held.object a) (Held.datum e) s = absurd (true≢false (sym s))

pub same_itself : (h : Held ℕ) → same_held same_number h h ≡ true
same_itself (Held.datum d) = (same_decides d d).1 refl
same_itself (Held.object a) = grind (arith, nat_tests)
