-- The orders of elements, of places and of claims are total, and of what ties there is one.
use Rattle.std.specs.Prelude.{◌≡◌, ℕ}
use Rattle.std.specs.Cmp.{IsTotalOrder, on_total, then_total}
use Rattle.std.specs.FinMap.{IsAntisymmetric, nat_cmp-IsAntisymmetric}
use Rattle.std.specs.Ordering.{nat_cmp, ordering_then, ordering_reverse}
use Rattle.std.specs.declared.cmp.Ordering.{Ordering}
use Rattle.std.specs.declared.cmp.Ordering.TheVariants.{Less, Equal, Greater}
use Rattle.std.proofs.Common.{refl, ap, sym, ◌∙◌}
use Rattle.std.proofs.lemmas.Cmp.{nat_cmp_total, tied_itself}
use Rattle.repair_semantics.specs.Claims.{Held, Spot, Said, Claim}
use Rattle.repair_semantics.specs.Candidates.{held_order}
use Rattle.term_table.specs.declared.numbered.NumberedValue.{NumberedValue}
use Rattle.term_table.specs.declared.numbered.NumberedValue.TheVariants as numbered
use Rattle.term_table.specs.NumberOrder.{numbered_value_order, numbered_values_total}
use Rattle.term_table.proofs.NumberLaws.{values_exact}
use Rattle.slot_claims.specs.ClaimOrder.{spot_order, said_order, claim_order}

-- ---- orders that say the same

same_total : {X : Type 0} (R S : X → X → Ordering) → ((x y : X) → R x y ≡ S x y) → IsTotalOrder S → IsTotalOrder R
same_total R S is total = record {
  antisymm = λ x y. is x y ∙ total.antisymm x y ∙ ap ordering_reverse (sym (is y x));
  trans = λ x y z h k. is x z ∙ total.trans x y z (sym (is x y) ∙ h) (sym (is y z) ∙ k);
  congr = λ x y z h. is x z ∙ total.congr x y z (sym (is x y) ∙ h) ∙ sym (is y z);
}

then_equal : (o q : Ordering) → ordering_then o q ≡ Equal → (o ≡ Equal) × (q ≡ Equal)
then_equal Equal q h = (refl, h)
then_equal Less q h = absurd (cc)
then_equal Greater q h = absurd (cc)

-- ---- pairs of numbers

abbrev Pair : Type 0
Pair = ℕ × ℕ

abbrev pair_order : Pair → Pair → Ordering
pair_order a b = ordering_then (nat_cmp a.0 b.0) (nat_cmp a.1 b.1)

pairs_total : IsTotalOrder pair_order
pairs_total = then_total (on_total (λ (a : Pair). a.0) nat_cmp_total) (on_total (λ (a : Pair). a.1) nat_cmp_total)

-- ---- elements

abbrev value_of : Held ℕ → NumberedValue
value_of (Held.datum d) = numbered.Val d
value_of (Held.object n) = numbered.Term n

held_as_value : (h i : Held ℕ) → held_order h i ≡ numbered_value_order (value_of h) (value_of i)
held_as_value (Held.datum d) (Held.datum e) = refl
held_as_value (Held.datum d) (Held.object n) = refl
held_as_value (Held.object m) (Held.datum e) = refl
held_as_value (Held.object m) (Held.object n) = refl

value_apart : (h i : Held ℕ) → value_of h ≡ value_of i → h ≡ i
value_apart (Held.datum d) (Held.datum e) is = let same : d ≡ e = cc in ap (λ x. Held.datum x) same
value_apart (Held.datum d) (Held.object n) is = absurd (cc)
value_apart (Held.object m) (Held.datum e) is = absurd (cc)
value_apart (Held.object m) (Held.object n) is = let same : m ≡ n = cc in ap (λ x. Held.object x) same

pub held_total : IsTotalOrder held_order
held_total = same_total held_order (λ h i. numbered_value_order (value_of h) (value_of i)) held_as_value (on_total value_of numbered_values_total)

pub held_exact : IsAntisymmetric held_order
held_exact h i tie = value_apart h i (values_exact (value_of h) (value_of i) (sym (held_as_value h i) ∙ tie))

-- ---- places

abbrev slot_kind : Spot ℕ → ℕ
slot_kind (Spot.slot x p) = 0
slot_kind (Spot.container x) = 1

abbrev spot_object : Spot ℕ → ℕ
spot_object (Spot.slot x p) = x
spot_object (Spot.container x) = x

abbrev spot_prop : Spot ℕ → ℕ
spot_prop (Spot.slot x p) = p
spot_prop (Spot.container x) = 0

abbrev keyed_spot_order : Spot ℕ → Spot ℕ → Ordering
keyed_spot_order s t =
    ordering_then (nat_cmp (slot_kind s) (slot_kind t))
    (ordering_then (nat_cmp (spot_object s) (spot_object t)) (nat_cmp (spot_prop s) (spot_prop t)))

alone : (o : Ordering) → o ≡ ordering_then o Equal
alone Less = refl
alone Equal = refl
alone Greater = refl

spot_keyed : (s t : Spot ℕ) → spot_order s t ≡ keyed_spot_order s t
spot_keyed (Spot.slot x p) (Spot.slot y q) = refl
spot_keyed (Spot.slot x p) (Spot.container y) = refl
spot_keyed (Spot.container x) (Spot.slot y q) = refl
spot_keyed (Spot.container x) (Spot.container y) = alone (nat_cmp x y)

pub spots_total : IsTotalOrder spot_order
spots_total =
    same_total spot_order keyed_spot_order spot_keyed
    (then_total (on_total slot_kind nat_cmp_total) (then_total (on_total spot_object nat_cmp_total) (on_total spot_prop nat_cmp_total)))

pub spot_exact : IsAntisymmetric spot_order
spot_exact (Spot.slot x p) (Spot.slot y q) tie =
    let both = then_equal (nat_cmp x y) (nat_cmp p q) tie in
    ap (λ z. Spot.slot z p) (nat_cmp-IsAntisymmetric x y both.0) ∙ ap (λ r. Spot.slot y r) (nat_cmp-IsAntisymmetric p q both.1)
spot_exact (Spot.slot x p) (Spot.container y) tie = absurd (cc)
spot_exact (Spot.container x) (Spot.slot y q) tie = absurd (cc)
spot_exact (Spot.container x) (Spot.container y) tie = ap (λ z. Spot.container z) (nat_cmp-IsAntisymmetric x y tie)

-- ---- what is said

less_not_equal : Less ≡ Equal → ⊥
less_not_equal h = cc

greater_not_equal : Greater ≡ Equal → ⊥
greater_not_equal h = cc

greater_not_less : Greater ≡ Less → ⊥
greater_not_less h = cc

said_antisymm : (a b : Said ℕ) → said_order a b ≡ ordering_reverse (said_order b a)
said_antisymm (Said.element h) (Said.element i) = held_total.antisymm h i
said_antisymm (Said.element h) (Said.within y q) = refl
said_antisymm (Said.within x p) (Said.element i) = refl
said_antisymm (Said.within x p) (Said.within y q) = pairs_total.antisymm (x, p) (y, q)

said_trans : (a b c : Said ℕ) → said_order a b ≡ Less → said_order b c ≡ Less → said_order a c ≡ Less
said_trans (Said.element h) (Said.element i) (Said.element j) s t = held_total.trans h i j s t
said_trans (Said.element h) (Said.element i) (Said.within z r) s t = refl
said_trans (Said.element h) (Said.within y q) (Said.element j) s t = absurd (greater_not_less t)
said_trans (Said.element h) (Said.within y q) (Said.within z r) s t = refl
said_trans (Said.within x p) (Said.element i) c s t = absurd (greater_not_less s)
said_trans (Said.within x p) (Said.within y q) (Said.element j) s t = absurd (greater_not_less t)
said_trans (Said.within x p) (Said.within y q) (Said.within z r) s t = pairs_total.trans (x, p) (y, q) (z, r) s t

said_congr : (a b c : Said ℕ) → said_order a b ≡ Equal → said_order a c ≡ said_order b c
said_congr (Said.element h) (Said.element i) (Said.element j) s = held_total.congr h i j s
said_congr (Said.element h) (Said.element i) (Said.within z r) s = refl
said_congr (Said.element h) (Said.within y q) c s = absurd (less_not_equal s)
said_congr (Said.within x p) (Said.element i) c s = absurd (greater_not_equal s)
said_congr (Said.within x p) (Said.within y q) (Said.element j) s = refl
said_congr (Said.within x p) (Said.within y q) (Said.within z r) s = pairs_total.congr (x, p) (y, q) (z, r) s

said_total : IsTotalOrder said_order
said_total = record { antisymm = said_antisymm; trans = said_trans; congr = said_congr }

said_exact : IsAntisymmetric said_order
said_exact (Said.element h) (Said.element i) tie = ap (λ j. Said.element j) (held_exact h i tie)
said_exact (Said.element h) (Said.within y q) tie = absurd (less_not_equal tie)
said_exact (Said.within x p) (Said.element i) tie = absurd (greater_not_equal tie)
said_exact (Said.within x p) (Said.within y q) tie =
    let both = then_equal (nat_cmp x y) (nat_cmp p q) tie in
    ap (λ z. Said.within z p) (nat_cmp-IsAntisymmetric x y both.0) ∙ ap (λ r. Said.within y r) (nat_cmp-IsAntisymmetric p q both.1)

-- ---- claims

pub claims_total : IsTotalOrder claim_order
claims_total = then_total (on_total (λ (c : Claim ℕ). c.spot) spots_total) (on_total (λ (c : Claim ℕ). c.said) said_total)

pub claim_exact : IsAntisymmetric claim_order
claim_exact c d tie =
    let both = then_equal (spot_order c.spot d.spot) (said_order c.said d.said) tie in
    let with_spot : Spot ℕ → Claim ℕ = λ s. record { spot = s; said = c.said } in
    let with_said : Said ℕ → Claim ℕ = λ a. record { spot = d.spot; said = a } in
    ap with_spot (spot_exact c.spot d.spot both.0) ∙ ap with_said (said_exact c.said d.said both.1)

-- claims of one place stand as what they say
pub claims_of_one_spot : (s : Spot ℕ) (a b : Said ℕ) → claim_order (record { spot = s; said = a }) (record { spot = s; said = b }) ≡ said_order a b
claims_of_one_spot s a b = ap (λ o. ordering_then o (said_order a b)) (tied_itself spots_total s)
