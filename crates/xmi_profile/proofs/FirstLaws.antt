-- The first of faults that stand at places: of one kind of them, of two, and of the elements of a list.
use Rattle.std.proofs.Common.{◌≡◌, ◌⊎◌, ℕ, ◌<◌, ◌≤◌, Bool, true, false, refl, ap, arith, inl, inr, None, Some}
use Rattle.std.specs.Prelude.{◌==◌, ◌&&◌, nat_lt, nat_le, Option, if◌then◌else◌}
use Rattle.std.proofs.lemmas.Bool.{ltb-true, ltb-false, leb-true, leb-false, eqb-true, eqb-false, cases_lt, or_cases, or_parts, and_parts, and_cases}
use Rattle.model_assembly.specs.declared.fault.ModelFault.{ModelFault}
use Rattle.model_assembly.specs.FirstFault.{rank}
use Rattle.xmi_profile.specs.Firsts.{Before, Stands, FirstIn}
use Rattle.xmi_profile.specs.Judging.{Found, is_first, first_of}

before_same : (n r : ℕ) → Before n r n r
before_same n r = inr (refl, omega arith)

before_through : (a r b q c t : ℕ) → Before a r b q → Before b q c t → Before a r c t
before_through a r b q c t (inl x) (inl y) = inl (omega (arith, x, y))
before_through a r b q c t (inl x) (inr y) = let e = y.0 in inl (omega (arith, x, e))
before_through a r b q c t (inr x) (inl y) = let e = x.0 in inl (omega (arith, e, y))
before_through a r b q c t (inr x) (inr y) = let e = x.0 in let f = y.0 in let h = x.1 in let k = y.1 in inr (omega (arith, e, f), omega (arith, h, k))

-- the same faults, said otherwise
pub first_as : (P Q : Stands) → ((g : ModelFault) (place : ℕ) → P g place → Q g place) → ((g : ModelFault) (place : ℕ) → Q g place → P g place)
    → (o : Option Found) → FirstIn P o → FirstIn Q o
first_as P Q there back None h = λ g place q. h g place (back g place q)
first_as P Q there back (Some f) h =
    record { stands = there f.fault f.place h.stands; first = λ g place q. h.first g place (back g place q) }

-- the order
is_first_true : (a b : Found) → is_first a b ≡ true → Before a.place (rank a.fault) b.place (rank b.fault)
is_first_true a b e = by (or_cases (nat_lt a.place b.place) ((a.place == b.place) && nat_le (rank a.fault) (rank b.fault)) e)
  where
    by : (nat_lt a.place b.place ≡ true) ⊎ (((a.place == b.place) && nat_le (rank a.fault) (rank b.fault)) ≡ true) → Before a.place (rank a.fault) b.place (rank b.fault)
    by (inl h) = inl (ltb-true a.place b.place h)
    by (inr h) =
        let p = and_parts (a.place == b.place) (nat_le (rank a.fault) (rank b.fault)) h in
        inr (eqb-true a.place b.place p.0, leb-true (rank a.fault) (rank b.fault) p.1)

is_first_false : (a b : Found) → is_first a b ≡ false → Before b.place (rank b.fault) a.place (rank a.fault)
is_first_false a b e =
    let p = or_parts (nat_lt a.place b.place) ((a.place == b.place) && nat_le (rank a.fault) (rank b.fault)) e in
    let above : b.place ≤ a.place = ltb-false a.place b.place p.0 in
    by above (cases_lt b.place a.place) (and_cases (a.place == b.place) (nat_le (rank a.fault) (rank b.fault)) p.1)
  where
    by : b.place ≤ a.place → (b.place < a.place) ⊎ (a.place ≤ b.place) → ((a.place == b.place) ≡ false) ⊎ (nat_le (rank a.fault) (rank b.fault) ≡ false)
        → Before b.place (rank b.fault) a.place (rank a.fault)
    by above (inl h) c = inl h
    by above (inr h) (inl d) = absurd (eqb-false a.place b.place d (omega (arith, h, above)))
    by above (inr h) (inr d) = let l : rank b.fault < rank a.fault = leb-false (rank a.fault) (rank b.fault) d in inr (omega (arith, h, above), omega (arith, l))

-- of two kinds of faults
abbrev pub Either : Stands → Stands → Stands
Either P Q = λ g place. P g place ⊎ Q g place

pub first_of_both : (P Q : Stands) (a b : Option Found) → FirstIn P a → FirstIn Q b → FirstIn (Either P Q) (first_of a b)
first_of_both P Q None None h k = λ g place e. neither g place e
  where
    neither : (g : ModelFault) (place : ℕ) → P g place ⊎ Q g place → ⊥
    neither g place (inl p) = h g place p
    neither g place (inr q) = k g place q
first_of_both P Q None (Some b) h k = record { stands = inr k.stands; first = first }
  where
    first : (g : ModelFault) (place : ℕ) → P g place ⊎ Q g place → Before b.place (rank b.fault) place (rank g)
    first g place (inl p) = absurd (h g place p)
    first g place (inr q) = k.first g place q
first_of_both P Q (Some a) None h k = record { stands = inl h.stands; first = first }
  where
    first : (g : ModelFault) (place : ℕ) → P g place ⊎ Q g place → Before a.place (rank a.fault) place (rank g)
    first g place (inl p) = h.first g place p
    first g place (inr q) = absurd (k g place q)
first_of_both P Q (Some a) (Some b) h k = by (is_first a b) refl
  where
    by : (t : Bool) → is_first a b ≡ t → FirstIn (Either P Q) (if t then Some a else Some b)
    by true e = record { stands = inl h.stands; first = first }
      where
        first : (g : ModelFault) (place : ℕ) → P g place ⊎ Q g place → Before a.place (rank a.fault) place (rank g)
        first g place (inl p) = h.first g place p
        first g place (inr q) = before_through a.place (rank a.fault) b.place (rank b.fault) place (rank g) (is_first_true a b e) (k.first g place q)
    by false e = record { stands = inr k.stands; first = first }
      where
        first : (g : ModelFault) (place : ℕ) → P g place ⊎ Q g place → Before b.place (rank b.fault) place (rank g)
        first g place (inl p) = before_through b.place (rank b.fault) a.place (rank a.fault) place (rank g) (is_first_false a b e) (h.first g place p)
        first g place (inr q) = k.first g place q

-- none stands, and one stands alone
abbrev pub Never : Stands
Never = λ g place. ⊥

pub first_never : FirstIn Never None
first_never = λ g place e. e

abbrev pub Only : Found → Stands
Only f = λ g place. (g ≡ f.fault) × (place ≡ f.place)

pub first_only : (f : Found) → FirstIn (Only f) (Some f)
first_only f = record {
  stands = (refl, refl);
  first = λ g place e. let p = e.1 in let r : rank g ≡ rank f.fault = ap rank e.0 in inr (omega (arith, p), omega (arith, r));
}
