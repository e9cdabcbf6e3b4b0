-- What is said of a place, and the place: each is told apart by its parts, where objects are.
use Rattle.std.specs.Prelude.{◌≡◌, ℕ, Bool, true, ◌&&◌, ◌==◌, nat_eq}
use Rattle.std.proofs.Common.{refl, ap, ◌∙◌, arith}
use Rattle.std.proofs.lemmas.Bool.{and_parts}
use Rattle.std.proofs.lemmas.Bool.Decides.{nat_tests}
use Rattle.std.proofs.lemmas.Map.Views.{exact_unsigned_eq}
use Rattle.ocl_eval.specs.OrderLaws.{same_decides}
use Rattle.repair_semantics.specs.Claims.{Held, Spot, Said, same_held, same_spot, same_said}

pub number_itself : (p : ℕ) → (p == p) ≡ true
number_itself p = grind (arith, nat_tests)

module _ {X : Type 0} (same : X → X → Bool) (is : (x y : X) → same x y ≡ true → x ≡ y) (itself : (x : X) → same x x ≡ true) where
  both_are : {Y : Type 0} (f : X → ℕ → Y) (x y : X) (p q : ℕ) → (same x y && (p == q)) ≡ true → f x p ≡ f y q
  both_are f x y p q h = let both = and_parts (same x y) (p == q) h in ap (λ z. f z p) (is x y both.0) ∙ ap (f y) (exact_unsigned_eq p q both.1)

  both_themselves : (x : X) (p : ℕ) → (same x x && (p == p)) ≡ true
  both_themselves x p = ap (λ b. b && (p == p)) (itself x) ∙ number_itself p

  pub held_is : (h i : Held X) → same_held same h i ≡ true → h ≡ i
  held_is (Held.datum d) (Held.datum e) t = ap Held.datum ((same_decides d e).0 t)
  held_is (Held.datum d) (Held.object y) t = absurd (cc)
  held_is (Held.object x) (Held.datum e) t = absurd (cc)
  held_is (Held.object x) (Held.object y) t = ap Held.object (is x y t)

  pub held_itself : (h : Held X) → same_held same h h ≡ true
  held_itself (Held.datum d) = (same_decides d d).1 refl
  held_itself (Held.object x) = itself x

  pub spot_is : (s t : Spot X) → same_spot same s t ≡ true → s ≡ t
  spot_is (Spot.slot x p) (Spot.slot y q) h = both_are Spot.slot x y p q h
  spot_is (Spot.slot x p) (Spot.container y) h = absurd (cc)
  spot_is (Spot.container x) (Spot.slot y q) h = absurd (cc)
  spot_is (Spot.container x) (Spot.container y) h = ap Spot.container (is x y h)

  pub spot_itself : (s : Spot X) → same_spot same s s ≡ true
  spot_itself (Spot.slot x p) = both_themselves x p
  spot_itself (Spot.container x) = itself x

  pub said_is : (a b : Said X) → same_said same a b ≡ true → a ≡ b
  said_is (Said.element h) (Said.element i) t = ap Said.element (held_is h i t)
  said_is (Said.element h) (Said.within y q) t = absurd (cc)
  said_is (Said.within x p) (Said.element i) t = absurd (cc)
  said_is (Said.within x p) (Said.within y q) t = both_are Said.within x y p q t

  pub said_itself : (a : Said X) → same_said same a a ≡ true
  said_itself (Said.element h) = held_itself h
  said_itself (Said.within x p) = both_themselves x p

-- the same of numbers
pub number_said_is : (a b : Said ℕ) → same_said nat_eq a b ≡ true → a ≡ b
number_said_is = said_is nat_eq exact_unsigned_eq number_itself

pub number_said_itself : (a : Said ℕ) → same_said nat_eq a a ≡ true
number_said_itself = said_itself nat_eq exact_unsigned_eq number_itself
