-- What is spelled is read, and what is read is spelled: texts and names.
use Rattle.std.proofs.Common.{◌≡◌, ℕ, Bool, true, false, List, ◌∷◌, refl, ap, Option, Some, None, option_map}
use Rattle.std.proofs.lemmas.Option.{same_Some}
use Rattle.std.specs.List.{list_any}
use Rattle.std.specs.Cmp.Lexicographic.{bytes_decides}
use Rattle.mof_metamodel.specs.Metamodels.{same_name}
use Rattle.qvtr_engine.specs.Reading.{◌>>=◌, when_true}
use Rattle.std.proofs.lemmas.Bool.{or_parts}

-- a step of a reading that went well
pub bind_some : {A B : Type 0} (o : Option A) (f : A → Option B) (y : B) → (o >>= f) ≡ Some y → (x : A) × (o ≡ Some x) × (f x ≡ Some y)
bind_some None f y e = cc
bind_some (Some x) f y e = (x, refl, e)

pub mapped_some : {A B : Type 0} (f : A → B) (o : Option A) (y : B) → option_map f o ≡ Some y → (x : A) × (o ≡ Some x) × (f x ≡ y)
mapped_some f None y e = let gone : None ≡ Some y = e in cc
mapped_some f (Some x) y e = (x, refl, same_Some (f x) y e)

pub when_some : {A : Type 0} (b : Bool) (x y : A) → when_true b x ≡ Some y → (b ≡ true) × (x ≡ y)
when_some true x y e = (refl, cc)
when_some false x y e = cc

pub when_holds : {A : Type 0} (b : Bool) (x : A) → b ≡ true → when_true b x ≡ Some x
when_holds b x e = ap (λ t. when_true t x) e

pub same_is : (xs ys : List ℕ) → same_name xs ys ≡ true → xs ≡ ys
same_is xs ys = (bytes_decides xs ys).0

pub same_holds : (xs ys : List ℕ) → xs ≡ ys → same_name xs ys ≡ true
same_holds xs ys = (bytes_decides xs ys).1

pub any_false : {X : Type 0} (p : X → Bool) (x : X) (xs : List X) → list_any p (x ∷ xs) ≡ false → (p x ≡ false) × (list_any p xs ≡ false)
any_false p x xs h = or_parts (p x) (list_any p xs) h
