-- Lists: what holds of each element, where an element stands, and what `find` finds.
use Rattle.std.specs.Prelude.{◌≡◌, zero, suc, Bool, true, false, List, [], ◌∷◌, ◌++◌, None, Some, Contains, ◌||◌, if◌then◌else◌}
use Rattle.std.specs.List.{AllByRecursion, find, list_any, list_all}
use Rattle.std.proofs.Common.{refl, sym, ap, subst, ◌∙◌, arith}
use Rattle.std.proofs.lemmas.List.Folds.{list_any_at}
use Rattle.std.proofs.lemmas.Bool.{and_parts, true≢false}
use Rattle.mof_metamodel.proofs.Facts.{contains_first}
use Rattle.std.proofs.lemmas.Option.{same_Some}

pub contains_later : {X : Type 0} (x y : X) (ys : List X) → Contains ys x → Contains (y ∷ ys) x
contains_later x y ys c = let (k, within, is) = c in (suc k, omega arith, is)

pub contains_left : {X : Type 0} (x : X) (xs ys : List X) → Contains xs x → Contains (xs ++ ys) x
contains_left x [] ys c = let (k, within, is) = c in absurd (omega arith)
contains_left x (z ∷ xs) ys (zero, within, is) = (0, omega arith, is)
contains_left x (z ∷ xs) ys (suc k, within, is) = contains_later x z (xs ++ ys) (contains_left x xs ys (k, omega arith, is))

pub contains_right : {X : Type 0} (x : X) (xs ys : List X) → Contains ys x → Contains (xs ++ ys) x
contains_right x [] ys c = c
contains_right x (z ∷ xs) ys c = contains_later x z (xs ++ ys) (contains_right x xs ys c)

pub all_append : {X : Type 0} (P : X → Type 0) (xs ys : List X) → AllByRecursion P xs → AllByRecursion P ys → AllByRecursion P (xs ++ ys)
all_append P [] ys a b = b
all_append P (x ∷ xs) ys a b = (a.0, all_append P xs ys a.1 b)

pub all_at : {X : Type 0} (P : X → Type 0) (xs : List X) (x : X) → AllByRecursion P xs → Contains xs x → P x
all_at P [] x a c = let (k, within, is) = c in absurd (omega arith)
all_at P (y ∷ ys) x a (zero, within, is) = subst P is a.0
all_at P (y ∷ ys) x a (suc k, within, is) = all_at P ys x a.1 (k, omega arith, is)

pub list_all_at : {X : Type 0} (p : X → Bool) (xs : List X) (x : X) → list_all p xs ≡ true → Contains xs x → p x ≡ true
list_all_at p [] x a c = let (k, within, is) = c in absurd (omega arith)
list_all_at p (y ∷ ys) x a (zero, within, is) = ap p (sym is) ∙ (and_parts (p y) (list_all p ys) a).0
list_all_at p (y ∷ ys) x a (suc k, within, is) = list_all_at p ys x (and_parts (p y) (list_all p ys) a).1 (k, omega arith, is)

any_by : {X : Type 0} (p : X → Bool) (x : X) (xs : List X) (b : Bool) → p x ≡ b → b || list_any p xs ≡ true → (list_any p xs ≡ true → (y : X) × Contains xs y × (p y ≡ true))
    → (y : X) × Contains (x ∷ xs) y × (p y ≡ true)
any_by p x xs true is h more = (x, contains_first x xs, is)
any_by p x xs false is h more = let found = more h in (found.0, contains_later found.0 x xs found.1, found.2)

pub any_from : {X : Type 0} (p : X → Bool) (xs : List X) → list_any p xs ≡ true → (x : X) × Contains xs x × (p x ≡ true)
any_from p [] h = absurd (true≢false (sym h))
any_from p (x ∷ xs) h = any_by p x xs (p x) refl h (any_from p xs)

none_by : {X : Type 0} (p : X → Bool) (y : X) (ys : List X) (x : X) (b : Bool) → p y ≡ b → (if b then Some y else find p ys) ≡ None → Contains (y ∷ ys) x
    → (find p ys ≡ None → Contains ys x → p x ≡ false) → p x ≡ false
none_by p y ys x true is h c more = absurd (cc)
none_by p y ys x false is h (zero, within, same) more = ap p (sym same) ∙ is
none_by p y ys x false is h (suc k, within, same) more = more h (k, omega arith, same)

pub find_none : {X : Type 0} (p : X → Bool) (xs : List X) (x : X) → find p xs ≡ None → Contains xs x → p x ≡ false
find_none p [] x h c = let (k, within, is) = c in absurd (omega arith)
find_none p (y ∷ ys) x h c = none_by p y ys x (p y) refl h c (find_none p ys x)

some_by : {X : Type 0} (p : X → Bool) (y : X) (ys : List X) (x : X) (b : Bool) → p y ≡ b → (if b then Some y else find p ys) ≡ Some x
    → (find p ys ≡ Some x → Contains ys x × (p x ≡ true)) → Contains (y ∷ ys) x × (p x ≡ true)
some_by p y ys x true is h more = (subst (Contains (y ∷ ys)) (same_Some y x h) (contains_first y ys), ap p (sym (same_Some y x h)) ∙ is)
some_by p y ys x false is h more = let found = more h in (contains_later x y ys found.0, found.1)

pub find_some : {X : Type 0} (p : X → Bool) (xs : List X) (x : X) → find p xs ≡ Some x → Contains xs x × (p x ≡ true)
find_some p [] x h = absurd (cc)
find_some p (y ∷ ys) x h = some_by p y ys x (p y) refl h (find_some p ys x)

pub any_at : {X : Type 0} (p : X → Bool) (xs : List X) (x : X) → p x ≡ true → Contains xs x → list_any p xs ≡ true
any_at p xs x h c = list_any_at p xs c.0 x c.1 (ap p c.2 ∙ h)
