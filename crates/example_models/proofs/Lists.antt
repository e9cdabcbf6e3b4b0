-- What holds of each item of a list.
use Rattle.std.proofs.Common.{zero, suc, List, [], ◌∷◌, ◌++◌, arith, subst}
use Rattle.std.specs.Prelude.{Contains}
use Rattle.std.specs.List.{AllByRecursion}

pub all_joined : {X : Type 0} (P : X → Type 0) (xs ys : List X) → AllByRecursion P xs → AllByRecursion P ys → AllByRecursion P (xs ++ ys)
all_joined P [] ys a b = b
all_joined P (x ∷ xs) ys a b = (a.0, all_joined P xs ys a.1 b)

pub all_weakened : {X : Type 0} (P Q : X → Type 0) (xs : List X) → ((x : X) → P x → Q x) → AllByRecursion P xs → AllByRecursion Q xs
all_weakened P Q [] more h = tt
all_weakened P Q (x ∷ xs) more h = (more x h.0, all_weakened P Q xs more h.1)

pub all_at : {X : Type 0} (P : X → Type 0) (xs : List X) (x : X) → AllByRecursion P xs → Contains xs x → P x
all_at P [] x h (k, l, e) = absurd (omega (arith, l))
all_at P (y ∷ ys) x h (zero, l, e) = subst P e h.0
all_at P (y ∷ ys) x h (suc k, l, e) = all_at P ys x h.1 (k, omega (arith, l), e)
