-- Arguments with their domains, one after the other.
use Rattle.std.proofs.Common.{◌≡◌, ◌<◌, ℕ, zero, suc, List, [], ◌∷◌, ◌++◌, refl, sym, ap, ◌∙◌, length, take, get_or, min, arith}
use Rattle.qv_syntax.specs.declared.typed.Typed.{Typed}
use Rattle.qv_syntax.specs.declared.program.Dom.{Dom}
use Rattle.enforcement_rules.specs.CallTests.{Pair, argument_pairs}

pub no_pairs : (doms : List Dom) (args : List Typed) → argument_pairs (take 0 doms) (take 0 args) ≡ []
no_pairs [] args = refl
no_pairs (d ∷ ds) args = refl

same_pair : (d x : Dom) (e y : Typed) → d ≡ x → e ≡ y → ◌≡◌ {A = Pair} (x, y) (d, e)
same_pair d x e y one other = ap (λ (z : Dom). let p : Pair = (z, y) in p) (sym one) ∙ ap (λ (z : Typed). let p : Pair = (d, z) in p) (sym other)

pub more_pairs : (doms : List Dom) (args : List Typed) (i : ℕ) (d : Dom) (e : Typed) → i < length doms → i < length args → d ≡ get_or doms i d → e ≡ get_or args i e
    → argument_pairs (take (suc i) doms) (take (suc i) args) ≡ argument_pairs (take i doms) (take i args) ++ (let p : Pair = (d, e) in p ∷ [])
more_pairs [] args i d e one other dom arg = absurd (omega (arith, one))
more_pairs (x ∷ ds) [] i d e one other dom arg = absurd (omega (arith, other))
more_pairs (x ∷ ds) (y ∷ es) zero d e one other dom arg = ap (λ (ps : List Pair). let p : Pair = (x, y) in p ∷ ps) (no_pairs ds es) ∙ ap (λ (p : Pair). p ∷ []) (same_pair d x e y dom arg)
more_pairs (x ∷ ds) (y ∷ es) (suc i) d e one other dom arg = ap (λ (ps : List Pair). let p : Pair = (x, y) in p ∷ ps) (more_pairs ds es i d e (omega (arith, one)) (omega (arith, other)) dom arg)

pub all_pairs : (doms : List Dom) (args : List Typed) (n : ℕ) → n ≡ min (length doms) (length args) → argument_pairs (take n doms) (take n args) ≡ argument_pairs doms args
all_pairs [] args n is = let none : n ≡ 0 = omega (arith, is) in ap (λ (k : ℕ). argument_pairs (take k []) (take k args)) none
all_pairs (x ∷ ds) [] n is = let none : n ≡ 0 = omega (arith, is) in ap (λ (k : ℕ). argument_pairs (take k (x ∷ ds)) (take k [])) none
all_pairs (x ∷ ds) (y ∷ es) zero is = absurd (omega (arith, is))
all_pairs (x ∷ ds) (y ∷ es) (suc n) is = ap (λ (ps : List Pair). let p : Pair = (x, y) in p ∷ ps) (all_pairs ds es n (omega (arith, is)))
