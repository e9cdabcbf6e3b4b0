-- The properties that were met against an ordered set of them.
use Rattle.std.proofs.Common.{◌≡◌, ◌⊎◌, ◌≢◌, ℕ, Bool, true, false, cond, List, [], ◌∷◌, ◌++◌, refl, sym, ◌∙◌, ap, inl, inr}
use Rattle.std.specs.Prelude.{◌||◌, nat_eq}
use Rattle.std.specs.Ordering.{nat_cmp}
use Rattle.std.specs.BTreeMap.{is_at}
use Rattle.std.specs.Cmp.{unsigned_ties}
use Rattle.std.proofs.lemmas.Bool.{eq-eqb, ne_eqb}
use Rattle.std.proofs.lemmas.Bool.Decides.{eqb_tells}
use Rattle.std.proofs.lemmas.List.Folds.{list_any-append}
use Rattle.xmi_profile.specs.Filing.{is_met}
use Rattle.mof_metamodel.proofs.Facts.{or_false}

or_swap : (x y : Bool) → (x || y) ≡ cond y true x
or_swap true true = refl
or_swap true false = refl
or_swap false true = refl
or_swap false false = refl

-- one more property
pub met_push : (met : List ℕ) (p q : ℕ) → is_met (met ++ p ∷ []) q ≡ (is_met met q || nat_eq q p)
met_push met p q = list_any-append (nat_eq q) met (p ∷ []) ∙ ap (λ (b : Bool). is_met met q || b) (or_false (nat_eq q p))

pub equal_swap : (p q : ℕ) → nat_eq p q ≡ nat_eq q p
equal_swap p q = by (eqb_tells p q)
  where
    by : ((nat_eq p q ≡ true) × (p ≡ q)) ⊎ ((nat_eq p q ≡ false) × (p ≢ q)) → nat_eq p q ≡ nat_eq q p
    by (inl (t, e)) = t ∙ sym (eq-eqb q p (sym e))
    by (inr (f, d)) = f ∙ sym (ne_eqb q p (λ e. d (sym e)))

pub met_after : (met : List ℕ) (p q : ℕ) (before after : Bool) → before ≡ is_met met q → after ≡ cond (is_at (nat_cmp p) q) true before → after ≡ is_met (met ++ p ∷ []) q
met_after met p q before after was now =
    now ∙ ap (λ b. cond (is_at (nat_cmp p) q) true b) was
    ∙ ap (λ b. cond b true (is_met met q)) (sym (unsigned_ties p q))
    ∙ ap (λ b. cond b true (is_met met q)) (equal_swap p q)
    ∙ sym (or_swap (is_met met q) (nat_eq q p))
    ∙ sym (met_push met p q)
