-- The first place of a number in a list, found or not.
use Rattle.std.proofs.Common.{◌≡◌, ℕ, ◌+◌, ◌<◌, ◌≤◌, suc, List, [], ◌∷◌, Bool, true, false, cond, refl, sym, ◌∙◌, ap, arith, length, inl, inr, eq-eqb}
use Rattle.std.specs.Prelude.{nat_eq, nat_lt, not, Option, Some, None}
use Rattle.std.specs.List.{position, position_or_len}
use Rattle.std.proofs.lemmas.Bool.{ne_eqb, cases_eq, cases_lt}
use Rattle.std.proofs.lemmas.Bool.Decides.{nat_tests}
use Rattle.object_tables.specs.Models.{index_of}
use Rattle.object_tables.specs.Tied.{far_among}

index_place : (qs : List ℕ) (p : ℕ) → index_of qs p ≡ position_or_len (nat_eq p) qs
index_place [] p = refl
index_place (q ∷ qs) p = elim (cases_eq p q) [
  | inl e ↦ ap (λ b. cond b 0 (suc (index_of qs p))) (eq-eqb q p (sym e)) ∙ sym (ap (λ b. cond (not b) (1 + position_or_len (nat_eq p) qs) 0) (eq-eqb p q e))
  | inr e ↦
      (let rest = index_place qs p in
      let step : suc (index_of qs p) ≡ 1 + position_or_len (nat_eq p) qs = omega (arith, rest) in
      ap (λ b. cond b 0 (suc (index_of qs p))) (ne_eqb q p (λ k. e (sym k))) ∙ step ∙ sym (ap (λ b. cond (not b) (1 + position_or_len (nat_eq p) qs) 0) (ne_eqb p q e)))
]

index_within : (qs : List ℕ) (p : ℕ) → index_of qs p ≤ length qs
index_within [] p = omega arith
index_within (q ∷ qs) p = by (nat_eq q p) (index_within qs p)
  where
    by : (b : Bool) → index_of qs p ≤ length qs → cond b 0 (suc (index_of qs p)) ≤ length (q ∷ qs)
    by true rest = omega arith
    by false rest = omega (arith, rest)

-- what a look-up tells
looked_up : (n k : ℕ) (o : Option ℕ) → n ≤ k → cond (nat_lt n k) (Some n) None ≡ o → ((i : ℕ) → o ≡ Some i → (n ≡ i) × (i < k)) × (o ≡ None → n ≡ k)
looked_up n k o l e = elim (cases_lt n k) [
  | inl less ↦
      (let some : o ≡ Some n = sym e ∙ ap (λ b. cond b (Some n) None) (let t : nat_lt n k ≡ true = grind (arith, nat_tests) in t) in
      (λ i f. (let same : n ≡ i = cc in (same, omega (arith, less, same))), λ f. absurd (cc)))
  | inr past ↦
      (let none : o ≡ None = sym e ∙ ap (λ b. cond b (Some n) None) (let t : nat_lt n k ≡ false = grind (arith, nat_tests) in t) in
      (λ i f. absurd (cc), λ f. omega (arith, l, past)))
]

pub index_looked_up : (qs : List ℕ) (p : ℕ) (o : Option ℕ) → o ≡ position (nat_eq p) qs → ((i : ℕ) → o ≡ Some i → (index_of qs p ≡ i) × (i < length qs)) × (o ≡ None → index_of qs p ≡ length qs)
index_looked_up qs p o e =
    looked_up (index_of qs p) (length qs) o (index_within qs p) (ap (λ n. cond (nat_lt n (length qs)) (Some n) None) (index_place qs p) ∙ sym e)

pub far_found : (qs : List ℕ) (q i otherwise : ℕ) → index_of qs q ≡ i → i < length qs → far_among qs (Some q) otherwise ≡ suc (suc i)
far_found qs q i otherwise e l =
    ap (λ b. cond b (suc (suc (index_of qs q))) otherwise) (let t : nat_lt (index_of qs q) (length qs) ≡ true = grind (arith, nat_tests, e) in t) ∙ ap (λ n. suc (suc n)) e

pub far_missing : (qs : List ℕ) (q otherwise : ℕ) → index_of qs q ≡ length qs → far_among qs (Some q) otherwise ≡ otherwise
far_missing qs q otherwise e = ap (λ b. cond b (suc (suc (index_of qs q))) otherwise) (let t : nat_lt (index_of qs q) (length qs) ≡ false = grind (arith, nat_tests, e) in t)
