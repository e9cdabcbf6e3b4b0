-- How many numbers of a list are 0.
use Rattle.std.proofs.Common.{◌≡◌, ◌≢◌, ℕ, ◌+◌, ◌<◌, List, ◌++◌, length, get_or, set, replicate, cond, ap, ◌∙◌, arith, eq-eqb}
use Rattle.std.specs.Prelude.{count_by, sum_by, ◌==◌}
use Rattle.std.proofs.lemmas.Bool.{ne_eqb}
use Rattle.std.proofs.lemmas.List.Sums.{sum_by-set, sum_by-append}
use Rattle.std.proofs.lemmas.List.Folds.{sum_by-replicate}

abbrev pub zeros : List ℕ → ℕ
zeros ix = count_by (λ i. i == 0) ix

abbrev weight : ℕ → ℕ
weight i = cond (i == 0) 1 0

weight_zero : (i : ℕ) → i ≡ 0 → weight i ≡ 1
weight_zero i e = ap (λ b. cond b 1 0) (eq-eqb i 0 e)

weight_some : (i : ℕ) → i ≢ 0 → weight i ≡ 0
weight_some i ne = ap (λ b. cond b 1 0) (ne_eqb i 0 ne)

pub zeros-set : (ix : List ℕ) (n y : ℕ) → n < length ix → get_or ix n 0 ≡ 0 → y ≢ 0 → zeros (set ix n y) + 1 ≡ zeros ix
zeros-set ix n y l e ne =
    let p : sum_by weight (set ix n y) + weight (get_or ix n 0) ≡ sum_by weight ix + weight y = sum_by-set weight ix n y 0 l in
    let q : weight (get_or ix n 0) ≡ 1 = weight_zero (get_or ix n 0) e in
    let r : weight y ≡ 0 = weight_some y ne in
    omega arith

pub zeros-add : (ix : List ℕ) (n : ℕ) → zeros (ix ++ replicate n 0) ≡ zeros ix + n
zeros-add ix n =
    sum_by-append weight ix (replicate n 0) ∙ ap (λ x. zeros ix + x) (sum_by-replicate weight n 0 ∙ (omega arith))
