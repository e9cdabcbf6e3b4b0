-- Reading digits from left to right gives the number that they spell, if it can be a bound.
use Rattle.std.proofs.Common.{◌≡◌, ℕ, ◌+◌, ◌*◌, ◌<◌, ◌≤◌, Bool, true, false, cond, List, [], ◌∷◌, length, refl, sym, ◌∙◌, ap, arith, Option, None, Some, true≢false}
use Rattle.std.specs.Prelude.{◌-◌, ◌==◌, not, nat_le, ◌&&◌}
use Rattle.std.specs.List.{fold, list_all}
use Rattle.std.proofs.lemmas.Bool.{lt-leb, lt-ltb, leb-false}
use Rattle.std.proofs.lemmas.Bool.Decides.{nat_tests}
use Rattle.mof_metamodel.specs.WellMeta.{is_digit}
use Rattle.model_assembly.specs.Values.{number_from, spelled_number, at_most}
use Rattle.model_files.specs.declared.bounds.TheConstants.{MAX_BOUND}
use Rattle.model_files.specs.Bounds.{spelled_on}

none_stays : (cs : List ℕ) → fold spelled_on None cs ≡ None
none_stays [] = refl
none_stays (c ∷ cs) = none_stays cs

grows : (n : ℕ) (cs : List ℕ) → n ≤ number_from n cs
grows n [] = omega arith
grows n (c ∷ cs) = let h = grows (10 * n + (c - 48)) cs in omega (arith, h)

past : (n : ℕ) → MAX_BOUND < n → at_most MAX_BOUND (Some n) ≡ None
past n h = ap (λ b. cond b (Some n) None) (lt-leb n MAX_BOUND h)

-- the number, if all characters are digits
abbrev spelled_behind : ℕ → List ℕ → Option ℕ
spelled_behind n cs = at_most MAX_BOUND (cond (list_all is_digit cs) (Some (number_from n cs)) None)

none_behind : (b : Bool) (n : ℕ) → MAX_BOUND < n → at_most MAX_BOUND (cond b (Some n) None) ≡ None
none_behind true n h = past n h
none_behind false n h = refl

read_within : (b : Bool) (n : ℕ) (cs : List ℕ) → nat_le n MAX_BOUND ≡ b → (n ≤ MAX_BOUND → fold spelled_on (Some n) cs ≡ spelled_behind n cs)
    → fold spelled_on (cond b (Some n) None) cs ≡ spelled_behind n cs
read_within true n cs e behind = behind (grind arith)
read_within false n cs e behind =
    let h = leb-false n MAX_BOUND e in let g = grows n cs in
    none_stays cs ∙ sym (none_behind (list_all is_digit cs) (number_from n cs) (omega (arith, h, g)))

read_digit : (b : Bool) (n c : ℕ) (cs : List ℕ) → fold spelled_on (at_most MAX_BOUND (Some (10 * n + (c - 48)))) cs ≡ spelled_behind (10 * n + (c - 48)) cs
    → fold spelled_on (cond b (at_most MAX_BOUND (Some (10 * n + (c - 48)))) None) cs
    ≡ at_most MAX_BOUND (cond (b && list_all is_digit cs) (Some (number_from (10 * n + (c - 48)) cs)) None)
read_digit true n c cs behind = behind
read_digit false n c cs behind = none_stays cs

read_behind : (n : ℕ) (cs : List ℕ) → n ≤ MAX_BOUND → fold spelled_on (Some n) cs ≡ spelled_behind n cs
read_behind n [] h = grind arith
read_behind n (c ∷ cs) h =
    read_digit (is_digit c) n c cs (read_within (nat_le (10 * n + (c - 48)) MAX_BOUND) (10 * n + (c - 48)) cs refl (read_behind (10 * n + (c - 48)) cs))

digits_read : (cs : List ℕ) → 0 < length cs → fold spelled_on (Some 0) cs ≡ at_most MAX_BOUND (spelled_number cs)
digits_read [] h = absurd (omega (arith, h))
digits_read (c ∷ cs) h =
    read_behind 0 (c ∷ cs) (omega arith)
    ∙ ap (λ b. at_most MAX_BOUND (cond (b && list_all is_digit (c ∷ cs)) (Some (number_from 0 (c ∷ cs))) None)) (sym (lt-ltb 0 (length (c ∷ cs)) (omega arith)))

pub with_digits : (cs : List ℕ) → not (length cs == 0) ≡ true → fold spelled_on (Some 0) cs ≡ at_most MAX_BOUND (spelled_number cs)
with_digits [] e = absurd cc
with_digits (c ∷ cs) e = digits_read (c ∷ cs) (omega arith)

pub without_digits : (cs : List ℕ) → not (length cs == 0) ≡ false → None ≡ at_most MAX_BOUND (spelled_number cs)
without_digits [] e = refl
without_digits (c ∷ cs) e = let f : (length (c ∷ cs) == 0) ≡ false = grind (arith, nat_tests) in absurd (true≢false (ap not (sym f) ∙ e))
