-- Values that are read one behind the other, step by step.
use Rattle.std.proofs.Common.{◌≡◌, ℕ, zero, suc, ◌+◌, ◌-◌, ◌<◌, ◌≤◌, Bool, true, false, List, [], ◌∷◌, ◌++◌, Ok, Err, ap, ◌∙◌, refl, sym, arith}
use Rattle.ocl_parser.specs.Readings.{Read, Halts}
use Rattle.ocl_parser.specs.declared.halt.Halt.{Halt}
use Rattle.ocl_parser.specs.declared.halt.Halt.TheVariants as halts
use Rattle.ocl_parser.specs.declared.halt.Stop.{Stop}
use Rattle.qvtr_parser.specs.Lists.{each_read}

one_more : {A : Type 0} (goes_on : ℕ → Bool) (read : ℕ → Read A) (n : ℕ) (before : List A) (at : ℕ) (x : A × ℕ) → 0 < n → goes_on at ≡ true → read at ≡ Ok x
    → each_read goes_on read (n - 1) (before ++ x.0 ∷ []) x.1 ≡ each_read goes_on read n before at
unfolding each_read
one_more goes_on read zero before at x some g r = absurd (omega (arith, some))
one_more goes_on read (suc n) before at x some g r =
    let less : suc n - 1 ≡ n = omega arith in
    rw (g, r, less) refl

-- one more value is read
pub each_more : {A : Type 0} (goes_on : ℕ → Bool) (read : ℕ → Read A) (count step : ℕ) (before : List A) (at : ℕ) (x : A × ℕ) → step < count → goes_on at ≡ true → read at ≡ Ok x
    → each_read goes_on read (count - (step + 1)) (before ++ x.0 ∷ []) x.1 ≡ each_read goes_on read (count - step) before at
each_more {A = A} goes_on read count step before at x less g r =
    let one : count - (step + 1) ≡ count - step - 1 = omega arith in
    ap (λ (n : ℕ). each_read goes_on read n (before ++ x.0 ∷ []) x.1) one ∙ one_more goes_on read (count - step) before at x (omega (arith, less)) g r

-- none goes on
pub each_ends : {A : Type 0} (goes_on : ℕ → Bool) (read : ℕ → Read A) (n : ℕ) (before : List A) (at : ℕ) → goes_on at ≡ false → each_read goes_on read n before at ≡ Ok (before, at)
unfolding each_read
each_ends goes_on read zero before at g = refl
each_ends goes_on read (suc n) before at g = rw g refl

none_left : {A : Type 0} (goes_on : ℕ → Bool) (read : ℕ → Read A) (n : ℕ) (before : List A) (at : ℕ) → n ≡ 0 → each_read goes_on read n before at ≡ Ok (before, at)
unfolding each_read
none_left goes_on read zero before at none = refl
none_left goes_on read (suc n) before at none = absurd (omega (arith, none))

-- no tokens are left
pub each_full : {A : Type 0} (goes_on : ℕ → Bool) (read : ℕ → Read A) (count step : ℕ) (before : List A) (at : ℕ) → count ≤ step
    → each_read goes_on read (count - step) before at ≡ Ok (before, at)
each_full goes_on read count step before at full = none_left goes_on read (count - step) before at (omega (arith, full))

stops : {A : Type 0} (goes_on : ℕ → Bool) (read : ℕ → Read A) (n : ℕ) (before : List A) (at : ℕ) (s : Stop) → 0 < n → goes_on at ≡ true → read at ≡ Err s
    → each_read goes_on read n before at ≡ Err s
unfolding each_read
stops goes_on read zero before at s some g r = absurd (omega (arith, some))
stops goes_on read (suc n) before at s some g r = rw (g, r) refl

-- the next value is not read
pub each_stops : {A : Type 0} (goes_on : ℕ → Bool) (read : ℕ → Read A) (count step : ℕ) (before : List A) (at : ℕ) (s : Stop) → step < count → goes_on at ≡ true → read at ≡ Err s
    → each_read goes_on read (count - step) before at ≡ Err s
each_stops goes_on read count step before at s less g r = stops goes_on read (count - step) before at s (omega (arith, less)) g r

pub each_halts : {A : Type 0} (goes_on : ℕ → Bool) (read : ℕ → Read A) (count step : ℕ) (before : List A) (at : ℕ) (halt : Halt) (whole : Read (List A)) → step < count → goes_on at ≡ true
    → Halts halt (read at) → each_read goes_on read (count - step) before at ≡ whole → Halts halt whole
each_halts goes_on read count step before at (halts.Stop s) whole less g h e = sym e ∙ each_stops goes_on read count step before at s less g h
each_halts goes_on read count step before at halts.NoMemory whole less g h e = tt
