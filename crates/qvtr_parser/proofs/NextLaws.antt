-- The next value of values that are read one behind the other, as the code finds it.
use Rattle.std.proofs.Common.{◌≡◌, ℕ, ◌+◌, ◌-◌, ◌<◌, Bool, true, List, [], ◌∷◌, ◌++◌, Result, Ok, Err, ap, sym, ◌∙◌, subst}
use Rattle.ocl_parser.specs.Readings.{Gives, Halts, Read}
use Rattle.ocl_parser.specs.declared.halt.Halt.{Halt}
use Rattle.qvtr_parser.specs.Lists.{each_read}
use Rattle.qvtr_parser.proofs.LoopLaws.{each_halts, each_more}

-- it is read
pub next_read : {A : Type 0} (goes_on : ℕ → Bool) (read : ℕ → Read A) (count step : ℕ) (before after : List A) (at next : ℕ) (value : A) (whole : Read (List A)) → step < count → goes_on at ≡ true
    → read at ≡ Ok (value, next) → after ≡ before ++ value ∷ [] → each_read goes_on read (count - step) before at ≡ whole → each_read goes_on read (count - (step + 1)) after next ≡ whole
next_read {A = A} goes_on read count step before after at next value whole less g r a w =
    ap (λ (xs : List A). each_read goes_on read (count - (step + 1)) xs next) a ∙ each_more goes_on read count step before at (value, next) less g r ∙ w

-- it is not
pub next_halts : {A : Type 0} (goes_on : ℕ → Bool) (read : ℕ → Read A) (count step : ℕ) (before : List A) (at : ℕ) (halt told : Halt) (whole : Read (List A)) (result : Result (List A × ℕ) Halt)
    → step < count → goes_on at ≡ true → Halts halt (read at) → each_read goes_on read (count - step) before at ≡ whole → result ≡ Err told → told ≡ halt → Gives result whole
next_halts {A = A} goes_on read count step before at halt told whole result less g h w r t =
    subst (λ (x : Result (List A × ℕ) Halt). Gives x whole) (sym r)
    (subst (λ (x : Halt). Halts x whole) (sym t) (each_halts goes_on read count step before at halt whole less g h w))
