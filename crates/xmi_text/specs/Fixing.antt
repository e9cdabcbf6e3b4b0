-- When the first bytes of a text fix its next answer: all texts that go on from them have the same one.
use Rattle.std.specs.Prelude.{ℕ, Bool, true, false, ◌≡◌, nat_lt, List, ◌++◌, Result, Ok, Err}
use Rattle.std.specs.List.{list_all}
use Rattle.xmi_text.specs.Reading.{Fed, answer}
use Rattle.xmi_text.specs.declared.error.TextError.{TextError}
use Rattle.xmi_text.specs.declared.error.TextError.TheVariants as errors
use Rattle.xmi_text.specs.declared.mark.Step.{Step}
use Rattle.xmi_text.specs.declared.mark.Step.TheVariants as answers

-- the next answer of a text that ends here, of which so many marks were given
abbrev pub next_of : List ℕ → ℕ → Result Step TextError
next_of bytes given = answer (record { bytes = bytes; finished = true; given = given })

-- what a reader answers that may be fed more
abbrev pub answer_so_far : List ℕ → ℕ → Result Step TextError
answer_so_far bytes given = answer (record { bytes = bytes; finished = false; given = given })

-- whatever follows, this is the next answer
abbrev pub Fixes : List ℕ → ℕ → Result Step TextError → Type 0
Fixes bytes given result = (more : List ℕ) → next_of (bytes ++ more) given ≡ result

abbrev pub are_bytes : List ℕ → Bool
are_bytes more = list_all (λ b. nat_lt b 256) more

-- the next answer hangs on what follows: behind one continuation it is another than behind the other
pub record LeavesOpen (bytes : List ℕ) (given : ℕ) : Type 0 where
  pub one : List ℕ
  pub other : List ℕ
  pub one_bytes : are_bytes one ≡ true
  pub other_bytes : are_bytes other ≡ true
  pub differ : ¬ (next_of (bytes ++ one) given ≡ next_of (bytes ++ other) given)

-- what an answer tells of the texts that go on from the bytes so far: that they have it, or that they differ in it
abbrev pub Tells : Result Step TextError → Fed → Type 0
Tells (Ok answers.NotYet) fed = (fed.finished ≡ false) × LeavesOpen fed.bytes fed.given
Tells (Err errors.NoMemory) fed = Unit {0}
Tells result fed = fed.finished ≡ false → Fixes fed.bytes fed.given result
