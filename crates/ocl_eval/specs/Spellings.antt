-- An Integer read from left to right.
use Rattle.std.specs.Prelude.{ℕ, ◌+◌, ◌-◌, ◌*◌, min, Bool, true, false, ◌==◌, ℤ, pos, neg_ℤ, Option, None, Some, if◌then◌else◌}
use Rattle.qvtr_semantics.specs.declared.out.Out.{Out}
use Rattle.qvtr_semantics.specs.declared.out.Out.TheVariants as outs
use Rattle.qvtr_semantics.specs.Integers.{integer}
use Rattle.qvtr_semantics.specs.Strings.{is_digit}
use Rattle.ocl_eval.specs.declared.spelling.Spelling.{Spelling}
use Rattle.ocl_eval.specs.declared.spelling.Spelling.TheVariants.{Start, Sign, Digits, Other}

abbrev pub digit_of : ℕ → Option ℕ
digit_of c = if is_digit c then Some (c - 48) else None

-- the greatest number that is kept
abbrev pub capped : ℕ → ℕ
capped n = min n 18446744073709551615

abbrev pub further : Bool → ℕ → ℕ → Spelling
further negative n c = if is_digit c then Digits negative (capped (10 * n + (c - 48))) else Other

abbrev pub spelled_on : Spelling → ℕ → Spelling
spelled_on Start c = if c == 45 then Sign else further false 0 c
spelled_on Sign c = further true 0 c
spelled_on (Digits negative n) c = further negative n c
spelled_on Other c = Other

abbrev pub signed : Bool → ℕ → ℤ
signed true n = neg_ℤ (pos n)
signed false n = pos n

abbrev pub spelled_out : Spelling → Out
spelled_out (Digits negative n) = integer (signed negative n)
spelled_out Start = outs.Invalid
spelled_out Sign = outs.Invalid
spelled_out Other = outs.Invalid
