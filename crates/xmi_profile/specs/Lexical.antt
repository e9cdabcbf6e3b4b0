-- Texts of values read character by character.
use Rattle.std.specs.Prelude.{ℕ, ◌≤◌, ◌+◌, ◌*◌, ◌-◌, ◌^◌, ◌==◌, Bool, true, false, nat_le, ℤ, pos, neg_ℤ, List, [], ◌∷◌, ◌++◌, length, Option, None, Some, if◌then◌else◌}
use Rattle.mof_metamodel.specs.Characters.{is_blank}
use Rattle.mof_metamodel.specs.WellMeta.{is_digit}
pub use Rattle.xmi_profile.specs.declared.lexical.Scan.{Scan}
pub use Rattle.xmi_profile.specs.declared.lexical.Scan.TheVariants.{Start, Signed, Digits, Wrong}

-- a text without the blanks around it, and the blanks behind it that may stand inside
abbrev pub Trim : Type 0
Trim = List ℕ × List ℕ

abbrev pub trim_blank : Bool → Trim → ℕ → Trim
trim_blank empty t c = if empty then t else (t.0, t.1 ++ c ∷ [])

abbrev pub trim_on : Trim → ℕ → Trim
trim_on t c = if is_blank c then trim_blank (length t.0 == 0) t c else ((t.0 ++ t.1) ++ c ∷ [], [])

-- the greatest number behind a sign
abbrev pub limit_of : Bool → ℕ
limit_of negative = if negative then 2 ^ 63 else 2 ^ 63 - 1

abbrev pub digits_within : Bool → ℕ → Scan
digits_within negative value = if nat_le value (limit_of negative) then Digits negative value else Wrong

-- one more digit, if it is one
abbrev pub digit_on : Bool → ℕ → ℕ → Scan
digit_on negative value c = if is_digit c then digits_within negative (10 * value + (c - 48)) else Wrong

abbrev pub scan_on : Scan → ℕ → Scan
scan_on Start c = if c == 43 then Signed false else if c == 45 then Signed true else digit_on false 0 c
scan_on (Signed negative) c = digit_on negative 0 c
scan_on (Digits negative value) c = digit_on negative value c
scan_on Wrong c = Wrong

abbrev pub signed_value : Bool → ℕ → ℤ
signed_value negative value = if negative then neg_ℤ (pos value) else pos value

abbrev pub scanned : Scan → Option ℤ
scanned Start = None
scanned (Signed negative) = None
scanned (Digits negative value) = Some (signed_value negative value)
scanned Wrong = None

-- the number read so far is one of 64 bits
abbrev pub IsSmall : Scan → Type 0
IsSmall Start = Unit {0}
IsSmall (Signed negative) = Unit {0}
IsSmall (Digits negative value) = value ≤ limit_of negative
IsSmall Wrong = Unit {0}
