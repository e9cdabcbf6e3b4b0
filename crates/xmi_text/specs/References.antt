-- References to characters, byte by byte: `&amp; &lt; &gt; &quot; &apos;`, `&#` with decimal digits and `&#x` with
-- hexadecimal ones.
use Rattle.std.specs.Prelude.{ℕ, ◌+◌, ◌-◌, ◌*◌, ◌==◌, nat_lt, Option, Some, None, if◌then◌else◌}
use Rattle.mof_metamodel.specs.Characters.{is_storable_character}
use Rattle.xmi_text.specs.ByteClass.{within}
use Rattle.xmi_text.specs.UtfEight.{scalar}
use Rattle.xmi_text.specs.declared.reference.Reference.{Reference}
use Rattle.xmi_text.specs.declared.reference.Reference.TheVariants as ref

abbrev pub digit : ℕ → Option ℕ
digit b = if within 48 57 b then Some (b - 48) else None

abbrev pub hexadecimal_digit : ℕ → Option ℕ
hexadecimal_digit b =
    if within 48 57 b then Some (b - 48)
    else if within 65 70 b then Some (b - 55)
    else if within 97 102 b then Some (b - 87)
    else None

-- a number that further digits can make a character's, or that is one: up to U+10FFFF
abbrev pub reachable : (ℕ → Reference) → ℕ → Option Reference
reachable made n = if nat_lt 0x10ffff n then None else Some (made n)

abbrev pub grown : (ℕ → Reference) → ℕ → ℕ → Option ℕ → Option Reference
grown made base value None = None
grown made base value (Some d) = if nat_lt 0x10ffff value then None else reachable made (value * base + d)

abbrev pub decimal : ℕ → ℕ → Option Reference
decimal value b = grown (λ n. ref.Decimal n) 10 value (digit b)

abbrev pub hexadecimal : ℕ → ℕ → Option Reference
hexadecimal value b = grown (λ n. ref.Digits n) 16 value (hexadecimal_digit b)

abbrev pub first : ℕ → Option Reference
first b =
    if b == 97 then Some ref.A
    else if b == 108 then Some ref.L
    else if b == 103 then Some ref.G
    else if b == 113 then Some ref.Q
    else if b == 35 then Some ref.Hash
    else None

abbrev pub second : ℕ → Option Reference
second b = if b == 109 then Some ref.Am else if b == 112 then Some ref.Ap else None

abbrev pub only : ℕ → ℕ → Reference → Option Reference
only b wanted made = if b == wanted then Some made else None

abbrev pub named : Reference → ℕ → Option Reference
named ref.Begun b = first b
named ref.A b = second b
named ref.Am b = only b 112 ref.Amp
named ref.Ap b = only b 111 ref.Apo
named ref.Apo b = only b 115 ref.Apos
named ref.L b = only b 116 ref.Lt
named ref.G b = only b 116 ref.Gt
named ref.Q b = only b 117 ref.Qu
named ref.Qu b = only b 111 ref.Quo
named ref.Quo b = only b 116 ref.Quot
named _ b = None

-- one more byte
abbrev pub extended : Reference → ℕ → Option Reference
extended ref.Hash b = if b == 120 then Some ref.Hexadecimal else decimal 0 b
extended (ref.Decimal n) b = decimal n b
extended ref.Hexadecimal b = hexadecimal 0 b
extended (ref.Digits n) b = hexadecimal n b
extended reference b = named reference b

-- a number's character, if it is storable
abbrev pub kept : Option ℕ → Option ℕ
kept None = None
kept (Some c) = if is_storable_character c then Some c else None

abbrev pub storable : ℕ → Option ℕ
storable n = kept (scalar n)

-- what a reference stands for once its `;` comes
abbrev pub character : Reference → Option ℕ
character ref.Amp = Some 38
character ref.Apos = Some 39
character ref.Lt = Some 60
character ref.Gt = Some 62
character ref.Quot = Some 34
character (ref.Decimal n) = storable n
character (ref.Digits n) = storable n
character _ = None
