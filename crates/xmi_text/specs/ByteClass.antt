-- Kinds of bytes.
use Rattle.std.specs.Prelude.{ℕ, Bool, ◌==◌, ◌||◌, ◌&&◌, nat_le}

-- a space, a tab, a line feed or a carriage return
abbrev pub is_blank : ℕ → Bool
is_blank b = (b == 32) || (b == 9) || (b == 10) || (b == 13)

-- from low to high
abbrev pub within : ℕ → ℕ → ℕ → Bool
within low high b = nat_le low b && nat_le b high

-- an ASCII character that is storable
abbrev pub is_storable_byte : ℕ → Bool
is_storable_byte b = (b == 9) || (b == 10) || (b == 13) || within 32 127 b

-- an ASCII letter or `_`
abbrev pub begins_name : ℕ → Bool
begins_name b = within 65 90 b || within 97 122 b || (b == 95)

-- a digit, `-` or `.` too; `:` has a rule of its own
abbrev pub continues_name : ℕ → Bool
continues_name b = begins_name b || within 48 57 b || (b == 45) || (b == 46)

-- a byte that stands in a name, alone or in a character
abbrev pub holds_in_name : ℕ → Bool
holds_in_name b = continues_name b || (b == 58) || within 0x80 0xbf b || within 0xc2 0xf4 b
