-- Characters of several bytes, byte by byte.
use Rattle.std.specs.Prelude.{ℕ, ◌+◌, ◌*◌, ◌%◌, ◌==◌, ◌||◌, ◌&&◌, nat_le, nat_lt, Option, Some, None, if◌then◌else◌}
use Rattle.xmi_text.specs.ByteClass.{within}
use Rattle.xmi_text.specs.declared.utf_eight.Partial.{Partial}
use Rattle.xmi_text.specs.declared.utf_eight.Rest.{Rest}
use Rattle.xmi_text.specs.declared.utf_eight.Rest.TheVariants as rest
use Rattle.xmi_text.specs.declared.utf_eight.Growth.{Growth}
use Rattle.xmi_text.specs.declared.utf_eight.Growth.TheVariants as extends

-- a partial character of which no byte but the first has come
abbrev pub opened : ℕ → ℕ → ℕ → Rest → Option Partial
opened lead low high rest = Some (record { lead = lead; low = low; high = high; rest = rest })

-- what begins with a byte: two bytes from C2 on, three from E0 on, four from F0 to F4
abbrev pub begun : ℕ → ℕ → Option Partial
begun lead b =
    if within 0xc2 0xdf b then opened lead 0x80 0xbf (rest.One (b % 32))
    else if b == 0xe0 then opened lead 0xa0 0xbf (rest.Two 0)
    else if b == 0xed then opened lead 0x80 0x9f (rest.Two 13)
    else if within 0xe1 0xef b then opened lead 0x80 0xbf (rest.Two (b % 16))
    else if b == 0xf0 then opened lead 0x90 0xbf (rest.Three 0)
    else if within 0xf1 0xf3 b then opened lead 0x80 0xbf (rest.Three (b % 8))
    else if b == 0xf4 then opened lead 0x80 0x8f (rest.Three 4)
    else None

-- the character of a number
abbrev pub scalar : ℕ → Option ℕ
scalar n = if nat_lt n 0xd800 || (nat_le 0xe000 n && nat_lt n 0x110000) then Some n else None

abbrev pub found : Option ℕ → Growth
found None = extends.Broken
found (Some c) = extends.Whole c

-- the last byte has come
abbrev pub whole : ℕ → ℕ → Growth
whole bits b = if nat_lt 0x4fff bits then extends.Broken else found (scalar (bits * 64 + b % 64))

abbrev pub more : Partial → Rest → Growth
more p rest = extends.Partial (record { lead = p.lead; low = 0x80; high = 0xbf; rest = rest })

-- a byte in its range has come
abbrev pub added : Partial → Rest → ℕ → Growth
added p (rest.Three bits) b = more p (rest.Two (bits * 64 + b % 64))
added p (rest.Two bits) b = more p (rest.One (bits * 64 + b % 64))
added p (rest.One bits) b = whole bits b

-- one more byte
abbrev pub extended : Partial → ℕ → Growth
extended p b = if nat_lt b p.low || nat_lt p.high b then extends.Broken else added p p.rest b
