-- Names of elements and attributes.
use Rattle.std.specs.Prelude.{ℕ, Bool, true, false, ◌==◌, ◌||◌, ◌&&◌, not, nat_le, List, [], ◌∷◌, if◌then◌else◌}
use Rattle.mof_metamodel.specs.Characters.{is_storable_character}
use Rattle.xmi_text.specs.ByteClass.{begins_name, continues_name}

-- a character from U+0080 on that is storable
abbrev pub is_far : ℕ → Bool
is_far c = nat_le 128 c && is_storable_character c

-- the characters behind the first, `:` once at most
abbrev pub goes_on : Bool → List ℕ → Bool
goes_on colon [] = true
goes_on colon (c ∷ cs) = if c == 58 then not colon && goes_on true cs else (continues_name c || is_far c) && goes_on colon cs

-- a name begins with an ASCII letter, `_` or a character from U+0080 on, and goes on with these, digits, `-`, `.`
-- and at most one `:`
abbrev pub is_name : List ℕ → Bool
is_name [] = false
is_name (c ∷ cs) = (begins_name c || is_far c) && goes_on false cs
