-- Which characters a model, a script or a name may hold.
use Rattle.std.specs.Prelude.{ℕ, Bool, ◌==◌, ◌||◌, ◌&&◌, not, nat_le, nat_eq, List, length}
use Rattle.std.specs.Prelude.{encode_utf8_all}
use Rattle.std.specs.List.{list_all, list_any}
use Rattle.std.specs.Ordering.{nat_cmp}
use Rattle.std.specs.Cmp.Lexicographic.{slice_cmp, pointwise}
use Rattle.std.specs.declared.cmp.Ordering.{Ordering}

-- whether two texts have the same characters: a name is matched as it is written
abbrev pub same_name : List ℕ → List ℕ → Bool
same_name a b = pointwise nat_eq a b

-- a space, a tab, a line feed or a carriage return
abbrev pub is_blank : ℕ → Bool
is_blank c = (c == 32) || (c == 9) || (c == 10) || (c == 13)

-- a tab, a line feed, a carriage return, or a character from the space on other than U+FFFE and U+FFFF
abbrev pub is_storable_character : ℕ → Bool
is_storable_character c = (c == 9) || (c == 10) || (c == 13) || (nat_le 32 c && not (c == 0xfffe) && not (c == 0xffff))

-- each character of the text is storable
abbrev pub is_storable_text : List ℕ → Bool
is_storable_text text = list_all is_storable_character text

-- an identifier of an object: storable, not empty and without a blank
abbrev pub is_identifier_text : List ℕ → Bool
is_identifier_text text = is_storable_text text && not (list_any is_blank text) && not (length text == 0)

-- the order of texts: that of their bytes in UTF-8
abbrev pub text_cmp : List ℕ → List ℕ → Ordering
text_cmp x y = slice_cmp nat_cmp (encode_utf8_all x) (encode_utf8_all y)
