-- A file as a value of JSON (RFC 8259): a byte order mark at its start is dropped, and the rest is a text in UTF-8 that is read as one value.
use Rattle.std.specs.Prelude.{ℕ, List, [], ◌∷◌, drop, nat_eq, Option, None, Some, if◌then◌else◌}
use Rattle.std.specs.List.{starts_with}
use Rattle.std.specs.Option.{option_and_then}
use Rattle.std.specs.Str.{is_utf8}
use Rattle.serde_json.specs.Data.{Data}
use Rattle.serde_json.specs.Read.{read}

abbrev pub byte_order_mark : List ℕ
byte_order_mark = 0xef ∷ 0xbb ∷ 0xbf ∷ []

abbrev pub without_mark : List ℕ → List ℕ
without_mark bytes = if starts_with nat_eq bytes byte_order_mark then drop 3 bytes else bytes

abbrev pub in_utf8 : List ℕ → Option (List ℕ)
in_utf8 bytes = if is_utf8 bytes then Some bytes else None

-- the value that a file is, if it is one
abbrev pub value_in : List ℕ → Option Data
value_in bytes = option_and_then read (in_utf8 (without_mark bytes))
