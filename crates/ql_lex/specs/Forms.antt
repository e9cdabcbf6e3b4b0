-- What may stand at the front of the bytes of a script: one definition for each form of a token, a blank or a comment.
-- A form is the number of bytes that it takes, counted from the front. A fault's place is counted from there too.
use Rattle.std.specs.Prelude.{ℕ, zero, suc, ◌+◌, ◌-◌, ◌*◌, Bool, false, if◌then◌else◌, not, ◌&&◌, ◌||◌, ◌==◌, nat_lt, nat_eq, List, [], ◌∷◌, take, drop, slice_index, Option, Some, None, Result, Ok, Err, codes}
use Rattle.std.specs.List.{prefix_len, list_any, starts_with}
use Rattle.std.specs.Option.{option_map_or}
use Rattle.std.specs.Char.{is_ascii_digit}
use Rattle.std.specs.Str.{bytes_eq}
use Rattle.std.specs.Str.Lossy.{utf8_valid_len}
use Rattle.bstr.specs.Utf8.{decoded}
use Rattle.unicode_ident.specs.Ident.{is_xid_start, is_xid_continue}
use Rattle.mof_metamodel.specs.Characters.{is_blank, is_storable_character}
use Rattle.ql_lex.specs.declared.limits.TheConstants.{MAX_INTEGER}
use Rattle.ql_lex.specs.declared.token.TokenKind.{TokenKind}
use Rattle.ql_lex.specs.declared.token.TokenKind.TheVariants.{Name, Quoted, Reserved, Number, Str, Sign}
use Rattle.ql_lex.specs.declared.fault.LexKind.{LexKind}
use Rattle.ql_lex.specs.declared.fault.LexKind.TheVariants.{BadUtf8, BadChar, OpenString, OpenComment, BigNumber}
use Rattle.ql_lex.specs.declared.fault.LexFault.{LexFault}
use Rattle.ql_lex.specs.declared.piece.Piece.{Piece}

-- ---- what a form answers

-- a token of this kind and of n bytes
abbrev pub token : TokenKind → ℕ → Result Piece LexFault
token kind n = Ok (record { kind = Some kind; len = n })

-- blanks, or a comment, of n bytes
abbrev pub nothing : ℕ → Result Piece LexFault
nothing n = Ok (record { kind = None; len = n })

-- a fault, this many bytes behind the front
abbrev pub fault : LexKind → ℕ → Result Piece LexFault
fault kind n = Err (record { kind = kind; at = n })

-- ---- characters

-- the character at the front, if a whole one stands there, and the number of its bytes
unfoldable pub front_character : List ℕ → Option ℕ
front_character bytes = (decoded bytes).char

unfoldable pub front_width : List ℕ → ℕ
front_width bytes = (decoded bytes).size

-- ---- blanks and comments

-- a run of blanks
abbrev pub blank_len : List ℕ → ℕ
blank_len bytes = prefix_len is_blank bytes

abbrev pub begins_line_comment : List ℕ → Bool
begins_line_comment bytes = starts_with nat_eq bytes (codes "--") || starts_with nat_eq bytes (codes "//")

-- it goes on to the next line feed, which a carriage return is not
abbrev pub line_len : List ℕ → ℕ
line_len bytes = prefix_len (λ b. not (b == 10)) bytes

abbrev pub line_comment : List ℕ → Result Piece LexFault
line_comment bytes = nothing (2 + line_len (drop 2 bytes))

abbrev pub begins_block_comment : List ℕ → Bool
begins_block_comment bytes = starts_with nat_eq bytes (codes "/*")

-- how many bytes there are up to the next `*/` and with it; passed of them were passed, and star: the last of these is a `*`
unfoldable pub comment_end : ℕ → Bool → List ℕ → Option ℕ
comment_end passed star [] = None
comment_end passed star (b ∷ bs) = if star && (b == 47) then Some (passed + 1) else comment_end (passed + 1) (b == 42) bs

-- a comment goes from its sign to the next `*/` behind it
abbrev pub block_comment : List ℕ → Result Piece LexFault
block_comment bytes = option_map_or (λ n. nothing (2 + n)) (comment_end 0 false (drop 2 bytes)) (fault OpenComment 0)

-- ---- strings and quoted names

-- a `'` closes the text, and a `\` begins an escape, unless a `\` before it does
abbrev pub closes : Bool → ℕ → Bool
closes escaped b = not escaped && (b == 39)

abbrev pub escapes : Bool → ℕ → Bool
escapes escaped b = not escaped && (b == 92)

-- how many bytes there are up to the closing `'` and with it; passed of them were passed, and escaped: the last these
-- is a `\` that begins an escape
unfoldable pub string_end : ℕ → Bool → List ℕ → Option ℕ
string_end passed escaped [] = None
string_end passed escaped (b ∷ bs) = if closes escaped b then Some (passed + 1) else string_end (passed + 1) (escapes escaped b) bs

-- one of the characters that may stand behind a `\`
abbrev pub is_escape : ℕ → Bool
is_escape b = list_any (λ e. e == b) (codes "tnr\"'\\")

-- a character that a model can't hold stands at the front
abbrev pub begins_unstorable : List ℕ → Bool
begins_unstorable bytes = option_map_or (λ c. not (is_storable_character c)) (front_character bytes) false

-- what a text may not hold: a byte that makes no escape, or a character that can't be stored
abbrev pub begins_misfit : Bool → List ℕ → Bool
begins_misfit escaped bytes = if escaped then not (is_escape (slice_index bytes 0)) else begins_unstorable bytes

-- the place of the first such character, or of the `\` before it; at: so many bytes were passed, and escaped: the last of these
-- is a `\` that begins an escape
unfoldable pub misfit_from : ℕ → Bool → List ℕ → Option ℕ
misfit_from at escaped [] = None
misfit_from at escaped (b ∷ bs) =
    if begins_misfit escaped (b ∷ bs) then Some (if escaped then at - 1 else at) else misfit_from (at + 1) (escapes escaped b) bs

-- a string or a quoted name, whose opening sign has this many bytes: its end is looked for first
abbrev pub closed : TokenKind → ℕ → List ℕ → ℕ → Result Piece LexFault
closed kind opening inside n =
    option_map_or (λ k. fault BadChar (opening + k)) (misfit_from 0 false (take (n - 1) inside)) (token kind (opening + n))

abbrev pub text : TokenKind → ℕ → List ℕ → Result Piece LexFault
text kind opening bytes =
    option_map_or (closed kind opening (drop opening bytes)) (string_end 0 false (drop opening bytes)) (fault OpenString 0)

abbrev pub begins_quoted : List ℕ → Bool
begins_quoted bytes = starts_with nat_eq bytes (codes "_'")

-- ---- numbers

-- the number that decimal digits write, behind others that write `before`
unfoldable pub decimal : ℕ → List ℕ → ℕ
decimal before [] = before
decimal before (d ∷ ds) = decimal (10 * before + (d - 48)) ds

abbrev pub digits_len : List ℕ → ℕ
digits_len bytes = prefix_len is_ascii_digit bytes

abbrev pub number : List ℕ → Result Piece LexFault
number bytes = if nat_lt MAX_INTEGER (decimal 0 (take (digits_len bytes) bytes)) then fault BigNumber 0 else token Number (digits_len bytes)

-- ---- names and reserved words

-- a character that goes on with a name stands at the front
abbrev pub continues_name : List ℕ → Bool
continues_name bytes = option_map_or is_xid_continue (front_character bytes) false

-- how many bytes a character takes that goes on with a name, or 0 where none stands at the front
unfoldable pub step_len : List ℕ → ℕ
step_len bytes = if continues_name bytes then front_width bytes else 0

abbrev pub begins_name : List ℕ → Bool
begins_name bytes = option_map_or (λ c. is_xid_start c || (c == 95)) (front_character bytes) false

-- how many bytes characters take that go on with a name; inside: so many bytes of the last character are still to come
unfoldable pub name_len : List ℕ → ℕ → ℕ
name_len [] inside = 0
name_len (b ∷ bs) (suc inside) = suc (name_len bs inside)
name_len (b ∷ bs) zero = elim (step_len (b ∷ bs)) [ zero ↦ 0 | suc n ↦ suc (name_len bs n) ]

abbrev pub reserved_words : List (List ℕ)
reserved_words =
    codes "transformation" ∷ codes "key" ∷ codes "top" ∷ codes "relation" ∷ codes "query" ∷ codes "domain" ∷ codes "checkonly"
    ∷ codes "enforce" ∷ codes "primitive" ∷ codes "when" ∷ codes "where" ∷ codes "default_values" ∷ codes "if" ∷ codes "then"
    ∷ codes "else" ∷ codes "endif" ∷ codes "let" ∷ codes "in" ∷ codes "and" ∷ codes "or" ∷ codes "xor" ∷ codes "implies"
    ∷ codes "not" ∷ codes "true" ∷ codes "false" ∷ codes "null" ∷ codes "invalid" ∷ codes "Set" ∷ codes "Bag"
    ∷ codes "Sequence" ∷ codes "OrderedSet" ∷ codes "String" ∷ codes "Integer" ∷ codes "Boolean" ∷ []

abbrev pub is_reserved_word : List ℕ → Bool
is_reserved_word word = list_any (λ w. bytes_eq w word) reserved_words

unfoldable pub is_reserved : List ℕ → Bool
is_reserved word = is_reserved_word word

-- a name is a character that begins one, and those that go on with it
abbrev pub name : List ℕ → Result Piece LexFault
name bytes = let n = front_width bytes + name_len (drop (front_width bytes) bytes) 0 in token (if is_reserved (take n bytes) then Reserved else Name) n

-- ---- signs

-- the signs of two bytes; the longest sign is taken
unfoldable pub begins_long_sign : List ℕ → Bool
begins_long_sign bytes = starts_with nat_eq bytes (codes "::") || starts_with nat_eq bytes (codes "<>") || starts_with nat_eq bytes (codes "<=")
    || starts_with nat_eq bytes (codes ">=") || starts_with nat_eq bytes (codes "->")

-- and those of one
unfoldable pub begins_short_sign : List ℕ → Bool
begins_short_sign bytes = list_any (λ s. s == slice_index bytes 0) (codes "(){},;:=<>+-*.|")

-- a sign, or the fault where no form begins
abbrev pub sign : List ℕ → Result Piece LexFault
sign bytes = if begins_long_sign bytes then token Sign 2 else if begins_short_sign bytes then token Sign 1
    else option_map_or (λ c. fault BadChar 0) (front_character bytes) (fault BadUtf8 0)

-- ---- all forms

-- what stands at the front of bytes that aren't empty
unfoldable pub form : List ℕ → Result Piece LexFault
form bytes =
    if is_blank (slice_index bytes 0) then nothing (blank_len bytes)
    else if begins_line_comment bytes then line_comment bytes
    else if begins_block_comment bytes then block_comment bytes
    else if begins_quoted bytes then text Quoted 2 bytes
    else if slice_index bytes 0 == 39 then text Str 1 bytes
    else if is_ascii_digit (slice_index bytes 0) then number bytes
    else if begins_name bytes then name bytes
    else sign bytes

-- the first n bytes are whole characters, or the first byte of them at which none stands is the fault
abbrev pub whole : List ℕ → ℕ → Result Piece LexFault → Result Piece LexFault
whole bytes n read = if utf8_valid_len (take n bytes) == n then read else fault BadUtf8 (utf8_valid_len (take n bytes))

-- a form of whole characters; a byte at which none stands is told where it comes before the form's own fault
abbrev pub whole_form_of : List ℕ → Result Piece LexFault → Result Piece LexFault
whole_form_of bytes (Ok piece) = whole bytes piece.len (Ok piece)
whole_form_of bytes (Err f) = whole bytes f.at (Err f)

unfoldable pub whole_form : List ℕ → Result Piece LexFault
whole_form bytes = whole_form_of bytes (form bytes)
