-- The grammar of tokens (QVT 1.3, section 7.13; OCL 2.4, chapters 7 and 9): which bytes are a token, blanks or a comment in front
-- of others, and how a text is made of such pieces. A piece goes as far as it can.
use Rattle.std.specs.Prelude.{◌≡◌, ◌<◌, ◌≤◌, ◌⊎◌, ℕ, ◌+◌, Bool, true, false, if◌then◌else◌, not, ◌||◌, ◌==◌, nat_eq, List, [], ◌∷◌, ◌++◌, length, drop, Option, Some, None, codes, encode_utf8_all}
use Rattle.std.specs.List.{Contains, list_all, prefix_len, starts_with}
use Rattle.std.specs.Option.{option_map_or}
use Rattle.std.specs.Char.{is_ascii_digit}
use Rattle.std.specs.Str.{IsUtf8, all_scalars}
use Rattle.unicode_ident.specs.Ident.{is_xid_start, is_xid_continue}
use Rattle.mof_metamodel.specs.Characters.{is_blank}
use Rattle.ql_lex.specs.declared.limits.TheConstants.{MAX_SCRIPT}
use Rattle.ql_lex.specs.declared.limits.TheConstants.{MAX_INTEGER}
use Rattle.ql_lex.specs.declared.token.TokenKind.{TokenKind}
use Rattle.ql_lex.specs.declared.token.TokenKind.TheVariants as kinds
use Rattle.ql_lex.specs.Forms.{begins_line_comment, begins_long_sign, begins_quoted, begins_unstorable, continues_name, decimal, is_escape, is_reserved}
use Rattle.ql_lex.specs.Lexed.{Lexeme, mark_len}

-- ---- blanks and comments

-- bytes of one sort, behind which none of the sort follows
pub record IsRun (sort : ℕ → Bool) (front rest : List ℕ) : Type 0 where
  pub all : list_all sort front ≡ true
  pub ends : prefix_len sort rest ≡ 0

-- blanks
pub record AreBlanks (front rest : List ℕ) : Type 0 where
  pub some : 0 < length front
  pub run : IsRun is_blank front rest

-- from `--` or `//` up to the next line feed, which a carriage return is not
pub record IsLineComment (front rest : List ℕ) : Type 0 where
  pub opening : List ℕ
  pub line : List ℕ
  pub front_is : front ≡ opening ++ line
  pub opens : (opening ≡ codes "--") ⊎ (opening ≡ codes "//")
  pub run : IsRun (λ b. not (b == 10)) line rest

-- these bytes stand nowhere in those
abbrev pub IsNowhere : List ℕ → List ℕ → Type 0
IsNowhere text [] = Unit {0}
IsNowhere text (b ∷ bs) = (starts_with nat_eq (b ∷ bs) text ≡ false) × IsNowhere text bs

-- from `/*` to the first `*/` behind it
pub record IsBlockComment (front : List ℕ) : Type 0 where
  pub inside : List ℕ
  pub front_is : front ≡ codes "/*" ++ (inside ++ codes "*/")
  pub first : IsNowhere (codes "*/") (inside ++ codes "*")

-- ---- strings and quoted names

-- what may stand between quotes: escapes, and characters that can be stored, but for the quote and the sign of escapes
pub data IsQuotable : List ℕ → Type 0 where
  Nothing : IsQuotable []
  Escape : (e : ℕ) (bytes : List ℕ) → is_escape e ≡ true → IsQuotable bytes → IsQuotable (92 ∷ e ∷ bytes)
  Character : (b : ℕ) (bytes : List ℕ) → (b == 39) ≡ false → (b == 92) ≡ false → begins_unstorable (b ∷ bytes) ≡ false → IsQuotable bytes → IsQuotable (b ∷ bytes)

-- an opening sign, what is quoted, and the closing quote
pub record IsQuotation (opening front : List ℕ) : Type 0 where
  pub inside : List ℕ
  pub front_is : front ≡ opening ++ (inside ++ codes "'")
  pub quotable : IsQuotable inside

-- ---- numbers, words and signs

-- digits that write an Integer
pub record IsNumber (front rest : List ℕ) : Type 0 where
  pub some : 0 < length front
  pub run : IsRun is_ascii_digit front rest
  pub within : decimal 0 front ≤ MAX_INTEGER

-- a character that begins a name, and those that go on with it; `_'` begins a quoted name
pub record IsWord (front rest : List ℕ) : Type 0 where
  pub first : ℕ
  pub others : List ℕ
  pub scalars : all_scalars (first ∷ others) ≡ true
  pub front_is : front ≡ encode_utf8_all (first ∷ others)
  pub begins : (is_xid_start first || (first == 95)) ≡ true
  pub goes_on : list_all is_xid_continue others ≡ true
  pub ends : continues_name rest ≡ false
  pub unquoted : begins_quoted (front ++ rest) ≡ false

-- a word that is reserved, or a name
abbrev pub word_kind : List ℕ → TokenKind
word_kind word = if is_reserved word then kinds.Reserved else kinds.Name

-- the signs of two bytes, and those of one
abbrev pub long_signs : List (List ℕ)
long_signs = codes "::" ∷ codes "<>" ∷ codes "<=" ∷ codes ">=" ∷ codes "->" ∷ []

abbrev pub short_signs : List ℕ
short_signs = codes "(){},;:=<>+-*.|"

-- a sign of one byte, where neither one of two nor a comment begins
pub record IsShortSign (front rest : List ℕ) : Type 0 where
  pub sign : ℕ
  pub front_is : front ≡ sign ∷ []
  pub listed : Contains short_signs sign
  pub longest : begins_long_sign (front ++ rest) ≡ false
  pub no_comment : begins_line_comment (front ++ rest) ≡ false

-- ---- texts

-- a piece in front of others: a token of this kind, or blanks or a comment
pub data Stands : Option TokenKind → List ℕ → List ℕ → Type 0 where
  Blanks : (front rest : List ℕ) → AreBlanks front rest → Stands None front rest
  LineComment : (front rest : List ℕ) → IsLineComment front rest → Stands None front rest
  BlockComment : (front rest : List ℕ) → IsBlockComment front → Stands None front rest
  QuotedName : (front rest : List ℕ) → IsQuotation (codes "_'") front → Stands (Some kinds.Quoted) front rest
  String : (front rest : List ℕ) → IsQuotation (codes "'") front → Stands (Some kinds.Str) front rest
  Digits : (front rest : List ℕ) → IsNumber front rest → Stands (Some kinds.Number) front rest
  Word : (front rest : List ℕ) → IsWord front rest → Stands (Some (word_kind front)) front rest
  LongSign : (front rest : List ℕ) → Contains long_signs front → Stands (Some kinds.Sign) front rest
  ShortSign : (front rest : List ℕ) → IsShortSign front rest → Stands (Some kinds.Sign) front rest

-- the token that a piece at this place of the text is
abbrev pub token_of : ℕ → List ℕ → Option TokenKind → List Lexeme
token_of at front kind = option_map_or
    (λ k. record { token = record { kind = k; span = record { start = at; end = at + length front } }; text = front } ∷ [])
    kind []

-- the tokens of the bytes from this place of a text on: nothing is left, or a piece of whole characters stands in front, and
-- what is behind it has the other tokens
pub data Lexes : ℕ → List ℕ → List Lexeme → Type 0 where
  NothingLeft : (at : ℕ) → Lexes at [] []
  InFront : (at : ℕ) (kind : Option TokenKind) (front rest : List ℕ) (more : List Lexeme) → Stands kind front rest → IsUtf8 front
      → Lexes (at + length front) rest more → Lexes at (front ++ rest) (token_of at front kind ++ more)

-- these are the tokens of a text, which may begin with a byte order mark
pub record IsLexed (text : List ℕ) (lexemes : List Lexeme) : Type 0 where
  pub within : length text ≤ MAX_SCRIPT
  pub lexes : Lexes (mark_len text) (drop (mark_len text) text) lexemes
