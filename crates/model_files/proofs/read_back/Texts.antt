-- The text of a value of JSON, with a line feed behind it, is read as the value.
use Rattle.std.proofs.Common.{◌≡◌, ℕ, suc, max, ◌^◌, ◌<◌, ◌≤◌, ◌&&◌, ℤ, pos, negsuc, Bool, true, false, cond, List, [], ◌∷◌, ◌++◌, IsUtf8, decimal, option_map, option_and_then, refl, sym, ap, ap₂, ◌∙◌, subst, arith, append_assoc, append-nil, Option, Some, None}
use Rattle.std.specs.Fmt.{signed_decimal}
use Rattle.std.specs.Str.{is_utf8}
use Rattle.std.proofs.lemmas.Fmt.{IsAscii-signed}
use Rattle.std.proofs.lemmas.Str.{IsUtf8-append, IsUtf8-from_ascii, is_utf8-from_IsUtf8}
use Rattle.json.specs.Token.{Token, begin_object, end_object, begin_array, end_array, key, string, number, boolean, null, bad}
use Rattle.json.specs.Word.{ends_word, word}
use Rattle.json.specs.Lex.{Lexeme, token, comma, colon, string_token, lex, between, fresh, punctuate, tokens}
use Rattle.json.specs.Print.{escape, quoted, token_text, begins, ends, print_from, print, IsNumber, IsPrintable, ArePrintable}
use Rattle.json.specs.Json as json
use Rattle.json.specs.Tree as tree
use Rattle.json.specs.Tree.{json_tokens, HasNumbers, ItemsHaveNumbers, MembersHaveNumbers}
use Rattle.json.proofs.Printed.Decimals.{IsNumber-decimal, IsNumber-signed_decimal}
use Rattle.json.proofs.Printed.Numbers.{lex-number, in_word-ended}
use Rattle.json.proofs.Printed.Strings.{content-escape, lex-escape}
use Rattle.json.proofs.Printed.Tokens.{tokens-print}
use Rattle.json.proofs.Printed.Trees.{value-json_tokens, ArePrintable-json_tokens}
use Rattle.json.proofs.Printed.Utf8.{IsUtf8-are_ascii, IsUtf8-boolean, IsUtf8-quoted}
use Rattle.serde_json.specs.Data as parsed
use Rattle.serde_json.specs.Data.{Num, Data, Items, no_items, item, Members, no_members, member}
use Rattle.serde_json.specs.Read.{number_of, of_json, of_items, of_members, read, max_depth}
use Rattle.serde_json.specs.Written.{number_text, outline, items_outline, members_outline, comma_if, compact_text, items_text, members_text}
use Rattle.serde_json.proofs.Numbers.{number_of-decimal, number_of-negative}
use Rattle.serde_json.proofs.Texts.{print-outline}
use Rattle.model_files.specs.JsonText.{without_mark, in_utf8, value_in}
use Rattle.model_files.proofs.read_back.Members.{AreInOrder, AreReadBack, members_back}

-- ---- values that are read back

-- an integer of 64 bits
abbrev pub IsWellNumber : Num → Type 0
IsWellNumber (parsed.unsigned n) = n < 2 ^ 63
IsWellNumber (parsed.negative (pos n)) = ⊥
IsWellNumber (parsed.negative (negsuc n)) = n < 2 ^ 63
IsWellNumber (parsed.float x) = ⊥

abbrev mutual
  pub IsWell : Data → Type 0
  IsWell parsed.null = Unit {0}
  IsWell (parsed.boolean b) = Unit {0}
  IsWell (parsed.number n) = IsWellNumber n
  IsWell (parsed.string s) = IsUtf8 s
  IsWell (parsed.array ds) = AreWellItems ds
  IsWell (parsed.object ms) = AreWellMembers ms × AreInOrder ms

  pub AreWellItems : Items → Type 0
  AreWellItems no_items = Unit {0}
  AreWellItems (item d ds) = IsWell d × AreWellItems ds

  pub AreWellMembers : Members → Type 0
  AreWellMembers no_members = Unit {0}
  AreWellMembers (member k d ms) = (IsUtf8 k × IsWell d) × AreWellMembers ms

number_back : (n : Num) → IsWellNumber n → of_json (json.number (number_text n)) ≡ Some (parsed.number n)
number_back (parsed.unsigned n) h = ap (option_map parsed.number) (number_of-decimal n (omega (arith, h)))
number_back (parsed.negative (pos n)) h = absurd h
number_back (parsed.negative (negsuc n)) h = ap (option_map parsed.number) (number_of-negative n h)
number_back (parsed.float x) h = absurd h

mutual
  data_back : (d : Data) → IsWell d → of_json (outline d) ≡ Some d
  data_back parsed.null h = refl
  data_back (parsed.boolean b) h = refl
  data_back (parsed.number n) h = number_back n h
  data_back (parsed.string s) h = refl
  data_back (parsed.array ds) h = ap (option_map parsed.array) (items_back ds h)
  data_back (parsed.object ms) h = ap (option_map parsed.object) (members_back ms h.1 (each_back ms h.0))

  items_back : (ds : Items) → AreWellItems ds → of_items (items_outline ds) ≡ Some ds
  items_back no_items h = refl
  items_back (item d ds) h =
      ap (option_and_then (λ x. option_map (item x) (of_items (items_outline ds)))) (data_back d h.0) ∙ ap (option_map (item d)) (items_back ds h.1)

  each_back : (ms : Members) → AreWellMembers ms → AreReadBack ms
  each_back no_members h = tt
  each_back (member k d ms) h = (data_back d h.0.1, each_back ms h.1)

number_fits : (n : Num) → IsWellNumber n → IsNumber (number_text n)
number_fits (parsed.unsigned n) h = IsNumber-decimal n (omega (arith, h))
number_fits (parsed.negative (pos n)) h = absurd h
number_fits (parsed.negative (negsuc n)) h = IsNumber-signed_decimal (negsuc n) h
number_fits (parsed.float x) h = absurd h

mutual
  has_numbers : (d : Data) → IsWell d → HasNumbers (outline d)
  has_numbers parsed.null h = tt
  has_numbers (parsed.boolean b) h = tt
  has_numbers (parsed.number n) h = number_fits n h
  has_numbers (parsed.string s) h = tt
  has_numbers (parsed.array ds) h = items_numbers ds h
  has_numbers (parsed.object ms) h = members_numbers ms h.0

  items_numbers : (ds : Items) → AreWellItems ds → ItemsHaveNumbers (items_outline ds)
  items_numbers no_items h = tt
  items_numbers (item d ds) h = (has_numbers d h.0, items_numbers ds h.1)

  members_numbers : (ms : Members) → AreWellMembers ms → MembersHaveNumbers (members_outline ms)
  members_numbers no_members h = tt
  members_numbers (member k d ms) h = (has_numbers d h.0.1, members_numbers ms h.1)

mutual
  same_depth : (d : Data) → tree.depth (outline d) ≡ parsed.depth d
  same_depth parsed.null = refl
  same_depth (parsed.boolean b) = refl
  same_depth (parsed.number n) = refl
  same_depth (parsed.string s) = refl
  same_depth (parsed.array ds) = ap suc (items_same_depth ds)
  same_depth (parsed.object ms) = ap suc (members_same_depth ms)

  items_same_depth : (ds : Items) → tree.items_depth (items_outline ds) ≡ parsed.items_depth ds
  items_same_depth no_items = refl
  items_same_depth (item d ds) = ap₂ max (same_depth d) (items_same_depth ds)

  members_same_depth : (ms : Members) → tree.members_depth (members_outline ms) ≡ parsed.members_depth ms
  members_same_depth no_members = refl
  members_same_depth (member k d ms) = ap₂ max (same_depth d) (members_same_depth ms)

-- ---- their texts are UTF-8

number_utf8 : (n : Num) → IsWellNumber n → IsUtf8 (number_text n)
number_utf8 (parsed.unsigned n) h = IsUtf8-from_ascii (decimal n) (IsAscii-signed (pos n) h)
number_utf8 (parsed.negative (pos n)) h = absurd h
number_utf8 (parsed.negative (negsuc n)) h = IsUtf8-from_ascii (signed_decimal (negsuc n)) (IsAscii-signed (negsuc n) h)
number_utf8 (parsed.float x) h = absurd h

comma_utf8 : (later : Bool) → IsUtf8 (comma_if later)
comma_utf8 true = IsUtf8-are_ascii (44 ∷ []) refl
comma_utf8 false = IsUtf8-are_ascii [] refl

sign_then : (c : ℕ) (text : List ℕ) → IsUtf8 (c ∷ []) → IsUtf8 text → IsUtf8 (c ∷ text)
sign_then c text u v = IsUtf8-append (c ∷ []) text u v

mutual
  data_utf8 : (d : Data) → IsWell d → IsUtf8 (compact_text d)
  data_utf8 parsed.null h = IsUtf8-are_ascii (token_text null) refl
  data_utf8 (parsed.boolean b) h = IsUtf8-boolean b
  data_utf8 (parsed.number n) h = number_utf8 n h
  data_utf8 (parsed.string s) h = IsUtf8-quoted s h
  data_utf8 (parsed.array ds) h = sign_then 91 (items_text false ds) (IsUtf8-are_ascii (91 ∷ []) refl) (items_utf8 false ds h)
  data_utf8 (parsed.object ms) h = sign_then 123 (members_text false ms) (IsUtf8-are_ascii (123 ∷ []) refl) (members_utf8 false ms h.0)

  items_utf8 : (later : Bool) (ds : Items) → AreWellItems ds → IsUtf8 (items_text later ds)
  items_utf8 later no_items h = IsUtf8-are_ascii (93 ∷ []) refl
  items_utf8 later (item d ds) h =
      IsUtf8-append (comma_if later) (compact_text d ++ items_text true ds) (comma_utf8 later)
      (IsUtf8-append (compact_text d) (items_text true ds) (data_utf8 d h.0) (items_utf8 true ds h.1))

  members_utf8 : (later : Bool) (ms : Members) → AreWellMembers ms → IsUtf8 (members_text later ms)
  members_utf8 later no_members h = IsUtf8-are_ascii (125 ∷ []) refl
  members_utf8 later (member k d ms) h =
      IsUtf8-append (comma_if later) (quoted k ++ 58 ∷ (compact_text d ++ members_text true ms)) (comma_utf8 later)
      (IsUtf8-append (quoted k) (58 ∷ (compact_text d ++ members_text true ms)) (IsUtf8-quoted k h.0.0)
      (sign_then 58 (compact_text d ++ members_text true ms) (IsUtf8-are_ascii (58 ∷ []) refl)
      (IsUtf8-append (compact_text d) (members_text true ms) (data_utf8 d h.0.1) (members_utf8 true ms h.1))))

-- ---- a line feed behind a text says nothing

abbrev lexemes_of : Token → List Lexeme
lexemes_of begin_object = token begin_object ∷ []
lexemes_of end_object = token end_object ∷ []
lexemes_of begin_array = token begin_array ∷ []
lexemes_of end_array = token end_array ∷ []
lexemes_of (key s) = token (string s) ∷ colon ∷ []
lexemes_of (string s) = token (string s) ∷ []
lexemes_of (number s) = token (number s) ∷ []
lexemes_of (boolean b) = token (boolean b) ∷ []
lexemes_of null = token null ∷ []
lexemes_of bad = []

string_lexed : (s rest : List ℕ) → lex between (quoted s ++ rest) ≡ token (string s) ∷ lex between rest
unfolding lex
string_lexed s rest =
    ap (λ l. lex between (34 ∷ l)) (append_assoc (escape s) (34 ∷ []) rest) ∙ ap₂ (λ o l. token (string_token o) ∷ l) (content-escape s rest) (lex-escape s rest)

token_lexed : (t : Token) (rest : List ℕ) → IsPrintable t → (ends t ≡ true → ends_word rest ≡ true) → lex between (token_text t ++ rest) ≡ lexemes_of t ++ lex between rest
unfolding lex word
token_lexed begin_object rest h ended = refl
token_lexed end_object rest h ended = refl
token_lexed begin_array rest h ended = refl
token_lexed end_array rest h ended = refl
token_lexed (key s) rest h ended = ap (lex between) (append_assoc (quoted s) (58 ∷ []) rest) ∙ string_lexed s (58 ∷ rest)
token_lexed (string s) rest h ended = string_lexed s rest
token_lexed (number s) rest h ended = lex-number s rest h (ended refl)
token_lexed (boolean true) rest h ended = ap₂ (λ b l. token (cond b (boolean true) bad) ∷ l) (ended refl) (in_word-ended rest (ended refl))
token_lexed (boolean false) rest h ended = ap₂ (λ b l. token (cond b (boolean false) bad) ∷ l) (ended refl) (in_word-ended rest (ended refl))
token_lexed null rest h ended = ap₂ (λ b l. token (cond b null bad) ∷ l) (ended refl) (in_word-ended rest (ended refl))
token_lexed bad rest h ended = absurd h

comma_lexed : (b : Bool) (rest : List ℕ) → lex between (cond b (44 ∷ []) [] ++ rest) ≡ cond b (comma ∷ []) [] ++ lex between rest
unfolding lex
comma_lexed true rest = refl
comma_lexed false rest = refl

value_ends : (ts : List Token) (more : List ℕ) → ends_word more ≡ true → ends_word (print_from true ts ++ more) ≡ true
unfolding print_from
value_ends [] more e = e
value_ends (begin_object ∷ ts) more e = refl
value_ends (end_object ∷ ts) more e = refl
value_ends (begin_array ∷ ts) more e = refl
value_ends (end_array ∷ ts) more e = refl
value_ends (key s ∷ ts) more e = refl
value_ends (string s ∷ ts) more e = refl
value_ends (number s ∷ ts) more e = refl
value_ends (boolean b ∷ ts) more e = refl
value_ends (null ∷ ts) more e = refl
value_ends (bad ∷ ts) more e = refl

-- the lexemes of tokens, with such a text behind them
abbrev lexemes : Bool → List Token → List Lexeme → List Lexeme
lexemes c [] more = more
lexemes c (t ∷ ts) more = cond (c && begins t) (comma ∷ []) [] ++ (lexemes_of t ++ lexemes (ends t) ts more)

all_lexed : (c : Bool) (ts : List Token) (more : List ℕ) → ArePrintable ts → ends_word more ≡ true → lex between (print_from c ts ++ more) ≡ lexemes c ts (lex between more)
unfolding print_from ArePrintable
all_lexed c [] more h e = refl
all_lexed c (t ∷ ts) more h e =
    ap (lex between) (append_assoc (cond (c && begins t) (44 ∷ []) []) (token_text t ++ print_from (ends t) ts) more
    ∙ ap (λ l. cond (c && begins t) (44 ∷ []) [] ++ l) (append_assoc (token_text t) (print_from (ends t) ts) more))
    ∙ comma_lexed (c && begins t) (token_text t ++ (print_from (ends t) ts ++ more))
    ∙ ap (λ l. cond (c && begins t) (comma ∷ []) [] ++ l)
    (token_lexed t (print_from (ends t) ts ++ more) h.0 (λ f. ap (λ b. ends_word (print_from b ts ++ more)) f ∙ value_ends ts more e)
    ∙ ap (λ l. lexemes_of t ++ l) (all_lexed (ends t) ts more h.1 e))

line_lexed : (ts : List Token) → ArePrintable ts → lex between (print ts ++ 10 ∷ []) ≡ lex between (print ts)
unfolding lex
line_lexed ts h = all_lexed false ts (10 ∷ []) h refl ∙ sym (ap (lex between) (sym (append-nil (print ts))) ∙ all_lexed false ts [] h refl)

-- ---- reading

line_tokens : (d : Data) → IsWell d → tokens (compact_text d ++ 10 ∷ []) ≡ json_tokens (outline d)
line_tokens d h =
    let printable = ArePrintable-json_tokens (outline d) (has_numbers d h) in
    ap (λ (text : List ℕ). tokens (text ++ 10 ∷ [])) (sym (print-outline d))
    ∙ ap (punctuate fresh) (line_lexed (json_tokens (outline d)) printable) ∙ tokens-print (json_tokens (outline d)) printable

-- the value of all tokens
abbrev whole : Option (json.Json × List Token) → Option Data
whole o = option_and_then of_json (option_and_then (λ p. json.if_last p.0 p.1) o)

line_read : (d : Data) → IsWell d → parsed.depth d ≤ max_depth → read (compact_text d ++ 10 ∷ []) ≡ Some d
line_read d h shallow =
    let same = same_depth d in
    ap whole (ap (json.value max_depth) (line_tokens d h ∙ sym (append-nil (json_tokens (outline d)))) ∙ value-json_tokens (outline d) max_depth [] (omega (arith, same, shallow)))
    ∙ data_back d h

-- the text of an object, as a file
pub object_read : (ms : Members) → IsWell (parsed.object ms) → parsed.depth (parsed.object ms) ≤ max_depth → value_in (compact_text (parsed.object ms) ++ 10 ∷ []) ≡ Some (parsed.object ms)
object_read ms h shallow =
    let bytes = compact_text (parsed.object ms) ++ 10 ∷ [] in
    let spelled : IsUtf8 bytes = IsUtf8-append (compact_text (parsed.object ms)) (10 ∷ []) (data_utf8 (parsed.object ms) h) (IsUtf8-are_ascii (10 ∷ []) refl) in
    ap (λ (b : Bool). option_and_then read (cond b (Some bytes) None)) (is_utf8-from_IsUtf8 bytes spelled) ∙ line_read (parsed.object ms) h shallow
