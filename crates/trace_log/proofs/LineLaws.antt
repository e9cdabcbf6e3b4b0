-- A line feed behind a text of JSON says nothing.
use Rattle.std.proofs.Common.{◌≡◌, ℕ, ◌&&◌, Bool, true, false, cond, List, [], ◌∷◌, ◌++◌, refl, sym, ap, ap₂, ◌∙◌, append_assoc, append-nil}
use Rattle.json.specs.Token.{Token, begin_object, end_object, begin_array, end_array, key, string, number, boolean, null, bad}
use Rattle.json.specs.Word.{ends_word, word}
use Rattle.json.specs.Lex.{Lexeme, token, comma, colon, string_token, lex, between, fresh, punctuate, tokens}
use Rattle.json.specs.Print.{escape, quoted, token_text, begins, ends, print_from, print, IsPrintable, ArePrintable}
use Rattle.json.proofs.Printed.Numbers.{lex-number, in_word-ended}
use Rattle.json.proofs.Printed.Strings.{content-escape, lex-escape}
use Rattle.json.proofs.Printed.Tokens.{tokens-print}

-- the lexemes of a token
abbrev lexemes_of : Token → List Lexeme
lexemes_of begin_object = token begin_object ∷ []
lexemes_of end_object = token end_object ∷ []
lexemes_of begin_array = token begin_array ∷ []
lexemes_of end_array = token end_array ∷ []
lexemes_of (key s) = token (string s) ∷ colon ∷ []
lexemes_of (string s) = token (string s) ∷ []
lexemes_of (number s) = token (number s) ∷ []
lexemes_of (boolean b) = token (boolean b) ∷ []
lexemes_of null = token null ∷ []
lexemes_of bad = []

string_lexed : (s rest : List ℕ) → lex between (quoted s ++ rest) ≡ token (string s) ∷ lex between rest
unfolding lex
string_lexed s rest =
    ap (λ l. lex between (34 ∷ l)) (append_assoc (escape s) (34 ∷ []) rest)
    ∙ ap₂ (λ o l. token (string_token o) ∷ l) (content-escape s rest) (lex-escape s rest)

token_lexed : (t : Token) (rest : List ℕ) → IsPrintable t → (ends t ≡ true → ends_word rest ≡ true)
    → lex between (token_text t ++ rest) ≡ lexemes_of t ++ lex between rest
unfolding lex word
token_lexed begin_object rest h ended = refl
token_lexed end_object rest h ended = refl
token_lexed begin_array rest h ended = refl
token_lexed end_array rest h ended = refl
token_lexed (key s) rest h ended = ap (lex between) (append_assoc (quoted s) (58 ∷ []) rest) ∙ string_lexed s (58 ∷ rest)
token_lexed (string s) rest h ended = string_lexed s rest
token_lexed (number s) rest h ended = lex-number s rest h (ended refl)
token_lexed (boolean true) rest h ended = ap₂ (λ b l. token (cond b (boolean true) bad) ∷ l) (ended refl) (in_word-ended rest (ended refl))
token_lexed (boolean false) rest h ended = ap₂ (λ b l. token (cond b (boolean false) bad) ∷ l) (ended refl) (in_word-ended rest (ended refl))
token_lexed null rest h ended = ap₂ (λ b l. token (cond b null bad) ∷ l) (ended refl) (in_word-ended rest (ended refl))
token_lexed bad rest h ended = absurd h

comma_lexed : (b : Bool) (rest : List ℕ) → lex between (cond b (44 ∷ []) [] ++ rest) ≡ cond b (comma ∷ []) [] ++ lex between rest
unfolding lex
comma_lexed true rest = refl
comma_lexed false rest = refl

-- no word goes on behind a value
value_ends : (ts : List Token) (more : List ℕ) → ends_word more ≡ true → ends_word (print_from true ts ++ more) ≡ true
unfolding print_from
value_ends [] more e = e
value_ends (begin_object ∷ ts) more e = refl
value_ends (end_object ∷ ts) more e = refl
value_ends (begin_array ∷ ts) more e = refl
value_ends (end_array ∷ ts) more e = refl
value_ends (key s ∷ ts) more e = refl
value_ends (string s ∷ ts) more e = refl
value_ends (number s ∷ ts) more e = refl
value_ends (boolean b ∷ ts) more e = refl
value_ends (null ∷ ts) more e = refl
value_ends (bad ∷ ts) more e = refl

-- the lexemes of tokens, with more of them behind
abbrev lexemes : Bool → List Token → List Lexeme → List Lexeme
lexemes c [] more = more
lexemes c (t ∷ ts) more = cond (c && begins t) (comma ∷ []) [] ++ (lexemes_of t ++ lexemes (ends t) ts more)

all_lexed : (c : Bool) (ts : List Token) (more : List ℕ) → ArePrintable ts → ends_word more ≡ true
    → lex between (print_from c ts ++ more) ≡ lexemes c ts (lex between more)
unfolding print_from ArePrintable
all_lexed c [] more h e = refl
all_lexed c (t ∷ ts) more h e =
    ap (lex between) (append_assoc (cond (c && begins t) (44 ∷ []) []) (token_text t ++ print_from (ends t) ts) more
    ∙ ap (λ l. cond (c && begins t) (44 ∷ []) [] ++ l) (append_assoc (token_text t) (print_from (ends t) ts) more))
    ∙ comma_lexed (c && begins t) (token_text t ++ (print_from (ends t) ts ++ more))
    ∙ ap (λ l. cond (c && begins t) (comma ∷ []) [] ++ l)
    (token_lexed t (print_from (ends t) ts ++ more) h.0 (λ f. ap (λ b. ends_word (print_from b ts ++ more)) f ∙ value_ends ts more e)
    ∙ ap (λ l. lexemes_of t ++ l) (all_lexed (ends t) ts more h.1 e))

line_lexed : (ts : List Token) → ArePrintable ts → lex between (print ts ++ 10 ∷ []) ≡ lex between (print ts)
unfolding lex
line_lexed ts h = all_lexed false ts (10 ∷ []) h refl ∙ sym (ap (lex between) (sym (append-nil (print ts))) ∙ all_lexed false ts [] h refl)

pub line_tokens : (ts : List Token) → ArePrintable ts → tokens (print ts ++ 10 ∷ []) ≡ ts
line_tokens ts h = ap (punctuate fresh) (line_lexed ts h) ∙ tokens-print ts h
