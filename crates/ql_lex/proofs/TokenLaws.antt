-- Laws about single tokens.
use Rattle.std.proofs.Common.{◌≡◌, ℕ, Bool, true, false, List, map, slice_get, Option, Some, None, ap, sym, ◌∙◌, refl}
use Rattle.std.specs.Prelude.{option_map}
use Rattle.std.specs.Option.{option_map_or}
use Rattle.std.specs.Prelude.{◌==◌}
use Rattle.std.proofs.Common.{eq-eqb}
use Rattle.std.specs.Str.{bytes_eq}
use Rattle.std.proofs.lemmas.Slice.Eq.{bytes_eq-Decides}
use Rattle.std.proofs.lemmas.Option.{slice_get-map}
use Rattle.mof_metamodel.specs.declared.span.Span.{Span}
use Rattle.ql_lex.specs.declared.token.Token.{Token}
use Rattle.ql_lex.specs.Lexed.{Lexeme}
use Rattle.ql_lex.specs.Lexemes.{stands, is_same_span}

parted : (l : Option Lexeme) (token : Token) (text : List ℕ) → option_map (λ (l : Lexeme). l.token) l ≡ Some token → option_map (λ (l : Lexeme). l.text) l ≡ Some text
    → l ≡ Some (record { token = token; text = text })
parted None token text a b = cc
parted (Some l) token text a b =
    let e : l.token ≡ token = cc in
    let f : l.text ≡ text = cc in
    ap (λ (t : Token). Some (record { token = t; text = l.text })) e ∙ ap (λ (x : List ℕ). Some (record { token = token; text = x })) f

-- a token and its text make the lexeme at a number
pub lexeme : (ts : List Lexeme) (at : ℕ) (token : Token) (text : List ℕ) → slice_get (map (λ (l : Lexeme). l.token) ts) at ≡ Some token → slice_get (map (λ (l : Lexeme). l.text) ts) at ≡ Some text
    → slice_get ts at ≡ Some (record { token = token; text = text })
lexeme ts at token text a b = parted (slice_get ts at) token text (sym (slice_get-map (λ (l : Lexeme). l.token) ts at) ∙ a) (sym (slice_get-map (λ (l : Lexeme). l.text) ts at) ∙ b)

-- a test at a number with a token, and at one without
pub stands_some : (passes : Lexeme → Bool) (ts : List Lexeme) (at : ℕ) (l : Lexeme) → slice_get ts at ≡ Some l → stands passes ts at ≡ passes l
unfolding stands
stands_some passes ts at l e = ap (λ (o : Option Lexeme). option_map_or passes o false) e

pub stands_none : (passes : Lexeme → Bool) (ts : List Lexeme) (at : ℕ) → slice_get ts at ≡ None → stands passes ts at ≡ false
unfolding stands
stands_none passes ts at e = ap (λ (o : Option Lexeme). option_map_or passes o false) e

-- a test of a text and of a span that is passed
pub same_text : (xs : List ℕ) → bytes_eq xs xs ≡ true
same_text xs = (bytes_eq-Decides xs xs).1 refl

pub same_span : (s : Span) → is_same_span s s ≡ true
same_span s = let a : (s.start == s.start) ≡ true = eq-eqb s.start s.start refl in let b : (s.end == s.end) ≡ true = eq-eqb s.end s.end refl in rw (a, b) refl
