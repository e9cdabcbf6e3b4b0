-- Tokens that pass one test and fail another.
use Rattle.std.proofs.Common.{◌≡◌, ℕ, Bool, true, false, List, sym, ◌∙◌, refl, true≢false}
use Rattle.std.specs.Str.{bytes_eq}
use Rattle.mof_metamodel.specs.declared.span.Span.{Span}
use Rattle.qv_syntax.specs.declared.name.Name.{Name}
use Rattle.ql_lex.specs.declared.token.TokenKind.{TokenKind}
use Rattle.ql_lex.specs.declared.token.TokenKind.TheVariants as kinds
use Rattle.ql_lex.specs.Lexed.{Lexeme}
use Rattle.ql_lex.specs.Lexemes.{is_name, is_sign, is_word, name_text, stands}
use Rattle.ql_lex.proofs.TokenLaws.{stands_some}
use Rattle.ocl_parser.proofs.CompleteRuns.{there}
pub use Rattle.ocl_parser.proofs.TokenApart.{AreApart, apart_at, signs_apart}
use Rattle.ocl_parser.proofs.TokenApart.{same_texts}
use Rattle.qvtr_parser.specs.ScriptReadings.{is_any_name}

abbrev of_kind : TokenKind → List ℕ → Span → Lexeme
of_kind kind text span = record { token = record { kind = kind; span = span }; text = text }

never : {X : Type 0} → false ≡ true → X
never e = absurd (true≢false (sym e))

pub words_apart : (a b : List ℕ) → bytes_eq a b ≡ false → AreApart (is_word a) (is_word b)
words_apart a b other l e = by l.token.kind l.text l.token.span e
  where
    by : (kind : TokenKind) (x : List ℕ) (span : Span) → is_word a (of_kind kind x span) ≡ true → is_word b (of_kind kind x span) ≡ false
    by kinds.Reserved x span e = same_texts x a b other e
    by kind x span e = refl

pub sign_no_word : (a b : List ℕ) → AreApart (is_sign a) (is_word b)
sign_no_word a b l e = by l.token.kind l.text l.token.span e
  where
    by : (kind : TokenKind) (x : List ℕ) (span : Span) → is_sign a (of_kind kind x span) ≡ true → is_word b (of_kind kind x span) ≡ false
    by kinds.Reserved x span e = never e
    by kind x span e = refl

pub word_no_name : (a : List ℕ) → AreApart (is_word a) is_any_name
word_no_name a l e = by l.token.kind l.text l.token.span e
  where
    by : (kind : TokenKind) (x : List ℕ) (span : Span) → is_word a (of_kind kind x span) ≡ true → is_any_name (of_kind kind x span) ≡ false
    by kinds.Name x span e = never e
    by kinds.Quoted x span e = never e
    by kind x span e = refl

pub name_no_sign : (x : Name) (a : List ℕ) → AreApart (is_name x) (is_sign a)
unfolding name_text
name_no_sign x a l e = by l.token.kind l.text l.token.span e
  where
    by : (kind : TokenKind) (y : List ℕ) (span : Span) → is_name x (of_kind kind y span) ≡ true → is_sign a (of_kind kind y span) ≡ false
    by kinds.Sign y span e = never e
    by kind y span e = refl

-- a name is a token of a name
pub name_is_any : (x : Name) (l : Lexeme) → is_name x l ≡ true → is_any_name l ≡ true
unfolding name_text
name_is_any x l e = by l.token.kind l.text l.token.span e
  where
    by : (kind : TokenKind) (y : List ℕ) (span : Span) → is_name x (of_kind kind y span) ≡ true → is_any_name (of_kind kind y span) ≡ true
    by kinds.Name y span e = refl
    by kinds.Quoted y span e = refl
    by kinds.Reserved y span e = never e
    by kinds.Number y span e = never e
    by kinds.Str y span e = never e
    by kinds.Sign y span e = never e

-- what passes one test passes another
pub passes_too : (p q : Lexeme → Bool) → ((l : Lexeme) → p l ≡ true → q l ≡ true) → (ts : List Lexeme) (i : ℕ) → stands p ts i ≡ true → stands q ts i ≡ true
passes_too p q too ts i e =
    let t = there p ts i e in
    stands_some q ts i t.0 t.1 ∙ too t.0 t.2

pub named_at : (ts : List Lexeme) (x : Name) (i : ℕ) → stands (is_name x) ts i ≡ true → stands is_any_name ts i ≡ true
named_at ts x i e = passes_too (is_name x) is_any_name (name_is_any x) ts i e
