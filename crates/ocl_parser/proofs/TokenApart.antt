-- Signs that are not one another.
use Rattle.std.proofs.Common.{◌≡◌, ℕ, Bool, true, false, List, ap, ◌∙◌, refl}
use Rattle.std.specs.Str.{bytes_eq}
use Rattle.std.proofs.lemmas.Slice.Eq.{bytes_eq-Decides}
use Rattle.mof_metamodel.specs.declared.span.Span.{Span}
use Rattle.ql_lex.specs.declared.token.TokenKind.{TokenKind}
use Rattle.ql_lex.specs.declared.token.TokenKind.TheVariants as kinds
use Rattle.ql_lex.specs.Lexed.{Lexeme}
use Rattle.ql_lex.specs.Lexemes.{is_sign, stands}
use Rattle.ql_lex.proofs.TokenLaws.{stands_some}
use Rattle.ocl_parser.proofs.CompleteRuns.{there}

-- two tests that no token passes both
abbrev pub AreApart : (Lexeme → Bool) → (Lexeme → Bool) → Type 0
AreApart p q = (l : Lexeme) → p l ≡ true → q l ≡ false

pub apart_at : (p q : Lexeme → Bool) → AreApart p q → (ts : List Lexeme) (i : ℕ) → stands p ts i ≡ true → stands q ts i ≡ false
apart_at p q apart ts i e =
    let t = there p ts i e in
    stands_some q ts i t.0 t.1 ∙ apart t.0 t.2

abbrev of_kind : TokenKind → List ℕ → Span → Lexeme
of_kind kind text span = record { token = record { kind = kind; span = span }; text = text }

pub same_texts : (x a b : List ℕ) → bytes_eq a b ≡ false → bytes_eq x a ≡ true → bytes_eq x b ≡ false
same_texts x a b other e = ap (λ (y : List ℕ). bytes_eq y b) ((bytes_eq-Decides x a).0 e) ∙ other

pub signs_apart : (a b : List ℕ) → bytes_eq a b ≡ false → AreApart (is_sign a) (is_sign b)
signs_apart a b other l e = by l.token.kind l.text l.token.span e
  where
    by : (kind : TokenKind) (x : List ℕ) (span : Span) → is_sign a (of_kind kind x span) ≡ true → is_sign b (of_kind kind x span) ≡ false
    by kinds.Sign x span e = same_texts x a b other e
    by kind x span e = refl
