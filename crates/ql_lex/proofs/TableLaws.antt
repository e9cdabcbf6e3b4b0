-- A text that none of a table's is.
use Rattle.std.proofs.Common.{◌≡◌, ℕ, true, false, List, [], ◌∷◌, Option, Some, refl, ◌∙◌, ⊎_elim}
use Rattle.std.specs.Str.{bytes_eq}
use Rattle.std.specs.Cmp.Lexicographic.{bytes_decides}
use Rattle.std.proofs.lemmas.Bool.{cases_Bool, cond-false}
use Rattle.ql_lex.specs.declared.token.Token.{Token}
use Rattle.ql_lex.specs.Lexed.{Lexeme}
use Rattle.ql_lex.specs.Symbols.{symbol_among, symbol_by, symbol_of, terminal_of}
use Rattle.ql_lex.specs.declared.symbol.Symbol.{Symbol}
use Rattle.ql_lex.specs.declared.symbol.Symbol.TheVariants as symbols

abbrev pub IsNone : List ℕ → List (List ℕ × Symbol) → Type 0
IsNone text [] = Unit {0}
IsNone text (e ∷ es) = (text ≡ e.0 → ⊥) × IsNone text es

pub absent : (text : List ℕ) (entries : List (List ℕ × Symbol)) → IsNone text entries → symbol_among text entries ≡ symbols.Other
unfolding symbol_among
absent text [] none = refl
absent text (e ∷ es) none = ⊎_elim
    (λ (same : bytes_eq text e.0 ≡ true). absurd (none.0 ((bytes_decides text e.0).0 same)))
    (λ (other : bytes_eq text e.0 ≡ false). cond-false _ _ _ other ∙ absent text es none.1)
    (cases_Bool (bytes_eq text e.0))

-- the symbol of a token that stands there
pub terminal_some : (l : Option Lexeme) (token : Token) (text : List ℕ) (symbol : Symbol) → l ≡ Some (record { token = token; text = text }) → symbol ≡ symbol_by token.kind text token.span
    → record { symbol = symbol; span = token.span } ≡ terminal_of l
unfolding symbol_of
terminal_some l token text symbol e f = rw (e, f) refl
