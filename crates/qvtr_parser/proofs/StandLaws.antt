-- Tests of the token of a number.
use Rattle.std.proofs.Common.{◌≡◌, ℕ, Bool, false, List, slice_get, Some, None, sym}
use Rattle.ql_lex.specs.Lexed.{Lexeme}
use Rattle.ql_lex.specs.Lexemes.{stands}
use Rattle.ql_lex.proofs.TokenLaws.{stands_none, stands_some}

pub stands_there : (passes : Lexeme → Bool) (ts : List Lexeme) (at : ℕ) (l : Lexeme) → slice_get ts at ≡ Some l → passes l ≡ stands passes ts at
stands_there passes ts at l e = sym (stands_some passes ts at l e)

pub stands_nowhere : (passes : Lexeme → Bool) (ts : List Lexeme) (at : ℕ) → slice_get ts at ≡ None → false ≡ stands passes ts at
stands_nowhere passes ts at e = sym (stands_none passes ts at e)
