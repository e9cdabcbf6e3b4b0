-- Where an expression ends, and where tokens stop beginning one: the places of faults.
use Rattle.std.specs.Prelude.{◌≡◌, ◌≤◌, ◌<◌, ◌+◌, ◌⊎◌, ℕ, Bool, true, ◌||◌, List, ◌++◌, length, take, Some, codes}
use Rattle.ql_lex.specs.Lexed.{Lexeme}
use Rattle.qv_syntax.specs.declared.expr.Expr.{Expr}
use Rattle.ql_lex.specs.Lexemes.{stands, is_sign, is_word}
use Rattle.ocl_parser.specs.Grammar.{spelled}

-- Some tokens behind those before number k make them an expression, which begins at number `from` and nests to at most so
-- many levels.
pub record BeginsWithin (ts : List Lexeme) (from levels k : ℕ) : Type 0 where
  pub more : List Lexeme
  pub tree : Expr
  pub spelled : spelled (take k ts ++ more) levels tree from ≡ Some (length (take k ts ++ more))

-- the same with any nesting
abbrev pub Begins : List Lexeme → ℕ → ℕ → Type 0
Begins ts from k = (levels : ℕ) × BeginsWithin ts from levels k

-- the longest list of tokens with which some expression begins ends before number k
pub record IsLongest (ts : List Lexeme) (from k : ℕ) : Type 0 where
  pub begins : Begins ts from k
  pub from_on : from ≤ k
  pub within : k ≤ length ts
  pub longest : (k ≡ length ts) ⊎ (¬ Begins ts from (k + 1))

-- a token that opens a level, where it begins or goes on with a part of an expression
abbrev pub opens : Lexeme → Bool
opens l = is_sign (codes "(") l || is_sign (codes "{") l || is_sign (codes "-") l || is_word (codes "let") l || is_word (codes "if") l || is_word (codes "not") l

-- no token before number k opens a level past the last
abbrev pub IsShallow : List Lexeme → ℕ → ℕ → ℕ → Type 0
IsShallow ts from levels k = (j : ℕ) → from ≤ j → j < k → stands opens ts j ≡ true → BeginsWithin ts from levels (j + 1)

-- the token of number k opens a level past the last, and is the first to do so
pub record IsDeep (ts : List Lexeme) (from levels k : ℕ) : Type 0 where
  pub from_on : from ≤ k
  pub opens : stands opens ts k ≡ true
  pub begins : Begins ts from (k + 1)
  pub deep : ¬ BeginsWithin ts from levels (k + 1)
  pub first : IsShallow ts from levels k

-- the longest list is an expression, of this tree
pub record IsTree (ts : List Lexeme) (from levels : ℕ) (tree : Expr) (end : ℕ) : Type 0 where
  pub longest : IsLongest ts from end
  pub spelled : spelled ts levels tree from ≡ Some end

-- the longest list is none, and nests no deeper than it may
pub record IsStuck (ts : List Lexeme) (from levels k : ℕ) : Type 0 where
  pub longest : IsLongest ts from k
  pub shallow : IsShallow ts from levels k
  pub none : (n : ℕ) (tree : Expr) → ¬ (spelled ts n tree from ≡ Some k)
