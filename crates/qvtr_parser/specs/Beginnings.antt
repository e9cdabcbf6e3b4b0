-- Where tokens stop beginning a script: the places of faults.
use Rattle.std.specs.Prelude.{◌≡◌, ◌≤◌, ◌<◌, ◌+◌, ℕ, true, List, ◌++◌, length, take}
use Rattle.ql_lex.specs.Lexed.{Lexeme}
use Rattle.ql_lex.specs.Lexemes.{stands}
use Rattle.qv_syntax.specs.declared.script.Script.{Script}
use Rattle.ocl_parser.specs.Beginnings.{opens}
use Rattle.qvtr_parser.specs.Grammar.{IsScriptWithin}

-- some tokens behind those before number k make them a script, which nests to at most so many levels
pub record BeginsWithin (ts : List Lexeme) (levels k : ℕ) : Type 0 where
  pub more : List Lexeme
  pub script : Script
  pub spelled : IsScriptWithin (take k ts ++ more) levels script

-- the same with any nesting
abbrev pub Begins : List Lexeme → ℕ → Type 0
Begins ts k = (levels : ℕ) × BeginsWithin ts levels k

-- where a token before number k opens a level, some script that nests to at most so many levels begins with the tokens up to and with it
abbrev pub IsShallow : List Lexeme → ℕ → ℕ → Type 0
IsShallow ts levels k = (j : ℕ) → j < k → stands opens ts j ≡ true → BeginsWithin ts levels (j + 1)

-- The tokens are no script with any nesting. Some script begins with those before number k, and none with those up to and with the one
-- of number k, if it is one of them. No token before it opens a level past the last.
pub record IsRefused (ts : List Lexeme) (levels k : ℕ) : Type 0 where
  pub within : k ≤ length ts
  pub none : (n : ℕ) (s : Script) → ¬ IsScriptWithin ts n s
  pub begins : Begins ts k
  pub refused : k < length ts → ¬ Begins ts (k + 1)
  pub shallow : IsShallow ts levels k

-- The token of number k opens a level past the last: some script begins with the tokens up to and with it, but none that nests to at
-- most so many levels. It is the first that does so.
pub record IsTooDeep (ts : List Lexeme) (levels k : ℕ) : Type 0 where
  pub opens : stands opens ts k ≡ true
  pub begins : Begins ts (k + 1)
  pub deep : ¬ BeginsWithin ts levels (k + 1)
  pub first : IsShallow ts levels k
