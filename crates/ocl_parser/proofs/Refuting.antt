-- Wrong answers that the definitions exclude, each on a small case: what the definition gives, and that it isn't what the wrong
-- code would answer. A contract says that the code's result is what the definition gives, so it refuses that code.
use Rattle.std.specs.Prelude.{◌≡◌, ◌+◌, ℕ, true, List, [], ◌∷◌, codes, None, Some}
use Rattle.std.proofs.Common.{refl, ap, arith}
use Rattle.ql_lex.specs.declared.token.TokenKind.TheVariants as kinds
use Rattle.ql_lex.specs.Lexed.{Lexeme}
use Rattle.ql_lex.specs.Symbols as symbols
use Rattle.ocl_parser.specs.Moves.{move}
use Rattle.ocl_parser.specs.Pieces.{empty, nested}
use Rattle.ocl_parser.specs.Grammar.{InfixForm, is_of_level}
use Rattle.ocl_parser.specs.Runs.{Answer, Tree, Stuck, Deep, answer, run}

-- ---- operators of one level, as in `a - b - c`

-- an operator of level 5, and behind it a part of this level
abbrev behind : ℕ → InfixForm
behind subtree = record { level = 5; subtree = subtree; piece = empty }

pub tighter_part_behind : is_of_level 5 (behind 6) ≡ true
tighter_part_behind = refl

-- `b - c` as the part behind the first `-`
pub minus_groups_to_the_right : is_of_level 5 (behind 5) ≡ true → ⊥
minus_groups_to_the_right e = cc

-- ---- levels of nesting

pub one_level_is_enough : nested empty 1 7 ≡ Some 7
unfolding nested
one_level_is_enough = refl

-- no room for one level, where there may be one
pub nesting_counted_from_one : nested empty 1 7 ≡ None → ⊥
unfolding nested
nesting_counted_from_one e = cc

-- ---- faults

abbrev sign : ℕ → List ℕ → Lexeme
sign at text = record { token = record { kind = kinds.Sign; span = record { start = at; end = at + 1 } }; text = text }

-- `()`: no expression begins with `)`
abbrev nothing_between : List Lexeme
nothing_between = sign 0 (codes "(") ∷ sign 1 (codes ")") ∷ []

abbrev place_of : Answer → ℕ
place_of (Tree e end) = 0
place_of (Stuck at) = at
place_of (Deep at) = 0

pub fault_at_the_second_token : answer nothing_between 3 0 ≡ Stuck 1
unfolding answer run move symbols.symbol_of symbols.symbol_among
fault_at_the_second_token = refl

-- the fault at the token before
pub fault_at_the_token_before : answer nothing_between 3 0 ≡ Stuck 0 → ⊥
unfolding answer run move symbols.symbol_of symbols.symbol_among
fault_at_the_token_before e = let apart : 1 ≡ 0 = ap place_of e in absurd (omega (arith, apart))
