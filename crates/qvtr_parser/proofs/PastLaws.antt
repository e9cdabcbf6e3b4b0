-- Behind the last token no expression is read.
use Rattle.std.proofs.Common.{◌≡◌, ℕ, ◌<◌, ◌≤◌, List, length, Err, ap, refl, arith}
use Rattle.std.proofs.lemmas.List.{drop_all}
use Rattle.ql_lex.specs.Lexed.{Lexeme}
use Rattle.ocl_parser.specs.Moves.{move}
use Rattle.ocl_parser.specs.Runs.{Stuck, answer, run}
use Rattle.ocl_parser.specs.Readings.{expr_read, read_by}
use Rattle.ocl_parser.specs.declared.halt.Stop.TheVariants as stops

-- behind the last token nothing is read
pub expr_past : (ts : List Lexeme) (levels i : ℕ) → length ts ≤ i → answer ts levels i ≡ Stuck i
unfolding answer run move
expr_past ts levels i past = rw (drop_all i ts past) refl

pub past_halts : (ts : List Lexeme) (levels i : ℕ) → length ts < i → expr_read ts levels i ≡ Err (stops.Stuck i)
unfolding expr_read
past_halts ts levels i past = ap read_by (expr_past ts levels i (omega (arith, past)))
