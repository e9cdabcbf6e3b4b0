-- What is told of a reading.
use Rattle.std.proofs.Common.{◌≡◌, ℕ, Ok, Err, ap, sym, subst}
use Rattle.ql_lex.specs.Lexed.{LexedText}
use Rattle.qv_syntax.specs.declared.script.Script.{Script}
use Rattle.ocl_parser.specs.Readings.{Halts, Read, halted_at}
use Rattle.ocl_parser.specs.declared.error.ParseError.{ParseError}
use Rattle.ocl_parser.specs.declared.halt.Halt.{Halt}
use Rattle.ocl_parser.specs.declared.halt.Halt.TheVariants as halts
use Rattle.ocl_parser.specs.declared.halt.Stop.{Stop}
use Rattle.ocl_parser.specs.declared.halt.Stop.TheVariants as stops
use Rattle.qvtr_parser.specs.Answers.{Answers, result_of}

pub script_told : (text : LexedText) (m : Read Script) (found : Script × ℕ) → m ≡ Ok found → Answers text m (Ok found.0)
script_told text m found e = ap (result_of text) e

stop_told : (text : LexedText) (m : Read Script) (stop : Stop) → m ≡ Err stop → Answers text m (Err (halted_at text (halts.Stop stop)))
stop_told text m (stops.Stuck k) e = ap (result_of text) e
stop_told text m (stops.Deep k) e = ap (result_of text) e

halt_told : (text : LexedText) (m : Read Script) (halt : Halt) → Halts halt m → Answers text m (Err (halted_at text halt))
halt_told text m (halts.Stop stop) h = stop_told text m stop h
halt_told text m halts.NoMemory h = tt

pub halts_told : (text : LexedText) (m : Read Script) (halt : Halt) (error : ParseError) → Halts halt m → error ≡ halted_at text halt → Answers text m (Err error)
halts_told text m halt error h e = subst (λ (x : ParseError). Answers text m (Err x)) (sym e) (halt_told text m halt h)
