use Rattle.std.proofs.Common.{◌≡◌, drop}
use Rattle.ocl_parser.specs.Runs.{run}
use Rattle.ocl_parser.proofs.parsing.read.Given as goal

abbrev pub invariant-loop-at : goal.invariant-loop-at
invariant-loop-at l = run l.levels (drop l.at l.tokens.lexemes) l.reading.stack l.reading.state l.at ≡ run l.levels (drop l.from l.tokens.lexemes) l.fn.reading.stack l.fn.reading.state l.from
