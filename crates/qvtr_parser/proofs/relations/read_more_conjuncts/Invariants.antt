use Rattle.std.proofs.Common.{◌≡◌, ◌-◌, length}
use Rattle.qvtr_parser.specs.Lists.{each_read, left}
use Rattle.qvtr_parser.specs.ScriptReadings.{goes_on, conjunct_read}
use Rattle.qvtr_parser.proofs.relations.read_more_conjuncts.Given as goal

abbrev pub invariant-loop-step : goal.invariant-loop-step
invariant-loop-step l = each_read (goes_on l.tokens.lexemes) (conjunct_read l.tokens.lexemes l.levels) (length l.tokens.lexemes - l._step) l.exprs l.end ≡ each_read (goes_on l.tokens.lexemes) (conjunct_read l.tokens.lexemes l.levels) (left l.tokens.lexemes l.at) l.fn.exprs l.at
