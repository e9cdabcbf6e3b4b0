use Rattle.std.proofs.Common.{◌≡◌, ◌-◌, length}
use Rattle.qvtr_parser.specs.Lists.{behind_sign, comma_at, each_read, left}
use Rattle.qvtr_parser.specs.ScriptReadings.{param_read}
use Rattle.qvtr_parser.proofs.queries.read_more_params.Given as goal

abbrev pub invariant-loop-step : goal.invariant-loop-step
invariant-loop-step l = each_read (comma_at l.tokens.lexemes) (behind_sign (param_read l.tokens.lexemes l.levels)) (length l.tokens.lexemes - l._step) l.params l.end ≡ each_read (comma_at l.tokens.lexemes) (behind_sign (param_read l.tokens.lexemes l.levels)) (left l.tokens.lexemes l.at) l.fn.params l.at
