use Rattle.std.proofs.Common.{◌≡◌, ◌-◌, length}
use Rattle.qvtr_parser.specs.Lists.{behind_sign, comma_at, each_read, left}
use Rattle.qvtr_parser.specs.ScriptReadings.{model_read}
use Rattle.qvtr_parser.proofs.scripts.read_more_models.Given as goal

abbrev pub invariant-loop-step : goal.invariant-loop-step
invariant-loop-step l = each_read (comma_at l.tokens.lexemes) (behind_sign (model_read l.tokens.lexemes)) (length l.tokens.lexemes - l._step) l.models l.end ≡ each_read (comma_at l.tokens.lexemes) (behind_sign (model_read l.tokens.lexemes)) (left l.tokens.lexemes l.at) l.fn.models l.at
