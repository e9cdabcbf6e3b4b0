use Rattle.std.proofs.Common.{◌≡◌, ◌-◌, length}
use Rattle.ocl_parser.specs.Readings.{name_read}
use Rattle.qvtr_parser.specs.Lists.{behind_sign, comma_at, each_read, left}
use Rattle.qvtr_parser.proofs.names.read_more_names.Given as goal

abbrev pub invariant-loop-step : goal.invariant-loop-step
invariant-loop-step l = each_read (comma_at l.tokens.lexemes) (behind_sign (name_read l.tokens.lexemes)) (length l.tokens.lexemes - l._step) l.names l.end ≡ each_read (comma_at l.tokens.lexemes) (behind_sign (name_read l.tokens.lexemes)) (left l.tokens.lexemes l.at) l.fn.names l.at
