use Rattle.std.proofs.Common.{◌≡◌, ◌-◌, length, []}
use Rattle.qvtr_parser.specs.Lists.{each_read, left}
use Rattle.qvtr_parser.specs.ScriptReadings.{is_name_at, vars_read}
use Rattle.qvtr_parser.proofs.relations.read_all_vars.Given as goal

abbrev pub invariant-loop-step : goal.invariant-loop-step
invariant-loop-step l = each_read (is_name_at l.tokens.lexemes) (vars_read l.tokens.lexemes l.levels) (length l.tokens.lexemes - l._step) l.all l.end ≡ each_read (is_name_at l.tokens.lexemes) (vars_read l.tokens.lexemes l.levels) (left l.tokens.lexemes l.at) [] l.at
