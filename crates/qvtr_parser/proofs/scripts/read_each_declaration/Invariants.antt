use Rattle.std.proofs.Common.{◌≡◌, ◌-◌, length, []}
use Rattle.qvtr_parser.specs.Lists.{each_read, left}
use Rattle.qvtr_parser.specs.ScriptReadings.{begins_declaration, declaration_read}
use Rattle.qvtr_parser.proofs.scripts.read_each_declaration.Given as goal

abbrev pub invariant-loop-step : goal.invariant-loop-step
invariant-loop-step l = each_read (begins_declaration l.tokens.lexemes) (declaration_read l.tokens.lexemes l.levels) (length l.tokens.lexemes - l._step) l.declarations l.end ≡ each_read (begins_declaration l.tokens.lexemes) (declaration_read l.tokens.lexemes l.levels) (left l.tokens.lexemes l.at) [] l.at
