use Rattle.std.proofs.Common.{◌≡◌, ◌-◌, length}
use Rattle.qvtr_parser.specs.Lists.{each_read, left}
use Rattle.qvtr_parser.specs.ScriptReadings.{begins_domain, domain_read}
use Rattle.qvtr_parser.proofs.domains.read_more_domains.Given as goal

abbrev pub invariant-loop-step : goal.invariant-loop-step
invariant-loop-step l = each_read (begins_domain l.tokens.lexemes) (domain_read l.tokens.lexemes l.levels) (length l.tokens.lexemes - l._step) l.domains l.end ≡ each_read (begins_domain l.tokens.lexemes) (domain_read l.tokens.lexemes l.levels) (left l.tokens.lexemes l.at) l.fn.domains l.at
