use Rattle.trace_log.proofs.SpellingLaws.{one_spelled, no_error}
use Rattle.trace_log.proofs.trace_laws.bytes_are_one_trace.Goals as goal

pub returns-clause-one : goal.returns-clause-one
returns-clause-one c = one_spelled

pub returns-clause-read : goal.returns-clause-read
returns-clause-read c = no_error
