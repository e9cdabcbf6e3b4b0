use Rattle.trace_log.proofs.FormLaws.{read_exactly}
use Rattle.trace_log.proofs.trace_laws.read_values_are_traces.Goals as goal

pub returns : goal.returns
returns c = read_exactly
