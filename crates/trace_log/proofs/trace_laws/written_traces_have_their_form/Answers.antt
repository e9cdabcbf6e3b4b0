use Rattle.trace_log.proofs.HeldLaws.{trace_form}
use Rattle.trace_log.proofs.trace_laws.written_traces_have_their_form.Goals as goal

pub returns : goal.returns
returns c = trace_form
