use Rattle.serde_json.specs.View.{view}
use Rattle.trace_log.proofs.FormLaws.{trace_is}
use Rattle.trace_log.proofs.trace_reading.read_trace.Goals as goal

pub returns-2-clause-ok : goal.returns-2-clause-ok
returns-2-clause-ok c =
    let d = view c.in_ok-value.value in
    record { value = d; read = c.in_ok-value.ensures.ok; form = trace_is d c.in-Ok-or_drop.field-0 c.in-Ok-or_drop.ensures }
