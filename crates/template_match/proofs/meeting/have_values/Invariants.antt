use Rattle.std.proofs.Common.{◌≡◌, drop}
use Rattle.qvtr_semantics.specs.Bindings.{have_values}
use Rattle.template_match.proofs.meeting.have_values.Given as goal

abbrev pub invariant-loop-variable : goal.invariant-loop-variable
invariant-loop-variable l = have_values l.task.program.now l.task.models.now l.task.rel.now (drop l.variable-index l.variables) l.binding.values
    ≡ have_values l.task.program.now l.task.models.now l.task.rel.now l.variables l.binding.values
