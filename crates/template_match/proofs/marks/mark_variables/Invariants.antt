use Rattle.std.proofs.Common.{◌≡◌, take}
use Rattle.template_match.specs.Marks.{with_marks}
use Rattle.template_match.proofs.marks.mark_variables.Given as goal

abbrev pub invariant-loop-variable : goal.invariant-loop-variable
invariant-loop-variable l = l.marks ≡ with_marks l.fn.marks (take l.variable-index l.variables)
