use Rattle.std.proofs.Common.{take}
use Rattle.std.specs.Prelude.{All}
use Rattle.template_match.specs.Posed.{HasValue}
use Rattle.repair_cases.proofs.binding_comparisons.have_values.Given as goal

abbrev pub invariant-loop-variable : goal.invariant-loop-variable
invariant-loop-variable l = All (HasValue l.binding.values) (take l.variable-index l.variables)
