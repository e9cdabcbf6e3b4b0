use Rattle.std.proofs.Common.{◌≡◌, drop}
use Rattle.std.specs.List.{find}
use Rattle.template_match.specs.Prepared.{problem_in}
use Rattle.template_match.specs.Search.{usable_variable, sought}
use Rattle.template_match.proofs.opening.usable_variable.Given as goal

abbrev pub invariant-loop-variable : goal.invariant-loop-variable
invariant-loop-variable l = find (usable_variable (problem_in l.prepared) l.binding.values) (drop l.variable-index (sought (problem_in l.prepared)))
    ≡ find (usable_variable (problem_in l.prepared) l.binding.values) (sought (problem_in l.prepared))
