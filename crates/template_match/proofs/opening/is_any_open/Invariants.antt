use Rattle.std.proofs.Common.{◌≡◌, drop}
use Rattle.std.specs.List.{list_any}
use Rattle.template_match.specs.Prepared.{problem_in}
use Rattle.template_match.specs.Search.{is_open, sought}
use Rattle.template_match.proofs.opening.is_any_open.Given as goal

abbrev pub invariant-loop-variable : goal.invariant-loop-variable
invariant-loop-variable l = list_any (is_open (problem_in l.prepared) l.binding.values) (drop l.variable-index (sought (problem_in l.prepared)))
    ≡ list_any (is_open (problem_in l.prepared) l.binding.values) (sought (problem_in l.prepared))
