use Rattle.std.proofs.Common.{◌≡◌, drop}
use Rattle.std.specs.List.{list_all}
use Rattle.template_match.specs.Joins.{is_bound}
use Rattle.template_match.proofs.joins.are_bound.Given as goal

abbrev pub invariant-loop-variable : goal.invariant-loop-variable
invariant-loop-variable l = list_all (is_bound l.binding.values) (drop l.variable-index l.variables) ≡ list_all (is_bound l.binding.values) l.variables
