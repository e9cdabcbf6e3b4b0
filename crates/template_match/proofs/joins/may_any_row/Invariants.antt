use Rattle.std.proofs.Common.{◌≡◌, drop}
use Rattle.std.specs.List.{list_any}
use Rattle.template_match.specs.Joins.{may_row}
use Rattle.template_match.proofs.joins.may_any_row.Given as goal

abbrev pub invariant-loop-row : goal.invariant-loop-row
invariant-loop-row l = list_any (may_row l.join.variables l.binding.values) (drop l.row-index l.row-items)
    ≡ list_any (may_row l.join.variables l.binding.values) l.row-items
