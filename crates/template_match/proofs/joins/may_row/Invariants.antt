use Rattle.std.proofs.Common.{◌≡◌, drop}
use Rattle.template_match.specs.Joins.{may_row}
use Rattle.template_match.proofs.joins.may_row.Given as goal

abbrev pub invariant-loop-column : goal.invariant-loop-column
invariant-loop-column l = may_row (drop l.column l.variables) l.binding.values (drop l.column l.row) ≡ may_row l.variables l.binding.values l.row
