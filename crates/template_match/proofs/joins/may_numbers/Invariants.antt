use Rattle.std.proofs.Common.{◌≡◌, drop}
use Rattle.std.specs.List.{list_any}
use Rattle.template_match.specs.JoinRows.{may_number}
use Rattle.template_match.specs.Joins.{may_join}
use Rattle.template_match.proofs.joins.may_numbers.Given as goal

abbrev pub invariant-loop-number : goal.invariant-loop-number
invariant-loop-number l = list_any (may_number l.join l.binding.values) (drop l.number-index l.numbers) ≡ may_join l.join l.binding.values
