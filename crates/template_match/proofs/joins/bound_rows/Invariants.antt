use Rattle.std.specs.Prelude.{IfSome}
use Rattle.template_match.specs.JoinRows.{TellsRows}
use Rattle.template_match.proofs.joins.bound_rows.Given as goal

abbrev pub invariant-loop-column : goal.invariant-loop-column
invariant-loop-column l = IfSome l.fewest (λ numbers. TellsRows l.join l.binding.values numbers.now)
