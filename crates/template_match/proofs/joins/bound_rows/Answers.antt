use Rattle.template_match.specs.JoinRows.{TellsRows}
use Rattle.template_match.proofs.JoinLaws.{either_some}
use Rattle.template_match.proofs.joins.bound_rows.Goals as goal

pub loop-column-preserved : goal.loop-column-preserved
loop-column-preserved c =
    either_some (λ numbers. TellsRows c.args.join.now c.args.binding.now.values numbers.now) c.fewer_rows-fewest.result c.loop-column.fewest c.column_rows.result
    c.fewer_rows-fewest.ensures.either c.loop-column.invariant c.column_rows.ensures
