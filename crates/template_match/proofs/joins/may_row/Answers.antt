use Rattle.template_match.proofs.JoinLaws.{row_fails, row_passes}
use Rattle.template_match.proofs.joins.may_row.Goals as goal

pub loop-column-preserved : goal.loop-column-preserved
loop-column-preserved c =
    row_passes c.args.variables.now c.args.binding.now.values c.args.row.now c.loop-column.column _ _ c.may_be_in.result c.loop-column-test.true c.loop-column.invariant
    c.may_be_in.ensures c.datum_in.ensures c.if-not-may_be_in.false

pub returns-then-not-may_be_in : goal.returns-then-not-may_be_in
returns-then-not-may_be_in c =
    row_fails c.args.variables.now c.args.binding.now.values c.args.row.now c.loop-column.column _ _ c.may_be_in.result c.loop-column-test.true c.loop-column.invariant
    c.may_be_in.ensures c.datum_in.ensures c.if-not-may_be_in.true
