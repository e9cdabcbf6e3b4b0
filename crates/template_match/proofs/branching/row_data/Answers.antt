use Rattle.std.specs.Option.{option_copied}
use Rattle.template_match.proofs.CellLaws.{cells_pushed}
use Rattle.template_match.proofs.branching.row_data.Goals as goal

pub loop-number-preserved : goal.loop-number-preserved
loop-number-preserved c =
    cells_pushed c.args.table.now c.rows.result.now c.args.column c.args.numbers.now c.loop-number.number-index _ c.loop-number.data c.add_datum.new.listed (option_copied c.cell_at.result)
    c.loop-number-test.true c.rows.ensures c.loop-number.invariant c.cell_at.ensures c.in_ok-add_datum.ensures
