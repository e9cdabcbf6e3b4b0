use Rattle.std.proofs.Common.{◌≡◌, take}
use Rattle.template_match.specs.Rows.{cells_in}
use Rattle.template_match.proofs.branching.row_data.Given as goal

abbrev pub invariant-loop-number : goal.invariant-loop-number
invariant-loop-number l = l.data ≡ cells_in l.table l.column (take l.number-index l.numbers)
