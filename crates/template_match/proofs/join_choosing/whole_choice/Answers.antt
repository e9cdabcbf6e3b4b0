use Rattle.std.proofs.Common.{subst, sym}
use Rattle.template_match.specs.JoinRows.{TellsRows}
use Rattle.template_match.proofs.JoinLaws.{tells_all}
use Rattle.template_match.proofs.join_choosing.whole_choice.Goals as goal

pub rows_choice-requires-clause-rows : goal.rows_choice-requires-clause-rows
rows_choice-requires-clause-rows c =
    let j = c.args.join.now in
    let a = c.args.binding.now.values in
    subst (TellsRows j a) (sym c.as_slice-numbers.ensures) (tells_all j a c.in-Some-order_by.order.now.numbers c.in-Some-order_by.ensures.all)
