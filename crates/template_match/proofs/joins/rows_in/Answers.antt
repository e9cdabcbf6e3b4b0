use Rattle.std.proofs.Common.{List, subst, sym, ap, ◌∙◌}
use Rattle.std.specs.List.Sorted.{IsStrictlySortedBy}
use Rattle.std.specs.Ordering.{nat_cmp}
use Rattle.qvtr_semantics.specs.declared.datum.Datum.{Datum}
use Rattle.template_match.specs.JoinRows.{column_value}
use Rattle.template_match.specs.Rows.{row_order}
use Rattle.template_match.proofs.CellLaws.{found_sorted}
use Rattle.template_match.proofs.JoinLaws.{tells_by_value, tells_by_next}
use Rattle.template_match.proofs.joins.rows_in.Goals as goal

pub numbers_with-numbers-requires : goal.numbers_with-numbers-requires
numbers_with-numbers-requires c =
    let order = c.args.order.now in
    subst (λ (rows : List (List Datum)). IsStrictlySortedBy (row_order rows c.args.column order.next) order.numbers) (sym c.rows-rows.ensures) c.requires.order.sorted

pub sorted_with-requires : goal.sorted_with-requires
sorted_with-requires c =
    let order = c.args.order.now in
    let rows = c.rows-rows.result.now in
    let up =
    subst (λ (rows : List (List Datum)). IsStrictlySortedBy (row_order rows c.args.column order.next) order.numbers) (sym c.rows-rows.ensures) c.requires.order.sorted in
    (nat_cmp, found_sorted rows c.args.column order.next c.args.datum.now order.numbers c.numbers_with-numbers.result.now up c.numbers_with-numbers.ensures)

pub returns-in-Some : goal.returns-in-Some
returns-in-Some c =
    let j = c.args.join.now in
    let a = c.args.binding.now.values in
    let order = c.args.order.now in
    let rows = c.rows-rows.result.now in
    let told =
    tells_by_value j a rows c.args.column c.args.datum.now order.numbers c.numbers_with-numbers.result.now c.rows-rows.ensures c.requires.order.all c.requires.value
    c.numbers_with-numbers.ensures in
    tells_by_next j a rows order.next c.in-Some.other.now c.numbers_with-numbers.result.now c.sorted_with.result.now c.rows-rows.ensures told
    (c.in-Some.ensures ∙ ap (λ vs. column_value vs a order.next) c.as_slice.ensures) c.sorted_with.ensures

pub returns-in-None : goal.returns-in-None
returns-in-None c =
    tells_by_value c.args.join.now c.args.binding.now.values c.rows-rows.result.now c.args.column c.args.datum.now c.args.order.now.numbers c.numbers_with-numbers.result.now
    c.rows-rows.ensures c.requires.order.all c.requires.value c.numbers_with-numbers.ensures
