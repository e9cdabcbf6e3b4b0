use borrow.Author.Tests.{ltb-true}
use Rattle.std.proofs.Common.{length, refl, sym, ap, subst, ◌∙◌}
use Rattle.std.specs.Prelude.{slice_get, List}
use Rattle.std.proofs.lemmas.Option.{slice_get_read}
use Rattle.qvtr_semantics.specs.declared.datum.Datum.{Datum}
use Rattle.template_match.specs.Rows.{IsRowOrder}
use Rattle.template_match.proofs.match_table.MatchTable.order_by.Goals as goal

pub returns-in-Some : goal.returns-in-Some
returns-in-Some c =
    let column = c.args.column in
    let orders = c.as_slice.result.now in
    let order = c.in-Some.order.now in
    let at = slice_get_read orders (length orders) column order refl (ltb-true column (length orders) (sym c.in-Some.ensures.lookup.0)) c.in-Some.ensures.lookup.1 in
    subst (λ (rows : List (List Datum)). IsRowOrder rows column order.next order.numbers) c.self.view_is
    (c.self.invariant column order (ap (λ xs. slice_get xs column) (sym c.as_slice.ensures) ∙ at))
