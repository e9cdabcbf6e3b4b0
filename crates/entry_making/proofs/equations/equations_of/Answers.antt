use Rattle.std.proofs.Common.{◌≡◌, length, map, ℕ, List, subst, sym, ap, ◌∙◌}
use Rattle.std.specs.Prelude.{Option}
use Rattle.std.specs.Option.{option_map}
use Rattle.call_graph.specs.Graphs.{Graph, Leads}
use Rattle.qv_syntax.specs.declared.program.Program.{Program}
use Rattle.entry_making.specs.Orders.{HasNoCycle, IsOrder}
use Rattle.entry_making.specs.declared.origin.Equation.{Equation}
use Rattle.entry_making.specs.Equations.{Equated, shown_equation, row_of, picked, AreOfRelation, AreInOrder}
use Rattle.entry_making.proofs.EquationLaws.{table, rows, rows_are, rows_acyclic, ordered, in_relation, in_order}
use Rattle.entry_making.proofs.ResultLaws.{told_more}
use Rattle.entry_making.proofs.equations.equations_of.Goals as goal

pub order_of-requires : goal.order_of-requires
order_of-requires c =
    let rel = c.args.rel.now in
    let shown = ap (λ (t : List (Option Equation)). map (option_map shown_equation) t) c.as_slice.ensures.value ∙ c.in_ok-table.ensures in
    subst (λ g. HasNoCycle (Leads g)) (sym (c.as_slice-2.ensures ∙ c.in_ok-rows.ensures ∙ rows_are rel c.as_slice.result.now shown)) (rows_acyclic rel c.requires)

pub returns-clause-within : goal.returns-clause-within
returns-clause-within c =
    let rel = c.args.rel.now in
    let shown = ap (λ (t : List (Option Equation)). map (option_map shown_equation) t) c.as_slice.ensures.value ∙ c.in_ok-table.ensures in
    let order = subst (λ g. IsOrder g c.in_ok-order.order) (c.as_slice-2.ensures ∙ c.in_ok-rows.ensures ∙ rows_are rel c.as_slice.result.now shown) c.in_ok-order.ensures in
    let again = ap (λ (t : List (Option Equation)). map (option_map shown_equation) t) c.as_slice-3.ensures.value ∙ c.in_ok-table.ensures in
    told_more c.picked.result (λ qs. map shown_equation qs ≡ picked (map (option_map shown_equation) c.as_slice-3.result.now) c.as_slice-4.result.now) (λ qs. AreOfRelation rel (map shown_equation qs)) c.picked.ensures (λ qs is.
    subst (AreOfRelation rel) (sym (is ∙ ap (λ (t : List (Option Equated)). picked t c.as_slice-4.result.now) again ∙ ap (picked (table rel)) c.as_slice-4.ensures)) (in_relation rel c.in_ok-order.order order))

pub returns-clause-order : goal.returns-clause-order
returns-clause-order c =
    let rel = c.args.rel.now in
    let shown = ap (λ (t : List (Option Equation)). map (option_map shown_equation) t) c.as_slice.ensures.value ∙ c.in_ok-table.ensures in
    let order = subst (λ g. IsOrder g c.in_ok-order.order) (c.as_slice-2.ensures ∙ c.in_ok-rows.ensures ∙ rows_are rel c.as_slice.result.now shown) c.in_ok-order.ensures in
    let again = ap (λ (t : List (Option Equation)). map (option_map shown_equation) t) c.as_slice-3.ensures.value ∙ c.in_ok-table.ensures in
    told_more c.picked.result (λ qs. map shown_equation qs ≡ picked (map (option_map shown_equation) c.as_slice-3.result.now) c.as_slice-4.result.now) (λ qs. (program : Program) → AreInOrder program rel (map shown_equation qs)) c.picked.ensures (λ qs is program.
    subst (AreInOrder program rel) (sym (is ∙ ap (λ (t : List (Option Equated)). picked t c.as_slice-4.result.now) again ∙ ap (picked (table rel)) c.as_slice-4.ensures)) (in_order rel c.in_ok-order.order order program))
