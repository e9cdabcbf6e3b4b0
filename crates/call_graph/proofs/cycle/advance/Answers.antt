use Rattle.std.proofs.Common.{◌≡◌, ℕ, ◌<◌, ◌≤◌, List, ◌++◌, ◌∷◌, [], length, set, subst, sym, ap, ◌∙◌, true≢false, get_or, arith}
use Rattle.call_graph.specs.declared.mark.Mark.{Mark}
use Rattle.call_graph.specs.Graphs.{Graph, neighbours, Leads}
use Rattle.call_graph.specs.Searches.{passed_at, ArePassed, IsSearch}
use Rattle.call_graph.proofs.SearchLemmas.{passed_more, row_is, leads_at, met}
use Rattle.call_graph.proofs.cycle.advance.Goals as goal

-- the neighbours that are settled count as passed
passed_on : (g : Graph) (marks : List Mark) (next path row : List ℕ) (u i : ℕ) → row ≡ neighbours g u → IsSearch g marks next path → u < length g →
    i ≤ length row → ArePassed marks row i → IsSearch g marks (set next u i) path
passed_on g marks next path row u i is s inside short passed =
    passed_more g marks next path u i s inside (subst (λ r. i ≤ length r) is short) (subst (λ r. ArePassed marks r i) is passed)

pub returns-then-not-is_new-clause-search : goal.returns-then-not-is_new-clause-search
returns-then-not-is_new-clause-search c =
    let g = c.args.graph.now in
    let row = c.as_slice-row.result.now in
    let is : row ≡ neighbours g c.args.u = row_is g c.args.u row c.index-graph-u.result c.requires.inside c.as_slice-row.ensures c.index-graph-u.is in
    let leads : Leads g c.args.u (get_or row c.first_unsettled-i.result 0) = leads_at g c.args.u c.first_unsettled-i.result row is c.if-i-row.false in
    let here : IsSearch g c.args.marks.now c.args.next.now (c.requires.last.0 ++ c.args.u ∷ []) = subst (IsSearch g c.args.marks.now c.args.next.now) c.requires.last.1 c.requires.search in
    met g c.args.marks.now c.args.next.now c.requires.last.0 c.args.u _ here leads
    (c.first_unsettled-i.ensures.at c.if-i-row.false) (λ new. true≢false (sym (c.is_new.ensures.1 new) ∙ c.if-not-is_new.true))

pub open-requires-clause-leads : goal.open-requires-clause-leads
open-requires-clause-leads c =
    let g = c.args.graph.now in
    let row = c.as_slice-row.result.now in
    let is : row ≡ neighbours g c.args.u = row_is g c.args.u row c.index-graph-u.result c.requires.inside c.as_slice-row.ensures c.index-graph-u.is in
    leads_at g c.args.u c.first_unsettled-i.result row is c.if-i-row.false

pub finish-requires-clause-search : goal.finish-requires-clause-search
finish-requires-clause-search c =
    let g = c.args.graph.now in
    let row = c.as_slice-row.result.now in
    let is : row ≡ neighbours g c.args.u = row_is g c.args.u row c.index-graph-u.result c.requires.inside c.as_slice-row.ensures c.index-graph-u.is in
    passed_on g c.args.marks.now c.args.next.now c.args.path.now row c.args.u c.first_unsettled-i.result is c.requires.search c.requires.inside c.first_unsettled-i.ensures.within c.first_unsettled-i.ensures.before

pub open-requires-clause-search : goal.open-requires-clause-search
open-requires-clause-search c =
    let g = c.args.graph.now in
    let row = c.as_slice-row.result.now in
    let is : row ≡ neighbours g c.args.u = row_is g c.args.u row c.index-graph-u.result c.requires.inside c.as_slice-row.ensures c.index-graph-u.is in
    passed_on g c.args.marks.now c.args.next.now c.args.path.now row c.args.u c.first_unsettled-i.result is c.requires.search c.requires.inside c.first_unsettled-i.ensures.within c.first_unsettled-i.ensures.before

pub finish-requires-clause-settled : goal.finish-requires-clause-settled
finish-requires-clause-settled c =
    let g = c.args.graph.now in
    let row = c.as_slice-row.result.now in
    let is : row ≡ neighbours g c.args.u = row_is g c.args.u row c.index-graph-u.result c.requires.inside c.as_slice-row.ensures c.index-graph-u.is in
    let same : length row ≡ length (neighbours g c.args.u) = ap length is in
    let passed : ArePassed c.args.marks.now (neighbours g c.args.u) c.first_unsettled-i.result = subst (λ r. ArePassed c.args.marks.now r c.first_unsettled-i.result) is c.first_unsettled-i.ensures.before in
    λ k below. passed k (omega (arith, same, below, c.if-i-row.true))

pub first_unsettled-i-requires-clause-before : goal.first_unsettled-i-requires-clause-before
first_unsettled-i-requires-clause-before c =
    let g = c.args.graph.now in
    let row = c.as_slice-row.result.now in
    let is : row ≡ neighbours g c.args.u = row_is g c.args.u row c.index-graph-u.result c.requires.inside c.as_slice-row.ensures c.index-graph-u.is in
    subst (λ r. ArePassed c.args.marks.now r (passed_at c.args.next.now c.args.u)) (sym is) (c.requires.search.passed c.args.u)

pub first_unsettled-i-requires-clause-short : goal.first_unsettled-i-requires-clause-short
first_unsettled-i-requires-clause-short c =
    let g = c.args.graph.now in
    let row = c.as_slice-row.result.now in
    let is : row ≡ neighbours g c.args.u = row_is g c.args.u row c.index-graph-u.result c.requires.inside c.as_slice-row.ensures c.index-graph-u.is in
    subst (λ r. passed_at c.args.next.now c.args.u ≤ length r) (sym is) (c.requires.search.within c.args.u)
