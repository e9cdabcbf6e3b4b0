use Rattle.std.proofs.Common.{◌≡◌, ◌⊎◌, ℕ, List, length, sym, subst}
use Rattle.call_graph.specs.Tops.{IsTop, IsEnough, IsNeeded}
use Rattle.call_graph.proofs.TopLemmas.{node_enough, node_needed}
use Rattle.call_graph.proofs.tops.need_of_node.Goals as goal

pub returns-clause-enough : goal.returns-clause-enough
returns-clause-enough c =
    let whens = c.args.whens.now in
    let wheres = c.args.wheres.now in
    let standings = c.args.standings.now in
    subst (IsEnough whens wheres standings c.args.u) (sym c.greater.ensures)
    (node_enough whens wheres standings c.args.u c.top_of-by_when.result c.top_of-by_where.result
    (subst (λ (row : List ℕ). IsTop standings 1 row (length row) c.top_of-by_when.result) c.row_of.ensures c.top_of-by_when.ensures)
    (subst (λ (row : List ℕ). IsTop standings 0 row (length row) c.top_of-by_where.result) c.row_of-2.ensures c.top_of-by_where.ensures))

pub returns-clause-needed : goal.returns-clause-needed
returns-clause-needed c =
    let whens = c.args.whens.now in
    let wheres = c.args.wheres.now in
    let standings = c.args.standings.now in
    subst (λ (n : ℕ). (n ≡ 0) ⊎ IsNeeded whens wheres standings c.args.u n) (sym c.greater.ensures)
    (node_needed whens wheres standings c.args.u c.top_of-by_when.result c.top_of-by_where.result
    (subst (λ (row : List ℕ). IsTop standings 1 row (length row) c.top_of-by_when.result) c.row_of.ensures c.top_of-by_when.ensures)
    (subst (λ (row : List ℕ). IsTop standings 0 row (length row) c.top_of-by_where.result) c.row_of-2.ensures c.top_of-by_where.ensures))
