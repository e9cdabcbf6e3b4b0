use Rattle.std.proofs.Common.{◌+◌, sym, subst}
use Rattle.call_graph.specs.Tops.{IsGroupTop}
use Rattle.call_graph.proofs.TopLemmas.{group_more}
use Rattle.call_graph.proofs.tops.need_of_group.Goals as goal

pub loop-p-preserved : goal.loop-p-preserved
loop-p-preserved c =
    let whens = c.args.whens.now in
    let wheres = c.args.wheres.now in
    let standings = c.args.standings.now in
    let stack = c.args.stack.now in
    subst (IsGroupTop whens wheres standings stack c.args.from (c.loop-p.p + 1)) (sym c.greater-top.ensures)
    (group_more whens wheres standings stack c.args.from c.loop-p.p c.loop-p.top c.need_of_node.result c.loop-p.invariant c.loop-p.auto.p c.need_of_node.ensures.enough c.need_of_node.ensures.needed)
