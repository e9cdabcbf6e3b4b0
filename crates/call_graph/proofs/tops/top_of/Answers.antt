use Rattle.std.proofs.Common.{◌+◌, sym, ◌∙◌, subst}
use Rattle.call_graph.specs.Tops.{IsTop}
use Rattle.call_graph.proofs.TopLemmas.{top_more}
use Rattle.call_graph.proofs.tops.top_of.Goals as goal

pub loop-i-preserved : goal.loop-i-preserved
loop-i-preserved c =
    subst (IsTop c.args.standings.now c.args.more c.args.row.now (c.loop-i.i + 1)) (sym c.greater-top.ensures)
    (top_more c.args.standings.now c.args.more c.args.row.now c.loop-i.i c.loop-i.top c.need_of.result c.loop-i.invariant
    (λ s is. c.need_of.ensures.most s (c.standing_of-standing.ensures ∙ is))
    (λ none. c.need_of.ensures.none (λ s is. none s (sym c.standing_of-standing.ensures ∙ is))))
