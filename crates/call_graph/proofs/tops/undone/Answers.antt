use Rattle.std.proofs.Common.{ℕ, get_or, sym, ◌∙◌}
use borrow.Author.Count.{below_more}
use Rattle.call_graph.specs.Tops.{IsDone}
use Rattle.call_graph.proofs.tops.undone.Goals as goal

pub loop-i-preserved : goal.loop-i-preserved
loop-i-preserved c =
    let done = c.is_done.ensures.0 c.if-not-is_done.false in
    below_more (λ (k : ℕ). IsDone c.args.standings.now (get_or c.args.row.now k 0)) c.loop-i.i c.loop-i.invariant (done.0, sym c.standing_of.ensures ∙ done.1)
