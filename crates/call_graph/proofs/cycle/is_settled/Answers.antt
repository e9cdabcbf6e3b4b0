use Rattle.std.proofs.Common.{◌≡◌, get_or, true≢false, sym, ◌∙◌, inl, inr, arith}
use Rattle.call_graph.specs.declared.mark.Mark.TheVariants.{New}
use Rattle.call_graph.specs.Searches.{mark_at}
use Rattle.call_graph.proofs.MarkLemmas.{new_done, open_done, same_mark}
use Rattle.call_graph.proofs.cycle.is_settled.Goals as goal

pub returns-in-New : goal.returns-in-New
returns-in-New c =
    let same : mark_at c.args.marks.now c.args.u ≡ get_or c.args.marks.now c.args.u New = same_mark c.args.marks.now c.args.u New (omega arith) in (
      (λ is. absurd (true≢false (sym is))),
      (λ done. absurd (elim c.in-New.is [ inl new ↦ new_done (sym new ∙ sym same ∙ done) | inr begun ↦ open_done (sym begun ∙ sym same ∙ done) ])),
    )
