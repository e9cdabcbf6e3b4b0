use Rattle.std.proofs.Common.{◌≡◌, get_or, true≢false, sym, ◌∙◌, inl, inr, arith}
use Rattle.call_graph.specs.declared.mark.Mark.TheVariants.{New}
use Rattle.call_graph.specs.Searches.{mark_at}
use Rattle.call_graph.proofs.MarkLemmas.{new_done, new_open, same_mark}
use Rattle.call_graph.proofs.cycle.is_new.Goals as goal

pub returns-in-Done : goal.returns-in-Done
returns-in-Done c =
    let same : mark_at c.args.marks.now c.args.u ≡ get_or c.args.marks.now c.args.u New = same_mark c.args.marks.now c.args.u New (omega arith) in (
      (λ is. absurd (true≢false (sym is))),
      (λ new. absurd (elim c.in-Done.is [ inl done ↦ new_done (sym new ∙ same ∙ done) | inr begun ↦ new_open (sym new ∙ same ∙ begun) ])),
    )
