use Rattle.std.proofs.Common.{◌∷◌, ◌++◌, [], cond, ap, ◌∙◌, sym, false, get_or, append-nil}
use Rattle.std.specs.List.{filter, range_with_len}
use Rattle.mof_metamodel.proofs.WalkLemmas.{filter_step}
use Rattle.mof_metamodel.proofs.reached.marked.Goals.{then-marks-d+in_ok-push, else-marks-d}
use Rattle.mof_metamodel.proofs.reached.marked.Goals as goal

pub loop-d-preserved : goal.loop-d-preserved
loop-d-preserved c =
    let more = filter_step (λ d. get_or c.args.marks.now d false) c.loop-d.d in
    elim c.if-marks-d.branch [
      | then-marks-d+in_ok-push w ↦ (
          w.classes-is ∙ w.in_ok-push.ensures.ok ∙ ap (λ xs. xs ++ c.loop-d.d ∷ []) c.loop-d.invariant
          ∙ sym (more ∙ ap (λ b. filter (λ d. get_or c.args.marks.now d false) (range_with_len 0 c.loop-d.d) ++ cond b (c.loop-d.d ∷ []) []) w.if-marks-d.true))
      | else-marks-d w ↦ (
          w.classes-is ∙ c.loop-d.invariant ∙ sym (append-nil (filter (λ d. get_or c.args.marks.now d false) (range_with_len 0 c.loop-d.d)))
          ∙ sym (more ∙ ap (λ b. filter (λ d. get_or c.args.marks.now d false) (range_with_len 0 c.loop-d.d) ++ cond b (c.loop-d.d ∷ []) []) w.if-marks-d.false))
    ]
