use Rattle.std.proofs.Common.{sym, ◌++◌, ◌∙◌, ap}
use Rattle.std.proofs.lemmas.Result.{IfOk-weaker}
use Rattle.ocl_eval.specs.Frames.{without_last, iteration_result, returned, cover, standing, outcome_of}
use Rattle.ocl_eval.specs.Worlds.{with_calls}
use Rattle.ocl_eval.proofs.machine.Machine.resume.Goals as goal

pub returns : goal.returns
returns c =
    let m = c.args.self.now in
    let i = c.in-Element.iteration in
    IfOk-weaker c.next_element.result _ _
    (λ control h n. h n
    ∙ ap (λ s. outcome_of m (record { cover = cover n m; scope = s ++ i.behind.items; out = iteration_result (with_calls m.world n) s i c.in_ok-progress-in-Element.progress })) c.leave-in-Element.ensures
    ∙ ap (λ p. outcome_of m (record { cover = cover n m; scope = without_last m.scope ++ i.behind.items; out = iteration_result (with_calls m.world n) (without_last m.scope) i p })) c.in_ok-progress-in-Element.ensures
    ∙ sym (ap (λ frame. outcome_of m (returned (with_calls m.world 0) frame (standing n m c.args.out))) c.in-Element.is))
    c.next_element.ensures
