use Rattle.std.proofs.Common.{sym, ap, ◌∙◌}
use Rattle.std.proofs.lemmas.Result.{IfOk-weaker}
use Rattle.ocl_eval.specs.Frames.{standing, outcome_below}
use Rattle.ocl_eval.specs.Worlds.{with_calls}
use Rattle.ocl_eval.proofs.QueryLaws.{led_by_outcomes}
use Rattle.ocl_eval.proofs.machine.Machine.hand_on.Goals as goal

pub returns-in-Frame : goal.returns-in-Frame
returns-in-Frame c =
    let m = c.args.self.now in
    IfOk-weaker c.resume.result _ _
    (λ control same w wanted led.
    led_by_outcomes w wanted _ _
    (λ n. same n ∙ sym (ap (λ top. outcome_below (with_calls m.world 0) m.memo m.stack.items top (standing n m c.args.out)) c.in-Frame.is)) led)
    c.resume.ensures

pub returns-in-Caller : goal.returns-in-Caller
returns-in-Caller c =
    let m = c.args.self.now in
    IfOk-weaker c.leave_query.result _ _
    (λ control left w wanted led.
    left w wanted
    (led_by_outcomes w wanted _ _ (λ n. sym (ap (λ top. outcome_below (with_calls m.world 0) m.memo m.stack.items top (standing n m c.args.out)) c.in-Caller.is)) led))
    c.leave_query.ensures
