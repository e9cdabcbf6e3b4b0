use Rattle.std.proofs.lemmas.Result.{IfOk-weaker}
use Rattle.ocl_eval.proofs.QueryLaws.{led_at_caller, right_to_remember}
use Rattle.ocl_eval.proofs.machine.Machine.leave_query.Goals as goal

pub returns-then-self : goal.returns-then-self
returns-then-self c =
    let m = c.args.self.now in
    IfOk-weaker c.remember_value.result _ _
    (λ control kept w wanted led.
    kept w wanted (led_at_caller m c.args.caller c.args.out w wanted led c.replace-parameters.new.dest c.min-self.result c.replace-parameters.ensures.after c.min-self.ensures)
    (right_to_remember m c.args.caller c.args.out w wanted led c.replace-parameters.result c.saturating_sub-least.result c.replace-parameters.ensures.value c.saturating_sub-least.ensures))
    c.remember_value.ensures

pub returns : goal.returns
returns c = λ w wanted led.
    led_at_caller c.args.self.now c.args.caller c.args.out w wanted led c.replace-parameters.new.dest c.min-self.result c.replace-parameters.ensures.after c.min-self.ensures
