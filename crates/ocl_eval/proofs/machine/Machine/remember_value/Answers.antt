use Rattle.std.proofs.Common.{sym, subst}
use Rattle.ocl_eval.specs.Frames.{standing}
use Rattle.ocl_eval.specs.Memos.{IsRemembered}
use Rattle.ocl_eval.specs.Worlds.{with_calls}
use Rattle.ocl_eval.proofs.QueryLaws.{led_with_more}
use Rattle.ocl_eval.proofs.machine.Machine.remember_value.Goals as goal

pub returns : goal.returns
returns c = λ w wanted led right.
    let m = c.args.self.now in
    led_with_more (with_calls m.world 0) w wanted m.memo c.remember.new.self m.stack.items (λ n. standing n m c.args.out) led
    (λ told. c.remember.ensures w told
    (subst (λ args. IsRemembered w (record { query = c.args.query; args = args }) (record { out = c.args.out; least = c.args.least })) (sym c.in_ok-args.ensures) (right c.if-self.false)))
