use Rattle.std.proofs.Common.{◌≡◌, Some, None, sym, ◌∙◌}
use Rattle.std.specs.Prelude.{slice_get}
use Rattle.qvtr_semantics.specs.declared.out.Out.TheVariants.{Invalid}
use Rattle.ocl_eval.specs.Memos.{call_value}
use Rattle.ocl_eval.specs.Worlds.{with_calls}
use Rattle.ocl_eval.proofs.QueryLaws.{led_by_value, led_exhausted, led_in_body}
use Rattle.ocl_eval.proofs.ScopeLaws.{no_query}
use Rattle.ocl_eval.proofs.machine.Machine.enter_query.Goals as goal

pub returns-then-calls-eq0 : goal.returns-then-calls-eq0
returns-then-calls-eq0 c = λ w wanted led. led_exhausted c.args.self.now c.args.call w wanted c.if-calls-eq0.true led

pub returns-in_ok-push-in-Some : goal.returns-in_ok-push-in-Some
returns-in_ok-push-in-Some c = λ w wanted led.
    let m = c.args.self.now in
    let found : slice_get m.world.program.now.queries c.args.call.query ≡ Some c.in-Some.called.now = sym c.in-Some.ensures in
    led_in_body m c.args.call c.in-Some.called.now c.replace-scope.result c.replace-scope.new.dest c.push.new.self.items w wanted found c.if-calls-eq0.false
    c.replace-scope.ensures.value (c.replace-scope.ensures.after ∙ c.of.ensures ∙ c.new.ensures) c.in_ok-push-in-Some.ensures.items led

pub returns-in-None : goal.returns-in-None
returns-in-None c = λ w wanted led.
    let m = c.args.self.now in
    let call = c.args.call in
    let missing : slice_get m.world.program.now.queries call.query ≡ None = sym c.in-None.ensures in
    led_by_value m w wanted (λ n. call_value m.world n call) (λ n. Invalid) (λ n. no_query (with_calls m.world n) call.query call.args missing) led
