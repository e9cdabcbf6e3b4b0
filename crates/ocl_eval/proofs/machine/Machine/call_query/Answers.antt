use Rattle.std.proofs.Common.{◌≡◌, ◌≤◌, Some, IfSome, subst}
use Rattle.std.specs.BTreeMap.{get}
use Rattle.ocl_eval.specs.declared.query_call.QueryCall.{QueryCall}
use Rattle.ocl_eval.specs.QueryOrder.{call_order}
use Rattle.ocl_eval.proofs.QueryLaws.{led_by_memory}
use Rattle.ocl_eval.proofs.machine.Machine.call_query.Goals as goal
use Rattle.std.proofs.Common.{refl}

pub returns-in-Some : goal.returns-in-Some
returns-in-Some c = λ w wanted led.
    let m = c.args.self.now in
    let call : QueryCall = record { query = c.args.query; args = c.args.args } in
    let found : get call_order m.memo.values call ≡ Some c.in-Some.kept = subst (λ o. IfSome o (λ kept. get call_order m.memo.values call ≡ Some kept)) c.in-Some.is c.in_ok-kept.ensures.kept in
    let enough : c.in-Some.kept.least ≤ m.world.calls = subst (λ o. IfSome o (λ kept. kept.least ≤ m.world.calls)) c.in-Some.is c.in_ok-kept.ensures.enough in
    led_by_memory m call c.in-Some.kept c.in-Some.kept.out c.min-self.result w wanted found enough refl c.min-self.ensures led
