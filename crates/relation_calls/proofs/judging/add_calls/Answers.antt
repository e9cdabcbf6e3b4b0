use Rattle.std.proofs.Common.{[], ◌∷◌, ◌<◌, arith, length}
use Rattle.std.specs.Option.{option_map}
use Rattle.relation_calls.specs.Names.{call_named, calls_named}
use Rattle.relation_calls.specs.Owing.{IsCallIn}
use Rattle.relation_calls.proofs.OwingLaws.{none_added, more_added, in_whole}
use Rattle.relation_calls.proofs.judging.add_calls.Goals as goal

pub loop-call-init : goal.loop-call-init
loop-call-init c = none_added (IsCallIn c.args.clause (calls_named c.args.calls.now)) c.args.owed.now

pub loop-call-preserved : goal.loop-call-preserved
loop-call-preserved c =
    let within : c.loop-call.call-index < length c.args.calls.now = omega arith in
    let item = c.call-item.result in
    more_added (IsCallIn c.args.clause (calls_named c.args.calls.now)) (IsCallIn c.args.clause (option_map call_named item ∷ []))
    (in_whole c.args.clause c.args.calls.now c.loop-call.call-index item within c.call-item.is) c.args.owed.now c.loop-call.owed c.add_call.new.owed c.loop-call.invariant c.in_ok-add_call.ensures
