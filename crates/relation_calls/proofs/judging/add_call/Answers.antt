use Rattle.std.proofs.Common.{[], ◌∷◌}
use Rattle.std.specs.Option.{option_map}
use Rattle.std.proofs.lemmas.Result.{on_ok_weaker}
use Rattle.relation_calls.specs.Names.{call_named}
use Rattle.relation_calls.specs.Owing.{IsCallIn}
use Rattle.relation_calls.proofs.OwingLaws.{none_added, one_added, copied}
use Rattle.relation_calls.proofs.judging.add_call.Goals as goal

pub returns-in_ok-name-in-Some : goal.returns-in_ok-name-in-Some
returns-in_ok-name-in-Some c =
    on_ok_weaker c.push.result
    (one_added (IsCallIn c.args.clause (option_map call_named c.args.call.now ∷ [])) c.args.owed.now c.push.new.self _
    (copied c.args.clause c.args.call.now c.in-Some.name c.in_ok-name-in-Some.name c.in-Some.is c.in_ok-name-in-Some.ensures))
    c.push.ensures.ok

pub returns-in-None : goal.returns-in-None
returns-in-None c = none_added (IsCallIn c.args.clause (option_map call_named c.args.call.now ∷ [])) c.args.owed.now
