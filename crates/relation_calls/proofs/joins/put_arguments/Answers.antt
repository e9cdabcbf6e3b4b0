use Rattle.std.proofs.Common.{◌∙◌, ◌≤◌, sym, arith, length, min}
use Rattle.relation_calls.proofs.MakingLaws.{ended_arguments}
use Rattle.relation_calls.proofs.joins.put_arguments.Goals as goal

pub returns : goal.returns
returns c =
    let past : min (length c.args.domains.now) (length c.args.args.now) ≤ c.loop-i.i = omega (arith, c.min-count.ensures, c.loop-i-test.false) in
    sym (ended_arguments c.loop-i.places.items c.args.domains.now c.args.args.now c.loop-i.i past) ∙ c.loop-i.invariant
