use Rattle.std.proofs.Common.{arith, get_or}
use Rattle.mof_metamodel.proofs.QueueLemmas.{has_at}
use Rattle.mof_metamodel.proofs.lineages.join.Goals as goal

pub meet_one-requires-clause-within : goal.meet_one-requires-clause-within
meet_one-requires-clause-within c =
    let test = c.loop-c-test.true in
    let within = c.requires.within (get_or c.args.order.now c.loop-c.c-index 0) (has_at c.args.order.now c.loop-c.c-index (omega (arith, test))) in
    let long = c.loop-c.invariant.1 in
    omega (arith, within, long)
