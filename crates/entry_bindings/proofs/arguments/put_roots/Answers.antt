use Rattle.std.proofs.Common.{◌∙◌, ◌≤◌, sym, arith, length, min}
use Rattle.entry_bindings.proofs.StepLaws.{put_ended}
use Rattle.entry_bindings.proofs.arguments.put_roots.Goals as goal

pub returns : goal.returns
returns c =
    let past : min (length c.args.domains.now) (length c.args.given.now) ≤ c.loop-i.i = omega (arith, c.min-count.ensures, c.loop-i-test.false) in
    c.from_vec.ensures ∙ sym (put_ended c.loop-i.slots.items c.args.domains.now c.args.given.now c.loop-i.i past) ∙ c.loop-i.invariant
