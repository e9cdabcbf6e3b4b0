use Rattle.std.proofs.Common.{◌∙◌, ◌++◌, ◌≤◌, length, sym, ap, append-nil, arith}
use Rattle.entry_bindings.proofs.StepLaws.{data_ended}
use Rattle.entry_bindings.proofs.starts.data_beside.Goals as goal

pub returns : goal.returns
returns c =
    let past : length c.args.found.now ≤ c.loop-i.i = omega (arith, c.loop-i-test.false) in
    sym (append-nil c.loop-i.values) ∙ ap (λ more. c.loop-i.values ++ more) (sym (data_ended c.args.roots.now c.args.found.now c.loop-i.i past)) ∙ c.loop-i.invariant
