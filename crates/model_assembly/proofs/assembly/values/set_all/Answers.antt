use Rattle.std.proofs.Common.{◌≡◌, ◌∙◌, ◌+◌, suc, ap, arith}
use Rattle.model_assembly.specs.AssemblyValues.{valued, valued_at}
use Rattle.model_assembly.proofs.assembly.values.set_all.Goals as goal

pub loop-i-preserved : goal.loop-i-preserved
loop-i-preserved c =
    let i = c.loop-i.i in
    let vs = c.args.values.now in
    let q : suc i ≡ i + 1 = omega arith in
    c.in_ok-set_at.ensures ∙ ap (λ m. valued_at m vs i) c.loop-i.invariant ∙ ap (valued c.args.model.now vs) q
