use Rattle.std.proofs.Common.{refl, ◌∙◌, ap}
use Rattle.std.proofs.lemmas.Result.{IfOk-weaker}
use Rattle.ocl_eval.specs.Frames.{called, standing, outcome_of}
use Rattle.ocl_eval.specs.Worlds.{with_calls, call_of}
use Rattle.ocl_eval.proofs.FormLaws.{iterator_is}
use Rattle.ocl_eval.proofs.machine.Machine.make_call.Goals as goal

pub returns-in_ok-x-in-Iterator : goal.returns-in_ok-x-in-Iterator
returns-in_ok-x-in-Iterator c =
    let m = c.args.self.now in
    IfOk-weaker c.iterate.result _ _
    (λ control h n.
    let w = with_calls m.world n in
    h n ∙ ap (λ x. outcome_of m (standing n m (called w m.scope x c.args.calls.now)))
    (iterator_is w c.args.call.now m.scope c.in_ok-x-in-Iterator.x _ c.in-Iterator.iterator c.in-Iterator.variable c.in-Iterator.body c.get.result.now c.in-Iterator.is c.get.ensures refl
    ∙ ap (call_of w c.args.call.now m.scope) c.in_ok-x-in-Iterator.ensures))
    c.iterate.ensures
