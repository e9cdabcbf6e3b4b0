use Rattle.std.proofs.Common.{◌∙◌, ap}
use Rattle.std.proofs.lemmas.Result.{IfOk-weaker}
use Rattle.ocl_eval.specs.Frames.{cover, outcome_of}
use Rattle.ocl_eval.specs.Worlds.{with_calls}
use Rattle.ocl_eval.proofs.FrameLaws.{iteration_begun}
use Rattle.ocl_eval.proofs.machine.Machine.iterate.Goals as goal

pub returns-in-Many : goal.returns-in-Many
returns-in-Many c =
    let m = c.args.self.now in
    IfOk-weaker c.next_element.result _ _
    (λ control h n. h n ∙ ap (outcome_of m) (iteration_begun (with_calls m.world n) (cover n m) m.scope c.cut.new.self c.in_ok-behind-in-Many.behind.items c.args.x c.args.iterator c.args.variable c.args.body.now c.in-Many.kind c.in-Many.elements c.new-begun.result c.args.calls.now c.in-Many.is c.in_ok-behind-in-Many.ensures.scope c.in_ok-behind-in-Many.ensures.behind c.new-begun.ensures))
    c.next_element.ensures
