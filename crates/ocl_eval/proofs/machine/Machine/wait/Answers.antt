use Rattle.std.proofs.Common.{◌∙◌, ap}
use Rattle.ocl_eval.specs.declared.frame.Stacked.TheVariants as stacked
use Rattle.ocl_eval.specs.Frames.{stack_outcome, standing}
use Rattle.ocl_eval.specs.Worlds.{with_calls, meaning_of}
use Rattle.ocl_eval.proofs.FrameLaws.{pushed}
use Rattle.ocl_eval.proofs.machine.Machine.wait.Goals as goal

pub returns : goal.returns
returns c = λ n.
    let m = c.args.self.now in
    let s = standing n m (meaning_of (with_calls m.world n) c.args.part.now m.scope) in
    ap (λ xs. stack_outcome (with_calls m.world 0) m.memo xs s) c.in_ok-push.ensures.items ∙ pushed (with_calls m.world 0) m.memo m.stack.items (stacked.Frame c.args.frame) s
