use Rattle.std.proofs.Common.{◌∙◌}
use Rattle.ocl_parser.proofs.ReduceLaws.{ended_left}
use Rattle.ocl_parser.proofs.reducing.reduce.Goals as goal

pub loop-frame-preserved : goal.loop-frame-preserved
loop-frame-preserved c =
    ended_left c.args.level c.in-Some.frame c.pop_ended.new.stack c.loop-frame.stack c.loop-frame.subtree c.in_ok-subtree.subtree c.in-Some.ensures.0 c.in-Some.ensures.1 c.in_ok-subtree.ensures ∙ c.loop-frame.invariant
