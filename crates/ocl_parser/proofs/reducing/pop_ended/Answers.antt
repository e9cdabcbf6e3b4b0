use Rattle.ocl_parser.proofs.ReduceLaws.{open_left, none_left}
use Rattle.ocl_parser.proofs.reducing.pop_ended.Goals as goal

pub returns-else-ends : goal.returns-else-ends
returns-else-ends c = λ subtree. open_left c.args.level c.in-Some.frame.now _ c.args.stack.now subtree c.in-Some.ensures c.if-ends.ensures

pub returns-in-None : goal.returns-in-None
returns-in-None c = λ subtree. none_left c.args.level c.args.stack.now subtree c.in-None.ensures
