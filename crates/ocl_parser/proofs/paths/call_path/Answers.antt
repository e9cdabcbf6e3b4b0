use Rattle.ocl_parser.proofs.MoveLaws.{so}
use Rattle.ocl_parser.proofs.PathLaws.{call_ends}
use Rattle.ocl_parser.proofs.paths.call_path.Goals as goal

pub returns-in-Err : goal.returns-in-Err
returns-in-Err c =
    so c.after_path.result c.after_path.new.stack _ _ (call_ends c.in-Err.names c.args.stack.now c.args.path c.args.span c.in-Err.ensures.0 c.in-Err.ensures.1) c.after_path.ensures
