use Rattle.std.proofs.Common.{arith}
use Rattle.ocl_parser.proofs.MoveLaws.{so}
use Rattle.ocl_parser.proofs.PathLaws.{names_full}
use Rattle.ocl_parser.proofs.paths.on_path.Goals as goal

pub returns-else-len-lt-PATH_NAMES : goal.returns-else-len-lt-PATH_NAMES
returns-else-len-lt-PATH_NAMES c =
    so c.after_path.result c.after_path.new.stack _ _ (names_full c.args.stack.now c.args.path c.args.terminal.symbol c.args.terminal.span c.in-DoubleColon.is (omega arith)) c.after_path.ensures
