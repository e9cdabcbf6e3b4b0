use Rattle.std.proofs.Common.{List, [], ◌∷◌}
use Rattle.ocl_parser.specs.Grammar.{takes_class}
use Rattle.ocl_parser.specs.Moves.{class_path, on_path}
use Rattle.ocl_parser.specs.declared.frame.Frame.{Frame}
use Rattle.ocl_parser.specs.declared.frame.Frame.TheVariants as frames
use Rattle.ocl_parser.proofs.MoveLaws.{so, at_stack, then_so}
use Rattle.ocl_parser.proofs.paths.first_path.Goals as goal

pub returns-then-takes_class : goal.returns-then-takes_class
returns-then-takes_class c =
    so c.class_path.result c.args.stack.now _ _
    (then_so (takes_class c.args.called.name.text) (class_path c.args.stack.now c.args.called c.args.path c.args.terminal.symbol c.args.terminal.span) (on_path (frames.Arguments c.args.called [] ∷ c.args.stack.now) c.args.path c.args.terminal.symbol c.args.terminal.span) c.if-takes_class.ensures)
    (at_stack c.class_path.result (λ (s : List Frame). class_path s c.args.called c.args.path c.args.terminal.symbol c.args.terminal.span) c.args.stack.now c.class_path.ensures)
