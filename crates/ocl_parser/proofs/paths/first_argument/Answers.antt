use Rattle.std.proofs.Common.{◌≡◌, List, [], ◌∷◌, ap, ◌∙◌}
use Rattle.qv_syntax.specs.declared.expr.Expr.{Expr}
use Rattle.ocl_parser.specs.Grammar.{takes_class}
use Rattle.ocl_parser.specs.Moves.{operand, refused}
use Rattle.ocl_parser.specs.declared.frame.Frame.{Frame}
use Rattle.ocl_parser.specs.declared.frame.Frame.TheVariants as frames
use Rattle.ocl_parser.proofs.MoveLaws.{so, else_so}
use Rattle.ocl_parser.proofs.paths.first_argument.Goals as goal

pub returns-in-Ok-or_drop : goal.returns-in-Ok-or_drop
returns-in-Ok-or_drop c =
    let opened : c.push.new.self ≡ frames.Arguments c.args.called [] ∷ c.args.stack.now =
    c.in-Ok-or_drop.ensures.ok ∙ ap (λ (vs : List Expr). frames.Arguments c.args.called vs ∷ c.args.stack.now) c.new-values.ensures in
    so c.operand.result c.operand.new.stack _ _
    (ap (λ (s : List Frame). operand s c.args.terminal.symbol c.args.terminal.span) opened
    ∙ else_so (takes_class c.args.called.name.text) (refused c.args.stack.now) (operand (frames.Arguments c.args.called [] ∷ c.args.stack.now) c.args.terminal.symbol c.args.terminal.span) c.if-takes_class.ensures)
    c.operand.ensures
