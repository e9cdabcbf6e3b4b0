use Rattle.std.proofs.Common.{List, ap, sym, ◌∙◌}
use Rattle.ocl_parser.specs.Moves.{move}
use Rattle.ocl_parser.specs.declared.frame.Frame.{Frame}
use Rattle.ocl_parser.specs.declared.state.State.{State}
use Rattle.ocl_parser.specs.declared.state.State.TheVariants as states
use Rattle.ocl_parser.proofs.MoveLaws.{at_stack, moved}
use Rattle.ocl_parser.proofs.moves.move_on.Goals as goal

pub returns-in-Operand : goal.returns-in-Operand
unfolding move
returns-in-Operand c = moved c.operand.result c.operand.new.stack c.args.stack.now c.args.state states.Operand c.args.terminal.symbol c.args.terminal.span c.in-Operand.is c.operand.ensures

pub returns-in-After : goal.returns-in-After
unfolding move
returns-in-After c = moved c.after.result c.after.new.stack c.args.stack.now c.args.state (states.After c.in-After.base) c.args.terminal.symbol c.args.terminal.span c.in-After.is c.after.ensures

pub returns-in-Path : goal.returns-in-Path
unfolding move
returns-in-Path c = moved c.on_path.result c.on_path.new.stack c.args.stack.now c.args.state (states.Path c.in-Path.path) c.args.terminal.symbol c.args.terminal.span c.in-Path.is c.on_path.ensures

pub returns-in-PathName : goal.returns-in-PathName
unfolding move
returns-in-PathName c =
    moved c.path_name.result c.args.stack.now c.args.stack.now c.args.state (states.PathName c.in-PathName.path) c.args.terminal.symbol c.args.terminal.span c.in-PathName.is
    (at_stack c.path_name.result (λ (s : List Frame). move s (states.PathName c.in-PathName.path) c.args.terminal.symbol c.args.terminal.span) c.args.stack.now c.path_name.ensures)

pub returns-in-LetName : goal.returns-in-LetName
unfolding move
returns-in-LetName c = c.let_name.ensures c.args.stack.now ∙ sym (ap (λ (p : State). move c.args.stack.now p c.args.terminal.symbol c.args.terminal.span) c.in-LetName.is)

pub returns-in-LetColon : goal.returns-in-LetColon
unfolding move
returns-in-LetColon c = moved c.let_colon.result c.let_colon.new.stack c.args.stack.now c.args.state (states.LetColon c.in-LetColon.start c.in-LetColon.name) c.args.terminal.symbol c.args.terminal.span c.in-LetColon.is c.let_colon.ensures

pub returns-in-Type : goal.returns-in-Type
unfolding move
returns-in-Type c =
    moved c.type_begin.result c.args.stack.now c.args.stack.now c.args.state states.Type c.args.terminal.symbol c.args.terminal.span c.in-Type.is
    (at_stack c.type_begin.result (λ (s : List Frame). move s states.Type c.args.terminal.symbol c.args.terminal.span) c.args.stack.now c.type_begin.ensures)

pub returns-in-TypeParenthesis : goal.returns-in-TypeParenthesis
unfolding move
returns-in-TypeParenthesis c = moved c.type_parenthesis.result c.type_parenthesis.new.stack c.args.stack.now c.args.state (states.TypeParenthesis c.in-TypeParenthesis.start c.in-TypeParenthesis.kind) c.args.terminal.symbol c.args.terminal.span c.in-TypeParenthesis.is c.type_parenthesis.ensures

pub returns-in-TypePath : goal.returns-in-TypePath
unfolding move
returns-in-TypePath c = moved c.type_path.result c.type_path.new.stack c.args.stack.now c.args.state (states.TypePath c.in-TypePath.path) c.args.terminal.symbol c.args.terminal.span c.in-TypePath.is c.type_path.ensures

pub returns-in-TypeName : goal.returns-in-TypeName
unfolding move
returns-in-TypeName c =
    moved c.type_name.result c.args.stack.now c.args.stack.now c.args.state (states.TypeName c.in-TypeName.path) c.args.terminal.symbol c.args.terminal.span c.in-TypeName.is
    (at_stack c.type_name.result (λ (s : List Frame). move s (states.TypeName c.in-TypeName.path) c.args.terminal.symbol c.args.terminal.span) c.args.stack.now c.type_name.ensures)

pub returns-in-TypeEnd : goal.returns-in-TypeEnd
unfolding move
returns-in-TypeEnd c = moved c.type_end.result c.type_end.new.stack c.args.stack.now c.args.state (states.TypeEnd c.in-TypeEnd.ty) c.args.terminal.symbol c.args.terminal.span c.in-TypeEnd.is c.type_end.ensures

pub returns-in-Brace : goal.returns-in-Brace
unfolding move
returns-in-Brace c = moved c.brace.result c.brace.new.stack c.args.stack.now c.args.state (states.Brace c.in-Brace.start c.in-Brace.kind) c.args.terminal.symbol c.args.terminal.span c.in-Brace.is c.brace.ensures

pub returns-in-DotName : goal.returns-in-DotName
unfolding move
returns-in-DotName c = c.dot_name.ensures c.args.stack.now ∙ sym (ap (λ (p : State). move c.args.stack.now p c.args.terminal.symbol c.args.terminal.span) c.in-DotName.is)

pub returns-in-Dotted : goal.returns-in-Dotted
unfolding move
returns-in-Dotted c = moved c.dotted.result c.dotted.new.stack c.args.stack.now c.args.state (states.Dotted c.in-Dotted.base c.in-Dotted.start c.in-Dotted.name) c.args.terminal.symbol c.args.terminal.span c.in-Dotted.is c.dotted.ensures

pub returns-in-ArrowName : goal.returns-in-ArrowName
unfolding move
returns-in-ArrowName c = c.arrow_name.ensures c.args.stack.now ∙ sym (ap (λ (p : State). move c.args.stack.now p c.args.terminal.symbol c.args.terminal.span) c.in-ArrowName.is)

pub returns-in-ArrowParenthesis : goal.returns-in-ArrowParenthesis
unfolding move
returns-in-ArrowParenthesis c = c.arrow_parenthesis.ensures c.args.stack.now ∙ sym (ap (λ (p : State). move c.args.stack.now p c.args.terminal.symbol c.args.terminal.span) c.in-ArrowParenthesis.is)

pub returns-in-ArrowFirst : goal.returns-in-ArrowFirst
unfolding move
returns-in-ArrowFirst c = moved c.arrow_first.result c.arrow_first.new.stack c.args.stack.now c.args.state (states.ArrowFirst c.in-ArrowFirst.base c.in-ArrowFirst.start c.in-ArrowFirst.name) c.args.terminal.symbol c.args.terminal.span c.in-ArrowFirst.is c.arrow_first.ensures

pub returns-in-ArrowSecond : goal.returns-in-ArrowSecond
unfolding move
returns-in-ArrowSecond c = moved c.arrow_second.result c.arrow_second.new.stack c.args.stack.now c.args.state (states.ArrowSecond c.in-ArrowSecond.iterated) c.args.terminal.symbol c.args.terminal.span c.in-ArrowSecond.is c.arrow_second.ensures

pub returns-in-ClassName : goal.returns-in-ClassName
unfolding move
returns-in-ClassName c =
    moved c.class_name.result c.args.stack.now c.args.stack.now c.args.state (states.ClassName c.in-ClassName.called) c.args.terminal.symbol c.args.terminal.span c.in-ClassName.is
    (at_stack c.class_name.result (λ (s : List Frame). move s (states.ClassName c.in-ClassName.called) c.args.terminal.symbol c.args.terminal.span) c.args.stack.now c.class_name.ensures)

pub returns-in-ClassPath : goal.returns-in-ClassPath
unfolding move
returns-in-ClassPath c =
    moved c.class_path.result c.args.stack.now c.args.stack.now c.args.state (states.ClassPath c.in-ClassPath.called c.in-ClassPath.path) c.args.terminal.symbol c.args.terminal.span c.in-ClassPath.is
    (at_stack c.class_path.result (λ (s : List Frame). move s (states.ClassPath c.in-ClassPath.called c.in-ClassPath.path) c.args.terminal.symbol c.args.terminal.span) c.args.stack.now c.class_path.ensures)

pub returns-in-ClassNext : goal.returns-in-ClassNext
unfolding move
returns-in-ClassNext c =
    moved c.class_next.result c.args.stack.now c.args.stack.now c.args.state (states.ClassNext c.in-ClassNext.called c.in-ClassNext.path) c.args.terminal.symbol c.args.terminal.span c.in-ClassNext.is
    (at_stack c.class_next.result (λ (s : List Frame). move s (states.ClassNext c.in-ClassNext.called c.in-ClassNext.path) c.args.terminal.symbol c.args.terminal.span) c.args.stack.now c.class_next.ensures)
