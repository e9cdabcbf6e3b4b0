use Rattle.std.proofs.Common.{◌≡◌, List, [], ◌∷◌, refl}
use Rattle.qv_syntax.specs.declared.operator.Operator.{Operator}
use Rattle.ocl_parser.specs.Moves.{operator_on, to}
use Rattle.ocl_parser.specs.declared.frame.Subtree.{Subtree}
use Rattle.ocl_parser.specs.declared.frame.Frame.{Frame}
use Rattle.ocl_parser.specs.declared.frame.Frame.TheVariants as frames
use Rattle.ocl_parser.specs.declared.state.State.TheVariants as states
use Rattle.ocl_parser.proofs.closing.operator_behind.Goals as goal

-- where nothing is open the operator begins a row
first_row : (operator : Operator) (stack left : List Frame) (subtree : Subtree) → stack ≡ [] → left ≡ []
    → operator_on operator stack subtree ≡ to (frames.Row subtree [] operator ∷ left) states.Operand
first_row operator stack left subtree one two = rw (one, two) refl

pub returns-in-None : goal.returns-in-None
returns-in-None c = rw (first_row c.args.operator c.args.stack.now c.pop.new.self c.args.subtree c.in-None.ensures.0 c.in-None.ensures.1) assumption
