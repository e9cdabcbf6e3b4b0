use Rattle.std.proofs.Common.{◌≡◌, ℕ, ◌+◌, List, refl, sym, ap, ◌∙◌}
use Rattle.mof_metamodel.specs.declared.span.Span.{Span}
use Rattle.qv_syntax.specs.declared.operator.Operator.{Operator}
use Rattle.ql_lex.specs.declared.symbol.Symbol.{Symbol}
use Rattle.ql_lex.specs.declared.symbol.Symbol.TheVariants as symbols
use Rattle.ocl_parser.specs.Moves.{Reduced, at_operator, close_by, closed, ended_by, operator_on, reduced}
use Rattle.ocl_parser.specs.declared.frame.Subtree.{Subtree}
use Rattle.ocl_parser.specs.declared.frame.Frame.{Frame}
use Rattle.ocl_parser.proofs.MoveLaws.{so}
use Rattle.ocl_parser.proofs.closing.ended_by.Goals as goal

-- a symbol that is no operator closes
no_operator : (stack : List Frame) (subtree : Subtree) (symbol : Symbol) (span : Span) → ((operator : Operator) → symbol ≡ symbols.Operator operator → ⊥)
    → closed (reduced 0 stack subtree) symbol span ≡ ended_by stack subtree symbol span
no_operator stack subtree (symbols.Operator operator) span n = absurd (n operator refl)
no_operator stack subtree _ span n = refl

pub returns-in_ok-subtree-in-Operator : goal.returns-in_ok-subtree-in-Operator
returns-in_ok-subtree-in-Operator c =
    let operator = c.in-Operator.operator in
    let stack = c.args.stack.now in
    let span = c.args.terminal.span in
    so c.operator_behind.result c.operator_behind.new.stack (operator_on operator c.reduce.new.stack c.in_ok-subtree-in-Operator.subtree) (ended_by stack c.args.subtree c.args.terminal.symbol span)
    (ap (at_operator operator) c.in_ok-subtree-in-Operator.ensures
    ∙ ap (λ (n : ℕ). at_operator operator (reduced (n + 1) stack c.args.subtree)) c.level.ensures
    ∙ sym (ap (λ (s : Symbol). ended_by stack c.args.subtree s span) c.in-Operator.is))
    c.operator_behind.ensures

pub returns-in_ok-subtree-in_default : goal.returns-in_ok-subtree-in_default
returns-in_ok-subtree-in_default c =
    let stack = c.args.stack.now in
    let span = c.args.terminal.span in
    so c.close.result c.close.new.stack (close_by c.reduce-in_default.new.stack c.in_ok-subtree-in_default.subtree c.args.terminal.symbol span) (ended_by stack c.args.subtree c.args.terminal.symbol span)
    (ap (λ (r : Reduced). closed r c.args.terminal.symbol span) c.in_ok-subtree-in_default.ensures
    ∙ no_operator stack c.args.subtree c.args.terminal.symbol span c.in_default.not-Operator)
    c.close.ensures
