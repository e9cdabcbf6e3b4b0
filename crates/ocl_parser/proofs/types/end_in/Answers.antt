use Rattle.std.proofs.Common.{◌≡◌, List, ◌∷◌, refl}
use Rattle.mof_metamodel.specs.declared.span.Span.{Span}
use Rattle.qv_syntax.specs.declared.operator.Operator.{Operator}
use Rattle.qv_syntax.specs.declared.type_tree.TypeTree.{TypeTree}
use Rattle.ql_lex.specs.declared.symbol.Symbol.{Symbol}
use Rattle.ql_lex.specs.declared.symbol.Symbol.TheVariants as symbols
use Rattle.ocl_parser.specs.Moves.{refused, type_end}
use Rattle.ocl_parser.specs.declared.frame.Frame.{Frame}
use Rattle.ocl_parser.specs.declared.frame.Frame.TheVariants as frames
use Rattle.ocl_parser.proofs.MoveLaws.{so}
use Rattle.ocl_parser.proofs.types.end_in.Goals as goal

-- another symbol ends no type
unfit : (frame : Frame) (stack : List Frame) (ty : TypeTree) (symbol : Symbol) (span : Span) → (symbol ≡ symbols.CloseParenthesis → ⊥) → ((operator : Operator) → symbol ≡ symbols.Operator operator → ⊥)
    → (symbol ≡ symbols.Bar → ⊥) → refused (frame ∷ stack) ≡ type_end (frame ∷ stack) ty symbol span
unfit (frames.OfKind start kind) stack ty symbols.CloseParenthesis span a b d = absurd (a refl)
unfit (frames.OfKind start kind) stack ty _ span a b d = refl
unfit (frames.LetType start name) stack ty (symbols.Operator operator) span a b d = absurd (b operator refl)
unfit (frames.LetType start name) stack ty _ span a b d = refl
unfit (frames.VariableType iterated) stack ty symbols.Bar span a b d = absurd (d refl)
unfit (frames.VariableType iterated) stack ty _ span a b d = refl
unfit _ stack ty symbol span a b d = refl

pub returns-in_default : goal.returns-in_default
returns-in_default c =
    so c.refuse.result c.refuse.new.stack (refused (c.args.frame ∷ c.args.stack.now)) (type_end (c.args.frame ∷ c.args.stack.now) c.args.ty c.args.terminal.symbol c.args.terminal.span)
    (unfit c.args.frame c.args.stack.now c.args.ty c.args.terminal.symbol c.args.terminal.span c.in_default.not-CloseParenthesis c.in_default.not-Operator c.in_default.not-Bar)
    c.refuse.ensures
