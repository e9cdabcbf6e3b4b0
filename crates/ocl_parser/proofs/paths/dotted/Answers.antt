use Rattle.std.proofs.Common.{◌≡◌, ℕ, List, refl, ap, ◌∙◌}
use Rattle.mof_metamodel.specs.declared.span.Span.{Span}
use Rattle.qv_syntax.specs.declared.name.Name.{Name}
use Rattle.qv_syntax.specs.declared.expr.Postfix.TheVariants as postfixes
use Rattle.ql_lex.specs.declared.symbol.Symbol.{Symbol}
use Rattle.ql_lex.specs.declared.symbol.Symbol.TheVariants as symbols
use Rattle.ocl_parser.specs.Moves.{after, dotted, with_postfix}
use Rattle.ocl_parser.specs.declared.frame.Base.{Base}
use Rattle.ocl_parser.specs.declared.frame.Frame.{Frame}
use Rattle.ocl_parser.proofs.MoveLaws.{so}
use Rattle.ocl_parser.proofs.paths.dotted.Goals as goal

-- a symbol that is no `(` stands behind a property
property_ends : (stack : List Frame) (base : Base) (start : ℕ) (name : Name) (symbol : Symbol) (span : Span) → (symbol ≡ symbols.OpenParenthesis → ⊥)
    → after stack (with_postfix base (postfixes.Property name) name.span.end) symbol span ≡ dotted stack base start name symbol span
property_ends stack base start name symbols.OpenParenthesis span n = absurd (n refl)
property_ends stack base start name _ span n = refl

pub returns-in_ok-base-in_default : goal.returns-in_ok-base-in_default
returns-in_ok-base-in_default c =
    let head = c.args.head in
    let stack = c.args.stack.now in
    let span = c.args.terminal.span in
    so c.after.result c.after.new.stack (after stack c.in_ok-base-in_default.base c.args.terminal.symbol span) (dotted stack head.base head.start head.name c.args.terminal.symbol span)
    (ap (λ (b : Base). after stack b c.args.terminal.symbol span) c.in_ok-base-in_default.ensures
    ∙ property_ends stack head.base head.start head.name c.args.terminal.symbol span c.in_default.not-OpenParenthesis)
    c.after.ensures
