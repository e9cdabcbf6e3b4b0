use Rattle.std.proofs.Common.{◌≡◌, ℤ, Bool, List, refl}
use Rattle.mof_metamodel.specs.declared.span.Span.{Span}
use Rattle.qv_syntax.specs.declared.literal.Literal.{Literal}
use Rattle.qv_syntax.specs.declared.name.Name.{Name}
use Rattle.qv_syntax.specs.declared.operator.Operator.{Operator}
use Rattle.qv_syntax.specs.declared.type_tree.Kind.{Kind}
use Rattle.ql_lex.specs.declared.symbol.Symbol.{Symbol}
use Rattle.ql_lex.specs.declared.symbol.Symbol.TheVariants as symbols
use Rattle.ocl_parser.specs.Moves.{operand, refused}
use Rattle.ocl_parser.specs.declared.frame.Frame.{Frame}
use Rattle.ocl_parser.proofs.operands.operand.Goals as goal

-- the symbol is none with which an operand begins or a list ends
record IsUnfit (symbol : Symbol) : Type 0 where
  pub let_word : symbol ≡ symbols.Let → ⊥
  pub if_word : symbol ≡ symbols.If → ⊥
  pub not_word : symbol ≡ symbols.Not → ⊥
  pub operator : (x : Operator) → symbol ≡ symbols.Operator x → ⊥
  pub parenthesis : symbol ≡ symbols.OpenParenthesis → ⊥
  pub null : symbol ≡ symbols.Null → ⊥
  pub invalid : symbol ≡ symbols.Invalid → ⊥
  pub bool : (x : Bool) → symbol ≡ symbols.Bool x → ⊥
  pub number : (x : ℤ) → symbol ≡ symbols.Number x → ⊥
  pub str : (x : Literal) → symbol ≡ symbols.Str x → ⊥
  pub name : (x : Name) → symbol ≡ symbols.Name x → ⊥
  pub kind : (x : Kind) → symbol ≡ symbols.Kind x → ⊥
  pub end : symbol ≡ symbols.CloseParenthesis → ⊥
  pub brace : symbol ≡ symbols.CloseBrace → ⊥

unfit : (stack : List Frame) (symbol : Symbol) (span : Span) → IsUnfit symbol → refused stack ≡ operand stack symbol span
unfit stack symbols.Let span n = absurd (n.let_word refl)
unfit stack symbols.If span n = absurd (n.if_word refl)
unfit stack symbols.Not span n = absurd (n.not_word refl)
unfit stack (symbols.Operator x) span n = absurd (n.operator x refl)
unfit stack symbols.OpenParenthesis span n = absurd (n.parenthesis refl)
unfit stack symbols.Null span n = absurd (n.null refl)
unfit stack symbols.Invalid span n = absurd (n.invalid refl)
unfit stack (symbols.Bool x) span n = absurd (n.bool x refl)
unfit stack (symbols.Number x) span n = absurd (n.number x refl)
unfit stack (symbols.Str x) span n = absurd (n.str x refl)
unfit stack (symbols.Name x) span n = absurd (n.name x refl)
unfit stack (symbols.Kind x) span n = absurd (n.kind x refl)
unfit stack symbols.CloseParenthesis span n = absurd (n.end refl)
unfit stack symbols.CloseBrace span n = absurd (n.brace refl)
unfit stack _ span n = refl

pub returns-in_default : goal.returns-in_default
returns-in_default c =
    let n : IsUnfit c.args.terminal.symbol = record {
      let_word = c.in_default.not-Let;
      if_word = c.in_default.not-If;
      not_word = c.in_default.not-Not;
      operator = c.in_default.not-Operator;
      parenthesis = c.in_default.not-OpenParenthesis;
      null = c.in_default.not-Null;
      invalid = c.in_default.not-Invalid;
      bool = c.in_default.not-Bool;
      number = c.in_default.not-Number;
      str = c.in_default.not-Str;
      name = c.in_default.not-Name;
      kind = c.in_default.not-Kind;
      end = c.in_default.not-CloseParenthesis;
      brace = c.in_default.not-CloseBrace;
    } in
    unfit c.args.stack.now c.args.terminal.symbol c.args.terminal.span n
