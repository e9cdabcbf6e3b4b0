-- A symbol that ends no part of a construct.
use Rattle.std.proofs.Common.{◌≡◌, List, ◌∷◌, refl}
use Rattle.mof_metamodel.specs.declared.span.Span.{Span}
use Rattle.ocl_parser.specs.Moves.{close_by, refused}
use Rattle.ql_lex.specs.declared.symbol.Symbol.{Symbol}
use Rattle.ql_lex.specs.declared.symbol.Symbol.TheVariants as symbols
use Rattle.ocl_parser.specs.declared.frame.Subtree.{Subtree}
use Rattle.ocl_parser.specs.declared.frame.Frame.{Frame}
use Rattle.ocl_parser.specs.declared.frame.Frame.TheVariants as frames

-- the symbol is none of those that end a part
pub record IsUnfit (symbol : Symbol) : Type 0 where
  pub parenthesis : symbol ≡ symbols.CloseParenthesis → ⊥
  pub brace : symbol ≡ symbols.CloseBrace → ⊥
  pub comma : symbol ≡ symbols.Comma → ⊥
  pub then_word : symbol ≡ symbols.Then → ⊥
  pub else_word : symbol ≡ symbols.Else → ⊥
  pub endif_word : symbol ≡ symbols.Endif → ⊥
  pub in_word : symbol ≡ symbols.In → ⊥

pub unfit : (frame : Frame) (stack : List Frame) (subtree : Subtree) (symbol : Symbol) (span : Span) → IsUnfit symbol
    → close_by (frame ∷ stack) subtree symbol span ≡ refused (frame ∷ stack)
unfit (frames.Parens start) stack subtree symbols.CloseParenthesis span n = absurd (n.parenthesis refl)
unfit (frames.Parens start) stack subtree _ span n = refl
unfit (frames.Arguments called values) stack subtree symbols.CloseParenthesis span n = absurd (n.parenthesis refl)
unfit (frames.Arguments called values) stack subtree symbols.Comma span n = absurd (n.comma refl)
unfit (frames.Arguments called values) stack subtree _ span n = refl
unfit (frames.Elements start kind elements) stack subtree symbols.CloseBrace span n = absurd (n.brace refl)
unfit (frames.Elements start kind elements) stack subtree symbols.Comma span n = absurd (n.comma refl)
unfit (frames.Elements start kind elements) stack subtree _ span n = refl
unfit (frames.Body iterated ty) stack subtree symbols.CloseParenthesis span n = absurd (n.parenthesis refl)
unfit (frames.Body iterated ty) stack subtree _ span n = refl
unfit (frames.If start) stack subtree symbols.Then span n = absurd (n.then_word refl)
unfit (frames.If start) stack subtree _ span n = refl
unfit (frames.Then start condition) stack subtree symbols.Else span n = absurd (n.else_word refl)
unfit (frames.Then start condition) stack subtree _ span n = refl
unfit (frames.Else start condition one) stack subtree symbols.Endif span n = absurd (n.endif_word refl)
unfit (frames.Else start condition one) stack subtree _ span n = refl
unfit (frames.Let start name ty) stack subtree symbols.In span n = absurd (n.in_word refl)
unfit (frames.Let start name ty) stack subtree _ span n = refl
unfit _ stack subtree symbol span n = refl
