-- The forms that hold single expressions: `if`, `not`, `-` and `let`.
use Rattle.std.proofs.Common.{◌≡◌, ℕ, ◌+◌, ◌≤◌, true, nat_le, List, [], ◌∷◌, Some, sym, ◌∙◌, refl, subst, arith}
use Rattle.std.specs.Prelude.{codes}
use Rattle.std.proofs.lemmas.Bool.Decides.{nat_tests}
use Rattle.mof_metamodel.specs.declared.span.Span.{Span}
use Rattle.ql_lex.specs.Lexed.{Lexeme}
use Rattle.qv_syntax.specs.declared.name.Name.{Name}
use Rattle.qv_syntax.specs.declared.type_tree.TypeTree.{TypeTree}
use Rattle.qv_syntax.specs.declared.operator.Operator.TheVariants as operators
use Rattle.qv_syntax.specs.declared.expr.Expr.{Expr}
use Rattle.qv_syntax.specs.declared.expr.Expr.TheVariants as exprs
use Rattle.qv_syntax.specs.declared.expr.Args.TheOpen as of
use Rattle.ocl_parser.specs.Pieces.{Piece, ◌▸◌, sign, word, nested, only}
use Rattle.ql_lex.specs.Lexemes.{stands, is_sign, is_word, span_at}
use Rattle.ocl_parser.specs.Grammar.{form, expr_step, bound}
use Rattle.ocl_parser.specs.Moves.{move, base_of, reduced, begins_expression, open_levels}
use Rattle.ql_lex.specs.declared.symbol.Symbol.TheVariants as symbols
use Rattle.ocl_parser.specs.declared.frame.Base.{Base}
use Rattle.ocl_parser.specs.declared.frame.Frame.{Frame}
use Rattle.ocl_parser.specs.declared.frame.Frame.TheVariants as frames
use Rattle.ocl_parser.specs.declared.state.State.TheVariants as states
use Rattle.ocl_parser.proofs.CompleteRuns.{step}
use Rattle.ocl_parser.proofs.CompletePieces.{parts, held, within, token_first, token_last}
use Rattle.ocl_parser.proofs.CompleteHeads.{bound_read}
use Rattle.ocl_parser.proofs.CompleteForms.{Reads, Fits, Reading, IsRead, by_span, atom, held_after, closing}

pub if_read : (ts : List Lexeme) (condition one other : Expr) (span : Span) → IsRead ts condition → IsRead ts one → IsRead ts other
    → Reading ts (expr_step ts (of.If (form ts condition) (form ts one) (form ts other) span)) (exprs.If condition one other span)
unfolding move reduced span_at
if_read ts condition one other span ih₁ ih₂ ih₃ =
    let p₁ : Piece = word ts (codes "if") ▸ (form ts condition).piece in
    let p₂ : Piece = p₁ ▸ word ts (codes "then") in
    let p₃ : Piece = p₂ ▸ (form ts one).piece in
    let p₄ : Piece = p₃ ▸ word ts (codes "else") in
    let p₅ : Piece = p₄ ▸ (form ts other).piece in
    let body : Piece = p₅ ▸ word ts (codes "endif") in
    by_span ts 10 (exprs.If condition one other) span (nested body) (λ levels n i j stack fit few e.
    let c = within body n i j e in
    let m : ℕ = c.0 in
    let a₆ = token_last p₅ (is_word (codes "endif")) ts m i j c.2 in
    let k₃ : ℕ = a₆.0 in
    let a₅ = parts p₄ (form ts other).piece m i k₃ a₆.1 in
    let a₄ = token_last p₃ (is_word (codes "else")) ts m i a₅.0 a₅.1 in
    let k₂ : ℕ = a₄.0 in
    let a₃ = parts p₂ (form ts one).piece m i k₂ a₄.1 in
    let a₂ = token_last p₁ (is_word (codes "then")) ts m i a₃.0 a₃.1 in
    let k₁ : ℕ = a₂.0 in
    let a₁ = token_first (is_word (codes "if")) ts (form ts condition).piece m i k₁ a₂.1 in
    let spelled₂ : (form ts one).piece m (k₁ + 1) ≡ Some k₂ = subst (λ (x : ℕ). (form ts one).piece m x ≡ Some k₂) a₂.3 a₃.2 in
    let spelled₃ : (form ts other).piece m (k₂ + 1) ≡ Some k₃ = subst (λ (x : ℕ). (form ts other).piece m x ≡ Some k₃) a₄.3 a₅.2 in
    let start : ℕ = (span_at ts i (i + 1)).start in
    let f₁ : List Frame = frames.If start ∷ stack in
    let f₂ : List Frame = frames.Then start condition ∷ stack in
    let f₃ : List Frame = frames.Else start condition one ∷ stack in
    let s₁ = step levels ts symbols.If i stack f₁ states.Operand states.Operand refl a₁.0 refl (omega (arith, few, c.1)) in
    let r₁ = ih₁ levels m (i + 1) k₁ f₁ tt (omega (arith, few, c.1)) a₁.1 in
    let s₂ = step levels ts symbols.Then k₁ r₁.on f₂ r₁.state states.Operand refl a₂.2
    (closing levels ts condition (form ts condition).binding f₁ (i + 1) k₁ r₁ symbols.Then (span_at ts k₁ (k₁ + 1)) refl) (omega (arith, few, c.1)) in
    let r₂ = ih₂ levels m (k₁ + 1) k₂ f₂ tt (omega (arith, few, c.1)) spelled₂ in
    let s₃ = step levels ts symbols.Else k₂ r₂.on f₃ r₂.state states.Operand refl a₄.2
    (closing levels ts one (form ts one).binding f₂ (k₁ + 1) k₂ r₂ symbols.Else (span_at ts k₂ (k₂ + 1)) refl) (omega (arith, few, c.1)) in
    let r₃ = ih₃ levels m (k₂ + 1) k₃ f₃ tt (omega (arith, few, c.1)) spelled₃ in
    let tree : Expr = exprs.If condition one other (span_at ts i (k₃ + 1)) in
    let base : Base = base_of tree (span_at ts i (k₃ + 1)) in
    let s₄ = step levels ts symbols.Endif k₃ r₃.on stack r₃.state (states.After base) refl a₆.2
    (closing levels ts other (form ts other).binding f₃ (k₂ + 1) k₃ r₃ symbols.Endif (span_at ts k₃ (k₃ + 1)) refl) (omega (arith, few)) in
    subst (λ (x : ℕ). Reads levels ts (exprs.If condition one other (span_at ts i x)) 10 stack i x) (sym a₆.3)
    (atom levels ts tree stack i (k₃ + 1) (states.After base) (omega (arith, r₁.further, r₂.further, r₃.further)) (s₁ ∙ r₁.runs ∙ s₂ ∙ r₂.runs ∙ s₃ ∙ r₃.runs ∙ s₄)
    (held_after stack base)))

-- ---- `not` and `-`

pub not_read : (ts : List Lexeme) (operand : Expr) (span : Span) → IsRead ts operand
    → Reading ts (expr_step ts (of.Not (form ts operand) span)) (exprs.Not operand span)
unfolding move reduced span_at
not_read ts operand span ih =
    let body : Piece = word ts (codes "not") ▸ (form ts operand).piece in
    by_span ts 8 (exprs.Not operand) span (only (nat_le 8 (form ts operand).binding) (nested body)) (λ levels n i j stack fit few e.
    let b = held (nat_le 8 (form ts operand).binding) (nested body) n i j e in
    let tight : 8 ≤ (form ts operand).binding = grind (arith, nat_tests) in
    let c = within body n i j b.1 in
    let m : ℕ = c.0 in
    let d = token_first (is_word (codes "not")) ts (form ts operand).piece m i j c.2 in
    let inside : List Frame = frames.Not (span_at ts i (i + 1)).start ∷ stack in
    let one = step levels ts symbols.Not i stack inside states.Operand states.Operand refl d.0 refl (omega (arith, few, c.1)) in
    let r = ih levels m (i + 1) j inside tight (omega (arith, few, c.1)) d.1 in
    record {
      on = r.on;
      state = r.state;
      base = r.base;
      further = omega (arith, r.further);
      runs = one ∙ r.runs;
      holds = r.holds;
      reduces = λ x h. r.reduces x (omega (arith, tight));
      tight = λ h. absurd (omega arith);
    })

pub negated_read : (ts : List Lexeme) (operand : Expr) (span : Span) → IsRead ts operand
    → Reading ts (expr_step ts (of.Negated (form ts operand) span)) (exprs.Negated operand span)
unfolding move reduced span_at
negated_read ts operand span ih =
    let body : Piece = sign ts (codes "-") ▸ (form ts operand).piece in
    by_span ts 8 (exprs.Negated operand) span (only (nat_le 8 (form ts operand).binding) (nested body)) (λ levels n i j stack fit few e.
    let b = held (nat_le 8 (form ts operand).binding) (nested body) n i j e in
    let tight : 8 ≤ (form ts operand).binding = grind (arith, nat_tests) in
    let c = within body n i j b.1 in
    let m : ℕ = c.0 in
    let d = token_first (is_sign (codes "-")) ts (form ts operand).piece m i j c.2 in
    let inside : List Frame = frames.Negated (span_at ts i (i + 1)).start ∷ stack in
    let one = step levels ts (symbols.Operator operators.Minus) i stack inside states.Operand states.Operand refl d.0 refl (omega (arith, few, c.1)) in
    let r = ih levels m (i + 1) j inside tight (omega (arith, few, c.1)) d.1 in
    record {
      on = r.on;
      state = r.state;
      base = r.base;
      further = omega (arith, r.further);
      runs = one ∙ r.runs;
      holds = r.holds;
      reduces = λ x h. r.reduces x (omega (arith, tight));
      tight = λ h. absurd (omega arith);
    })

-- ---- `let`

begins : (stack : List Frame) → Fits 0 stack → begins_expression stack ≡ true
begins [] fit = refl
begins (frames.Row first rest operator ∷ stack) fit = absurd (omega arith)
begins (frames.Not start ∷ stack) fit = absurd (omega arith)
begins (frames.Negated start ∷ stack) fit = absurd (omega arith)
begins (frame ∷ stack) fit = refl

let_run : (ts : List Lexeme) (x : Name) (ty : TypeTree) (value body : Expr) → IsRead ts value → IsRead ts body → (levels n m i k₁ k₂ j : ℕ) (stack : List Frame)
    → Fits 0 stack → open_levels stack + n ≤ levels → n ≡ m + 1
    → stands (is_word (codes "let")) ts i ≡ true → bound ts x ty m (i + 1) ≡ Some k₁ → (form ts value).piece m k₁ ≡ Some k₂ → stands (is_word (codes "in")) ts k₂ ≡ true
    → (form ts body).piece m (k₂ + 1) ≡ Some j
    → Reads levels ts (exprs.Let x ty value body (span_at ts i j)) 0 stack i j
unfolding move reduced span_at
let_run ts x ty value body ih₁ ih₂ levels n m i k₁ k₂ j stack fit few deeper w₁ typed part₁ w₅ part₂ =
    let start : ℕ = (span_at ts i (i + 1)).start in
    let f₂ : List Frame = frames.Let start x ty ∷ stack in
    let f₃ : List Frame = frames.In start x ty value ∷ stack in
    let s₁ = step levels ts symbols.Let i stack stack states.Operand (states.LetName start) refl w₁ (rw (begins stack fit) refl) (omega (arith, few, deeper)) in
    let t = bound_read levels ts stack start x ty m (i + 1) k₁ (omega (arith, few, deeper)) typed in
    let r₁ = ih₁ levels m k₁ k₂ f₂ tt (omega (arith, few, deeper)) part₁ in
    let s₅ = step levels ts symbols.In k₂ r₁.on f₃ r₁.state states.Operand refl w₅
    (closing levels ts value (form ts value).binding f₂ k₁ k₂ r₁ symbols.In (span_at ts k₂ (k₂ + 1)) refl) (omega (arith, few, deeper)) in
    let r₂ = ih₂ levels m (k₂ + 1) j f₃ tt (omega (arith, few, deeper)) part₂ in
    record {
      on = r₂.on;
      state = r₂.state;
      base = r₂.base;
      further = omega (arith, t.0, r₁.further, r₂.further);
      runs = s₁ ∙ t.1 ∙ r₁.runs ∙ s₅ ∙ r₂.runs;
      holds = r₂.holds;
      reduces = λ y h. let zero : y ≡ 0 = omega arith in rw zero (r₂.reduces 0 (omega arith));
      tight = λ h. absurd (omega arith);
    }

pub let_read : (ts : List Lexeme) (x : Name) (ty : TypeTree) (value body : Expr) (span : Span) → IsRead ts value → IsRead ts body
    → Reading ts (expr_step ts (of.Let x ty (form ts value) (form ts body) span)) (exprs.Let x ty value body span)
let_read ts x ty value body span ih₁ ih₂ =
    let p₁ : Piece = word ts (codes "let") ▸ bound ts x ty in
    let p₂ : Piece = p₁ ▸ (form ts value).piece in
    let p₃ : Piece = p₂ ▸ word ts (codes "in") in
    let whole : Piece = p₃ ▸ (form ts body).piece in
    by_span ts 0 (exprs.Let x ty value body) span (nested whole) (λ levels n i j stack fit few e.
    let c = within whole n i j e in
    let m : ℕ = c.0 in
    let a₄ = parts p₃ (form ts body).piece m i j c.2 in
    let a₃ = token_last p₂ (is_word (codes "in")) ts m i a₄.0 a₄.1 in
    let k₂ : ℕ = a₃.0 in
    let a₂ = parts p₁ (form ts value).piece m i k₂ a₃.1 in
    let a₁ = token_first (is_word (codes "let")) ts (bound ts x ty) m i a₂.0 a₂.1 in
    let_run ts x ty value body ih₁ ih₂ levels n m i a₂.0 k₂ j stack fit few c.1 a₁.0 a₁.1 a₂.2 a₃.2 (subst (λ (z : ℕ). (form ts body).piece m z ≡ Some j) a₃.3 a₄.2))
