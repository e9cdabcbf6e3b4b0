-- Expressions with commas between them lead to the list of them.
use Rattle.std.proofs.Common.{◌≡◌, ℕ, ◌+◌, ◌<◌, ◌≤◌, true, List, [], ◌∷◌, ◌++◌, map, Some, ap, sym, ◌∙◌, refl, subst, arith}
use Rattle.std.specs.Prelude.{codes}
use Rattle.mof_metamodel.specs.declared.span.Span.{Span}
use Rattle.ql_lex.specs.Lexed.{Lexeme}
use Rattle.qv_syntax.specs.declared.expr.Expr.{Expr}
use Rattle.ocl_parser.specs.Pieces.{Piece, ◌▸◌, sign}
use Rattle.ql_lex.specs.Lexemes.{stands, is_sign, span_at}
use Rattle.ocl_parser.specs.Grammar.{form}
use Rattle.ocl_parser.specs.Moves.{move, to, reduced, closed, open_levels}
use Rattle.ql_lex.specs.declared.symbol.Symbol.{Symbol}
use Rattle.ql_lex.specs.declared.symbol.Symbol.TheVariants as symbols
use Rattle.ocl_parser.specs.declared.frame.Subtree.{Subtree}
use Rattle.ocl_parser.specs.declared.frame.Base.{Base}
use Rattle.ocl_parser.specs.declared.frame.Frame.{Frame}
use Rattle.ocl_parser.specs.declared.state.State.TheVariants as states
use Rattle.ocl_parser.proofs.SymbolLaws.{test_of, is_told}
use Rattle.ocl_parser.proofs.CompleteRuns.{going, step}
use Rattle.ocl_parser.proofs.CompletePieces.{parts, token_first}
use Rattle.ocl_parser.specs.Pieces.{each, separated}
use Rattle.ocl_parser.specs.Moves.{close_by}
use Rattle.std.proofs.lemmas.List.{append_assoc}
use Rattle.ocl_parser.proofs.CompleteForms.{part_from_to, Fits, IsRead, closes, closing}

-- each of them
abbrev pub AllOf : {A : Type 0} → (A → Type 0) → List A → Type 0
AllOf P [] = Unit {0}
AllOf P (x ∷ xs) = P x × AllOf P xs

pub all_of : {A : Type 0} (P : A → Type 0) (ys : List ((x : A) × P x)) → AllOf P (map (λ y. y.0) ys)
all_of P [] = tt
all_of P (y ∷ ys) = (y.1, all_of P ys)

-- A construct that holds a list: what it is with those so far, the symbol that ends it, and what it ends as.
pub record Holder (frame : List Expr → Frame) (end : Symbol) (done : List Expr → Span → Base) : Type 0 where
  pub told : is_told end ≡ true
  pub ends : closes end ≡ true
  pub fits : (b : ℕ) (vs : List Expr) (stack : List Frame) → Fits b (frame vs ∷ stack)
  pub one : (vs : List Expr) (stack : List Frame) → open_levels (frame vs ∷ stack) ≡ 1 + open_levels stack
  pub stays : (vs : List Expr) (stack : List Frame) (p : Subtree) → reduced 0 (frame vs ∷ stack) p ≡ record { stack = frame vs ∷ stack; subtree = p }
  pub goes_on : (vs : List Expr) (stack : List Frame) (p : Subtree) (span : Span)
      → close_by (frame vs ∷ stack) p symbols.Comma span ≡ to (frame (vs ++ p.tree ∷ []) ∷ stack) states.Operand
  pub last : (vs : List Expr) (stack : List Frame) (p : Subtree) (span : Span)
      → close_by (frame vs ∷ stack) p end span ≡ to stack (states.After (done (vs ++ p.tree ∷ []) span))
  pub none : (stack : List Frame) (span : Span) → move (frame [] ∷ stack) states.Operand end span ≡ to stack (states.After (done [] span))

-- the pieces of the expressions behind the first
abbrev pub more_of : List Lexeme → List Expr → Piece
more_of ts es = each (map (λ q. sign ts (codes ",") ▸ q) (map (λ f. f.piece) (map (form ts) es)))

-- expressions, and the symbol behind them
pub list_on : (levels : ℕ) (ts : List Lexeme) (frame : List Expr → Frame) (end : Symbol) (done : List Expr → Span → Base) → Holder frame end done
    → (n k : ℕ) (stack : List Frame) → open_levels stack + 1 + n ≤ levels → stands (test_of end) ts k ≡ true
    → (vs : List Expr) (e : Expr) (es : List Expr) → IsRead ts e → AllOf (IsRead ts) es → (i j : ℕ) → (form ts e).piece n i ≡ Some j → more_of ts es n j ≡ Some k
    → (i < k) × (going levels ts (frame vs ∷ stack) states.Operand i ≡ going levels ts stack (states.After (done (vs ++ e ∷ es) (span_at ts k (k + 1)))) (k + 1))
unfolding each
list_on levels ts frame end done h n k stack few closed vs e [] ih all i j here more =
    let same : j ≡ k = cc in
    let r = ih levels n i j (frame vs ∷ stack) (h.fits (form ts e).binding vs stack) (omega (arith, few, h.one vs stack)) here in
    let m = closing levels ts e (form ts e).binding (frame vs ∷ stack) i j r end (span_at ts j (j + 1)) h.ends
    ∙ ap (λ x. close_by x.stack x.subtree end (span_at ts j (j + 1))) (h.stays vs stack (part_from_to ts e i j))
    ∙ h.last vs stack (part_from_to ts e i j) (span_at ts j (j + 1)) in
    let here' : stands (test_of end) ts j ≡ true = subst (λ (x : ℕ). stands (test_of end) ts x ≡ true) (sym same) closed in
    let s = step levels ts end j r.on stack r.state (states.After (done (vs ++ e ∷ []) (span_at ts j (j + 1)))) h.told here' m (omega (arith, few)) in
    (omega (arith, r.further, same), r.runs ∙ s ∙ ap (λ (x : ℕ). going levels ts stack (states.After (done (vs ++ e ∷ []) (span_at ts x (x + 1)))) (x + 1)) same)
list_on levels ts frame end done h n k stack few closed vs e (f ∷ es) ih all i j here more =
    let a = parts (sign ts (codes ",") ▸ (form ts f).piece) (more_of ts es) n j k more in
    let b = token_first (is_sign (codes ",")) ts (form ts f).piece n j a.0 a.1 in
    let r = ih levels n i j (frame vs ∷ stack) (h.fits (form ts e).binding vs stack) (omega (arith, few, h.one vs stack)) here in
    let m = closing levels ts e (form ts e).binding (frame vs ∷ stack) i j r symbols.Comma (span_at ts j (j + 1)) refl
    ∙ ap (λ x. close_by x.stack x.subtree symbols.Comma (span_at ts j (j + 1))) (h.stays vs stack (part_from_to ts e i j))
    ∙ h.goes_on vs stack (part_from_to ts e i j) (span_at ts j (j + 1)) in
    let s = step levels ts symbols.Comma j r.on (frame (vs ++ e ∷ []) ∷ stack) r.state states.Operand refl b.0 m (omega (arith, few, h.one (vs ++ e ∷ []) stack)) in
    let rest = list_on levels ts frame end done h n k stack few closed (vs ++ e ∷ []) f es all.0 all.1 (j + 1) a.0 b.1 a.2 in (
      omega (arith, r.further, rest.0),
      r.runs ∙ s ∙ rest.1 ∙ ap (λ (es' : List Expr). going levels ts stack (states.After (done es' (span_at ts k (k + 1)))) (k + 1))
          (append_assoc vs (e ∷ []) (f ∷ es)),
    )

-- a whole list, and the symbol that ends it
pub list_read : (levels : ℕ) (ts : List Lexeme) (frame : List Expr → Frame) (end : Symbol) (done : List Expr → Span → Base) → Holder frame end done
    → (n i k : ℕ) (stack : List Frame) → open_levels stack + 1 + n ≤ levels → stands (test_of end) ts k ≡ true
    → (es : List Expr) → AllOf (IsRead ts) es → separated ts (codes ",") (map (λ f. f.piece) (map (form ts) es)) n i ≡ Some k
    → (i ≤ k) × (going levels ts (frame [] ∷ stack) states.Operand i ≡ going levels ts stack (states.After (done es (span_at ts k (k + 1)))) (k + 1))
unfolding separated
list_read levels ts frame end done h n i k stack few closed [] all e =
    let same : i ≡ k = cc in
    let here' : stands (test_of end) ts i ≡ true = subst (λ (x : ℕ). stands (test_of end) ts x ≡ true) (sym same) closed in
    let s = step levels ts end i (frame [] ∷ stack) stack states.Operand (states.After (done [] (span_at ts i (i + 1)))) h.told here'
    (h.none stack (span_at ts i (i + 1))) (omega (arith, few)) in
    (omega (arith, same), s ∙ ap (λ (x : ℕ). going levels ts stack (states.After (done [] (span_at ts x (x + 1)))) (x + 1)) same)
list_read levels ts frame end done h n i k stack few closed (e ∷ es) all s =
    let a = parts (form ts e).piece (more_of ts es) n i k s in
    let r = list_on levels ts frame end done h n k stack few closed [] e es all.0 all.1 i a.0 a.1 a.2 in
    (omega (arith, r.0), r.1)
