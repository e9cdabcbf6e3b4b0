-- What the automaton answers is what stands.
use Rattle.std.proofs.Common.{◌≡◌, ◌≤◌, ◌↔◌, ℕ, length, subst, Result, Ok, Err, sym, ◌∙◌, ap, refl}
use Rattle.ql_lex.specs.Lexed.{LexedText}
use Rattle.qv_syntax.specs.declared.expr.Expr.{Expr}
use Rattle.ocl_parser.specs.Beginnings.{IsTree, IsStuck, IsDeep}
use Rattle.ocl_parser.specs.Runs.{Answer, Tree, Stuck, Deep, answer}
use Rattle.ocl_parser.specs.Answers.{Answers, IsAnswered, Tells, result_of}
use Rattle.ocl_parser.specs.Places.{place_of}
use Rattle.ocl_parser.specs.declared.error.ParseError.{ParseError}
use Rattle.ocl_parser.specs.declared.error.ParseError.TheVariants as errors
use Rattle.ocl_parser.proofs.CompletionAnswers.{tree_is, stuck_is, deep_is, tree_answered, stuck_answered, deep_answered}

tree_told : (text : LexedText) (levels from : ℕ) (found : Expr × ℕ) → from ≤ length text.lexemes → result_of text (answer text.lexemes levels from) ≡ Ok found
    → IsTree text.lexemes from levels found.0 found.1
tree_told text levels from found within e = by (answer text.lexemes levels from) refl e
  where
    by : (a : Answer) → answer text.lexemes levels from ≡ a → result_of text a ≡ Ok found → IsTree text.lexemes from levels found.0 found.1
    by (Tree tree end) eq e =
        let same : (tree, end) ≡ found = cc in
        subst (λ (r : Expr × ℕ). IsTree text.lexemes from levels r.0 r.1) same ((tree_is text.lexemes levels from tree end within).0 eq)
    by (Stuck k) eq e = cc
    by (Deep k) eq e = cc

stuck_told : (text : LexedText) (levels from at : ℕ) → from ≤ length text.lexemes → result_of text (answer text.lexemes levels from) ≡ Err (errors.Parse at)
    → (k : ℕ) × IsStuck text.lexemes from levels k × (at ≡ place_of text k)
stuck_told text levels from at within e = by (answer text.lexemes levels from) refl e
  where
    by : (a : Answer) → answer text.lexemes levels from ≡ a → result_of text a ≡ Err (errors.Parse at)
        → (k : ℕ) × IsStuck text.lexemes from levels k × (at ≡ place_of text k)
    by (Tree tree end) eq e = cc
    by (Stuck k) eq e = (k, (stuck_is text.lexemes levels from k within).0 eq, cc)
    by (Deep k) eq e = cc

deep_told : (text : LexedText) (levels from at : ℕ) → from ≤ length text.lexemes → result_of text (answer text.lexemes levels from) ≡ Err (errors.Limit at)
    → (k : ℕ) × IsDeep text.lexemes from levels k × (at ≡ place_of text k)
deep_told text levels from at within e = by (answer text.lexemes levels from) refl e
  where
    by : (a : Answer) → answer text.lexemes levels from ≡ a → result_of text a ≡ Err (errors.Limit at)
        → (k : ℕ) × IsDeep text.lexemes from levels k × (at ≡ place_of text k)
    by (Tree tree end) eq e = cc
    by (Stuck k) eq e = cc
    by (Deep k) eq e = (k, (deep_is text.lexemes levels from k within).0 eq, cc)

pub told : (text : LexedText) (levels from : ℕ) (result : Result (Expr × ℕ) ParseError) → from ≤ length text.lexemes
    → Answers text (answer text.lexemes levels from) result → Tells text from levels result
told text levels from (Ok found) within e = tree_told text levels from found within e
told text levels from (Err (errors.Parse at)) within e = stuck_told text levels from at within e
told text levels from (Err (errors.Limit at)) within e = deep_told text levels from at within e
told text levels from (Err errors.NoMemory) within e = tt

answered : (text : LexedText) (levels from : ℕ) (result : Result (Expr × ℕ) ParseError) → from ≤ length text.lexemes → Tells text from levels result
    → Answers text (answer text.lexemes levels from) result
answered text levels from (Ok found) within stands = ap (result_of text) ((tree_is text.lexemes levels from found.0 found.1 within).1 stands)
answered text levels from (Err (errors.Parse at)) within stands =
    ap (result_of text) ((stuck_is text.lexemes levels from stands.0 within).1 stands.1) ∙ ap (λ (n : ℕ). Err (errors.Parse n)) (sym stands.2)
answered text levels from (Err (errors.Limit at)) within stands =
    ap (result_of text) ((deep_is text.lexemes levels from stands.0 within).1 stands.1) ∙ ap (λ (n : ℕ). Err (errors.Limit n)) (sym stands.2)
answered text levels from (Err errors.NoMemory) within stands = tt

pub answers_told : (text : LexedText) (levels from : ℕ) (result : Result (Expr × ℕ) ParseError) → from ≤ length text.lexemes
    → Answers text (answer text.lexemes levels from) result ↔ Tells text from levels result
answers_told text levels from result within = (told text levels from result within, answered text levels from result within)

-- ---- what stands is what is answered

given : (text : LexedText) (a b : Answer) (result : Result (Expr × ℕ) ParseError) → a ≡ b → Answers text a result → Answers text b result
given text a b result same answers = subst (λ (x : Answer). Answers text x result) same answers

pub tree_given : (text : LexedText) (levels from : ℕ) (result : Result (Expr × ℕ) ParseError) → Answers text (answer text.lexemes levels from) result
    → (tree : Expr) (end : ℕ) → IsTree text.lexemes from levels tree end → IsAnswered (Ok (tree, end)) result
tree_given text levels from result answers tree end t = given text (answer text.lexemes levels from) (Tree tree end) result (tree_answered text.lexemes levels from tree end t) answers

pub stuck_given : (text : LexedText) (levels from : ℕ) (result : Result (Expr × ℕ) ParseError) → Answers text (answer text.lexemes levels from) result
    → (k : ℕ) → IsStuck text.lexemes from levels k → IsAnswered (Err (errors.Parse (place_of text k))) result
stuck_given text levels from result answers k s = given text (answer text.lexemes levels from) (Stuck k) result (stuck_answered text.lexemes levels from k s) answers

pub deep_given : (text : LexedText) (levels from : ℕ) (result : Result (Expr × ℕ) ParseError) → Answers text (answer text.lexemes levels from) result
    → (k : ℕ) → IsDeep text.lexemes from levels k → IsAnswered (Err (errors.Limit (place_of text k))) result
deep_given text levels from result answers k d = given text (answer text.lexemes levels from) (Deep k) result (deep_answered text.lexemes levels from k d) answers
