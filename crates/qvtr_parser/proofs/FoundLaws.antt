-- What is read of an expression is spelled.
use Rattle.std.proofs.Common.{◌≡◌, ℕ, Bool, true, false, nat_le, List, length, Some, Ok, sym, ◌∙◌, refl, subst, arith}
use Rattle.std.proofs.lemmas.Bool.Decides.{nat_tests}
use Rattle.qv_syntax.specs.declared.expr.Expr.{Expr}
use Rattle.ql_lex.specs.Lexed.{Lexeme}
use Rattle.ocl_parser.specs.Grammar.{spelled}
use Rattle.ocl_parser.specs.Runs.{Answer, Tree, Stuck, Deep, answer}
use Rattle.ocl_parser.specs.Readings.{expr_read, read_by}
use Rattle.ocl_parser.proofs.CompletionAnswers.{tree_is}
pub use Rattle.ocl_parser.proofs.ReadingFound.{inverted, name_found, opening_found, path_found, same_ok, sign_found, token_found, type_found, word_found}
use Rattle.qvtr_parser.proofs.PastLaws.{expr_past}

pub expr_found : (ts : List Lexeme) (levels i : ℕ) (x : Expr × ℕ) → expr_read ts levels i ≡ Ok x → spelled ts levels x.0 i ≡ Some x.1
unfolding expr_read
expr_found ts levels i x e = by (answer ts levels i) refl e
  where
    so : (tree : Expr) (end : ℕ) (b : Bool) → nat_le i (length ts) ≡ b → answer ts levels i ≡ Tree tree end → spelled ts levels tree i ≡ Some end
    so tree end true within a = ((tree_is ts levels i tree end (grind (arith, nat_tests))).0 a).spelled
    so tree end false within a =
        let past = expr_past ts levels i (grind (arith, nat_tests)) in
        let same : Stuck i ≡ Tree tree end = sym past ∙ a in
        cc

    by : (a : Answer) → answer ts levels i ≡ a → read_by a ≡ Ok x → spelled ts levels x.0 i ≡ Some x.1
    by (Tree tree end) a b =
        let is = same_ok _ x b in
        subst (λ (y : Expr × ℕ). spelled ts levels y.0 i ≡ Some y.1) is (so tree end (nat_le i (length ts)) refl a)
    by (Stuck at) a b = cc
    by (Deep at) a b = cc
