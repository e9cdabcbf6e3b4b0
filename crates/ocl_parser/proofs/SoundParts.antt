-- Parts of expressions, token by token: names, lists, paths, and calls on a part.
use Rattle.std.proofs.Common.{◌≡◌, ℕ, ◌+◌, ◌≤◌, ◌&&◌, Bool, true, false, List, [], ◌∷◌, ◌++◌, slice_get, Option, Some, None, ap, sym, ◌∙◌, refl, arith, true≢false}
use Rattle.std.specs.Prelude.{codes, ◌==◌}
use Rattle.std.specs.Option.{option_map_or}
use Rattle.std.specs.Str.{bytes_eq}
use Rattle.std.proofs.lemmas.Bool.Decides.{nat_tests}
use Rattle.std.proofs.lemmas.List.{length-append}
use Rattle.mof_metamodel.specs.declared.span.Span.{Span}
use Rattle.ql_lex.specs.Lexed.{Lexeme}
use Rattle.qv_syntax.specs.declared.name.Name.{Name}
use Rattle.qv_syntax.specs.declared.name.Path.{Path}
use Rattle.qv_syntax.specs.declared.expr.Expr.{Expr}
use Rattle.qv_syntax.specs.declared.expr.Expr.TheVariants as exprs
use Rattle.qv_syntax.specs.declared.expr.Postfix.{Postfix}
use Rattle.qv_syntax.specs.declared.expr.Postfix.TheVariants as postfixes
use Rattle.qv_syntax.specs.declared.expr.Args.{Args}
use Rattle.ql_lex.specs.Lexemes.{stands, is_name, is_same_span, name_text, start_of, end_of, span_at}
use Rattle.ocl_parser.specs.Grammar.{binding, spelled, spelled_postfix, spelled_postfixes, spelled_args, spelled_list}
use Rattle.ocl_parser.specs.Moves.{from_to, base_of, with_postfix, subtree_by, subtree_of, path_of, extended, called_by, with_args}
use Rattle.ocl_parser.specs.declared.frame.Subtree.{Subtree}
use Rattle.ocl_parser.specs.declared.frame.Base.{Base}
use Rattle.ocl_parser.specs.declared.frame.Before.{Before}
use Rattle.ocl_parser.specs.declared.frame.Before.TheVariants as before
use Rattle.ocl_parser.specs.declared.frame.CallHead.{CallHead}
use Rattle.ocl_parser.proofs.ExprLaws.{call_spelled, call_binding, calls_spelled, calls_binding}
use Rattle.ocl_parser.proofs.PieceLaws.{names_one, names_more}
use Rattle.ocl_parser.proofs.StepLaws.{steps_none, steps_more, dot_spelled, arrow_spelled, list_one, list_more}
use Rattle.ocl_parser.proofs.SoundStacks.{IsNamed, IsSign, PartAt, BaseAt, BeforeAt, CalledAt, PathAt, LongerPathAt, ListAt}
use Rattle.ocl_parser.proofs.SoundReduced.{span_to}
use Rattle.mof_metamodel.proofs.Facts.{second_true}

pub record Spans (name : Name) (start end : ℕ) : Type 0 where
  pub starts : name.span.start ≡ start
  pub ends : name.span.end ≡ end

same_spans : (name : Name) (span : Span) → is_same_span span name.span ≡ true → Spans name span.start span.end
same_spans name span e =
    let s : (span.start == name.span.start) ≡ true = left (span.start == name.span.start) (span.end == name.span.end) e in
    let t : (span.end == name.span.end) ≡ true = second_true (span.start == name.span.start) (span.end == name.span.end) e in
    record { starts = same span.start name.span.start s; ends = same span.end name.span.end t }
  where
    left : (a b : Bool) → (a && b) ≡ true → a ≡ true
    left true b e = refl
    left false b e = e

    same : (a b : ℕ) → (a == b) ≡ true → b ≡ a
    same a b e = grind (arith, nat_tests)

named_spans : (name : Name) (o : Option Lexeme) → option_map_or (is_name name) o false ≡ true
    → Spans name (option_map_or (λ l. l.token.span.start) o 0) (option_map_or (λ l. l.token.span.end) o 0)
named_spans name None e = absurd (true≢false (sym e))
named_spans name (Some l) e =
    same_spans name l.token.span (second_true (option_map_or (bytes_eq name.text) (name_text l.token.kind l.text) false) (is_same_span l.token.span name.span) e)

-- a name stands where its token does
pub name_spans : (ts : List Lexeme) (name : Name) (at : ℕ) → IsNamed ts name at → Spans name (start_of ts at) (end_of ts at)
unfolding stands
name_spans ts name at e = named_spans name (slice_get ts at) e

-- ---- lists

pub list_one_more : (ts : List Lexeme) (m : ℕ) (es : List Expr) (e : Expr) (a b c : ℕ) → ListAt ts m es a b → spelled ts m e b ≡ Some c
    → spelled_list ts m (es ++ e ∷ []) a ≡ Some c
list_one_more ts m [] e a b c h p = list_one ts m e a c (ap (λ (x : ℕ). spelled ts m e x) (sym h) ∙ p)
list_one_more ts m (f ∷ es) e a b c h p = list_more ts m (f ∷ es) e a h.at c (omega arith) h.list h.comma (ap (λ (x : ℕ). spelled ts m e x) (sym h.end) ∙ p)

pub list_comma : (ts : List Lexeme) (m : ℕ) (es : List Expr) (e : Expr) (a c : ℕ) → spelled_list ts m (es ++ e ∷ []) a ≡ Some c → IsSign ts (codes ",") c
    → ListAt ts m (es ++ e ∷ []) a (c + 1)
list_comma ts m [] e a c p comma = record { at = c; list = p; comma = comma; end = refl }
list_comma ts m (f ∷ es) e a c p comma = record { at = c; list = p; comma = comma; end = refl }

-- ---- paths

pub path_one : (ts : List Lexeme) (most : ℕ) (name : Name) (at : ℕ) → 1 ≤ most → IsNamed ts name at → PathAt ts most (path_of name) at (at + 1)
path_one ts most name at few e =
    let spans = name_spans ts name at e in
    record {
      some = omega arith;
      few = few;
      names = names_one ts name at e;
      span = ap (λ (x : ℕ). from_to name.span.start x) spans.ends ∙ span_to ts name.span.start at at (at + 1) spans.starts refl;
    }

pub start_is : (ts : List Lexeme) (span : Span) (a b : ℕ) → span ≡ span_at ts a b → span.start ≡ start_of ts a
unfolding span_at
start_is ts span a b e = ap (λ (s : Span). s.start) e

pub path_longer : (ts : List Lexeme) (most : ℕ) (path : Path) (name : Name) (a b : ℕ) → LongerPathAt ts most path a b → IsNamed ts name b
    → PathAt ts most (extended path name) a (b + 1)
path_longer ts most path name a b h e =
    let spans = name_spans ts name b e in
    let there : IsNamed ts name (h.at + 1) = ap (λ (x : ℕ). stands (is_name name) ts x) (sym h.end) ∙ e in
    let p = h.shorter in
    let end : h.at + 1 + 1 ≡ b + 1 = ap (λ (x : ℕ). x + 1) (sym h.end) in
    record {
      some = omega (arith, length-append path.names (name ∷ []));
      few = omega (arith, length-append path.names (name ∷ []), h.room);
      names = λ n. names_more ts path.names name a h.at p.some p.names h.sign there n ∙ ap Some end;
      span = ap (λ (x : ℕ). from_to path.span.start x) spans.ends ∙ span_to ts path.span.start a b (b + 1) (start_is ts path.span a h.at p.span) refl;
    }

-- ---- parts that bind tightest, and calls on them

pub base_first : (ts : List Lexeme) (n : ℕ) (e : Expr) (span : Span) (a b : ℕ) → spelled ts n e a ≡ Some b → binding ts e ≡ 10 → span ≡ span_at ts a b
    → BaseAt ts n (base_of e span) a b
base_first ts n e span a b h tight at = record { middle = b; first = h; tight = omega (arith, tight); calls = steps_none ts n b; span = at }

pub step_added : (ts : List Lexeme) (n : ℕ) (base : Base) (step : Postfix) (a b c k : ℕ) → BaseAt ts n base a b → spelled_postfix ts n step b ≡ Some c → c ≡ k + 1
    → BaseAt ts n (with_postfix base step (end_of ts k)) a c
step_added ts n base step a b c k h one e = record {
  middle = h.middle;
  first = h.first;
  tight = h.tight;
  calls = steps_more ts n base.steps step h.middle b c h.calls one;
  span = span_to ts base.span.start a k c (start_is ts base.span a b h.span) e;
}

args_added : (ts : List Lexeme) (n : ℕ) (b : Before) (name : Name) (args : Args) (a c d k : ℕ) → BeforeAt ts n b name a c → spelled_args ts n name.text args c ≡ Some d
    → d ≡ k + 1
    → BaseAt ts n (called_by b name args (end_of ts k)) a d
args_added ts n before.Nothing name args a c d k h p e =
    let span = from_to name.span.start (end_of ts k) in
    let at : span ≡ span_at ts a d = span_to ts name.span.start a k d (name_spans ts name a h.0).starts e in
    base_first ts n (exprs.Call name args span) span a d (call_spelled ts name args span n a c d h.0 h.1 p at) (call_binding ts name args span) at
args_added ts n (before.Dot base start) name args a c d k h p e =
    let span = from_to start (end_of ts k) in
    step_added ts n base (postfixes.Dot name args span) a h.at d k h.subtree
    (dot_spelled ts name args span n h.at c d h.sign h.named h.end p (span_to ts start h.at k d h.begin e)) e
args_added ts n (before.Arrow base start) name args a c d k h p e =
    let span = from_to start (end_of ts k) in
    step_added ts n base (postfixes.Arrow name args span) a h.at d k h.subtree
    (arrow_spelled ts name args span n h.at c d h.sign h.named h.end p (span_to ts start h.at k d h.begin e)) e

-- a call with its arguments, which end with the token of number k
pub called_with : (ts : List Lexeme) (n : ℕ) (called : CallHead) (args : Args) (a c d k : ℕ) → CalledAt ts n called a c
    → spelled_args ts n called.name.text args c ≡ Some d → d ≡ k + 1
    → BaseAt ts n (with_args called args (end_of ts k)) a d
called_with ts n called args a c d k h p e = args_added ts n called.before called.name args a c d k h p e

-- a part with its calls
pub record TightAt (ts : List Lexeme) (n : ℕ) (subtree : Subtree) (a b : ℕ) : Type 0 where
  pub read : PartAt ts n subtree a b
  pub tight : 9 ≤ binding ts subtree.tree

part_with : (ts : List Lexeme) (n : ℕ) (base : Base) (ss : List Postfix) (a b : ℕ) → BaseAt ts n base a b → base.steps ≡ ss → TightAt ts n (subtree_by base ss) a b
part_with ts n base [] a b h e =
    let calls : spelled_postfixes ts n [] h.middle ≡ Some b = ap (λ (ss : List Postfix). spelled_postfixes ts n ss h.middle) (sym e) ∙ h.calls in
    let same : Some h.middle ≡ Some b = sym (steps_none ts n h.middle) ∙ calls in
    record { read = record { whole = h.first ∙ same; span = h.span }; tight = omega (arith, h.tight) }
part_with ts n base (s ∷ ss) a b h e =
    let calls : spelled_postfixes ts n (s ∷ ss) h.middle ≡ Some b = ap (λ (ss : List Postfix). spelled_postfixes ts n ss h.middle) (sym e) ∙ h.calls in
    record {
      read = record { whole = calls_spelled ts base.of (s ∷ ss) base.span n a h.middle b h.first h.tight calls (omega arith) h.span; span = h.span };
      tight = omega (arith, calls_binding ts base.of (s ∷ ss) base.span);
    }

pub part_at : (ts : List Lexeme) (n : ℕ) (base : Base) (a b : ℕ) → BaseAt ts n base a b → TightAt ts n (subtree_of base) a b
part_at ts n base a b h = part_with ts n base base.steps a b h refl
