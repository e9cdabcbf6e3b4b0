-- What is spelled is read, from blocks up to scripts.
use Rattle.std.proofs.Common.{◌≡◌, ℕ, ◌+◌, ◌-◌, ◌<◌, ◌≤◌, ◌⊎◌, inl, inr, Bool, true, false, ◌||◌, ◌&&◌, not, List, [], ◌∷◌, map, length, Option, Some, None, Ok, ap, sym, ◌∙◌, refl, subst, arith, true≢false}
use Rattle.std.specs.Prelude.{codes, if◌then◌else◌, ◌==◌}
use Rattle.std.specs.Str.{bytes_eq}
use Rattle.std.proofs.lemmas.Bool.Decides.{nat_tests}
use Rattle.std.proofs.lemmas.Simd.{map-map}
use Rattle.mof_metamodel.specs.declared.span.Span.{Span}
use Rattle.qv_syntax.specs.declared.expr.Expr.{Expr}
use Rattle.qv_syntax.specs.declared.query.QueryTree.{QueryTree}
use Rattle.qv_syntax.specs.declared.query.ParamTree.{ParamTree}
use Rattle.qv_syntax.specs.declared.script.Script.{Script}
use Rattle.qv_syntax.specs.declared.script.ModelTree.{ModelTree}
use Rattle.qv_syntax.specs.declared.script.Declaration.{Declaration}
use Rattle.qv_syntax.specs.declared.script.Declaration.TheVariants as declarations
use Rattle.qv_syntax.specs.declared.script.RelationTree.{RelationTree}
use Rattle.qv_syntax.specs.declared.script.VarsTree.{VarsTree}
use Rattle.qv_syntax.specs.declared.script.DomainTree.{DomainTree}
use Rattle.qv_syntax.specs.declared.script.BlockTree.{BlockTree}
use Rattle.ql_lex.specs.Lexed.{Lexeme}
use Rattle.ql_lex.specs.Lexemes.{is_name, is_sign, is_word, stands}
use Rattle.ocl_parser.specs.Followers.{follows}
use Rattle.ocl_parser.specs.Pieces.{Piece, ◌▸◌, sign, word, name, nested, each, separated}
use Rattle.ocl_parser.specs.Grammar.{spelled, type_of}
use Rattle.ocl_parser.specs.Runs.{Stuck, Tree}
use Rattle.ocl_parser.specs.Readings.{expr_read, name_read}
use Rattle.ocl_parser.proofs.CompletePieces.{at_span, held, parts, taken}
use Rattle.ocl_parser.proofs.FollowLaws.{brace_stuck, tree_before}
use Rattle.qvtr_parser.specs.Grammar.{block, clause, conjuncts, declaration, expr, model, optional_semicolon, optional_word, param, query, relation, relation_body, script, some_domains, some_with_commas, vars}
use Rattle.qvtr_parser.specs.Lists.{any_read, each_read, left}
use Rattle.qvtr_parser.specs.ScriptReadings.{begins_declaration, begins_domain, behind_if, block_read, body_read, clause_read, conjunct_read, conjuncts_read, declaration_read, declarations_read, goes_on, is_sign_at, is_word_at, model_read, models_read, param_read, params_read, query_body_read, query_read, relation_read, script_read}
use Rattle.qvtr_parser.proofs.ApartLaws.{apart_at, name_no_sign, passes_too, sign_no_word, signs_apart, words_apart}
use Rattle.qvtr_parser.proofs.CompleteLists.{IsReadFrom, Loop, any_reads, before_each, each_of, each_reads, from_here, some_reads, stands_before}
use Rattle.qvtr_parser.proofs.Complete.{all_vars_complete, domains_complete, key_begins, key_complete, model_complete, param_complete, word_within}
use Rattle.qvtr_parser.proofs.CompleteTemplates.{brace_follows}
use Rattle.ocl_parser.proofs.ReadingComplete.{Follows, Reads, braced, expr_reads, name_reads, sign_reads, type_reads, word_reads}
use Rattle.mof_metamodel.proofs.Facts.{first_true}

abbrev Anything : ℕ → Type 0
Anything j = Unit {0}

-- ---- blocks

abbrev Follower : List Lexeme → ℕ → Type 0
Follower ts j = stands follows ts j ≡ true

semicolon_follows : (l : Lexeme) → is_sign (codes ";") l ≡ true → follows l ≡ true
semicolon_follows l e = rw (signs_apart (codes ";") (codes "}") refl l e, signs_apart (codes ";") (codes ",") refl l e, e) refl

no_tree : (e : Expr) (i j : ℕ) {X : Type 0} → Stuck i ≡ Tree e j → X
no_tree e i j h = cc

-- no expression begins with a closing brace
no_brace : (ts : List Lexeme) (e : Expr) (n i j : ℕ) → spelled ts n e i ≡ Some j → Follower ts j → is_sign_at ts (codes "}") i ≡ false
no_brace ts e n i j h f = by (is_sign_at ts (codes "}") i) refl
  where
    by : (b : Bool) → is_sign_at ts (codes "}") i ≡ b → b ≡ false
    by true s = no_tree e i j (sym (brace_stuck ts n i s) ∙ tree_before ts n n i j e (omega arith) h f)
    by false s = refl

abbrev behind_semicolon : List Lexeme → Expr → Piece
behind_semicolon ts e = sign ts (codes ";") ▸ expr ts e

conjunct_loop : (ts : List Lexeme) (n : ℕ) → Loop ts (goes_on ts) (Follower ts) (behind_semicolon ts) n
unfolding spelled
conjunct_loop ts n = record {
  within = λ j e. stands_before (is_sign (codes ";")) ts j (first_true (is_sign_at ts (codes ";") j) (not (is_sign_at ts (codes "}") (j + 1))) e);
  begins = λ x i j e last. (
      let a = parts (sign ts (codes ";")) (expr ts x) n i j e in
      let s = taken (is_sign (codes ";")) ts n i a.0 a.1 in
      let no : is_sign_at ts (codes "}") (i + 1) ≡ false = ap (is_sign_at ts (codes "}")) (sym s.1) ∙ no_brace ts x n a.0 j a.2 last in
      rw (s.0, no) refl);
  between = λ j e. passes_too (is_sign (codes ";")) follows semicolon_follows ts j (first_true (is_sign_at ts (codes ";") j) (not (is_sign_at ts (codes "}") (j + 1))) e);
}

conjunct_reads : (ts : List Lexeme) (n : ℕ) (x : Expr) → IsReadFrom (Follower ts) (conjunct_read ts n) (behind_semicolon ts) n x
unfolding spelled
conjunct_reads ts n x i j e last =
    let a = parts (sign ts (codes ";")) (expr ts x) n i j e in
    let s = taken (is_sign (codes ";")) ts n i a.0 a.1 in
    let r = expr_reads ts x n a.0 j a.2 last in
    record { read = ap (expr_read ts n) (sym s.1) ∙ r.read; further = omega (arith, s.1, r.further) }

-- the `;` behind the last expression
record LastSemicolon (ts : List Lexeme) (k j : ℕ) : Type 0 where
  ends : goes_on ts k ≡ false
  follower : Follower ts k
  behind : behind_if (is_sign_at ts (codes ";") k) k ≡ j
  further : k ≤ j

last_semicolon : (ts : List Lexeme) (n k j : ℕ) → optional_semicolon ts n k ≡ Some j → is_sign_at ts (codes "}") j ≡ true → LastSemicolon ts k j
last_semicolon ts n k j e closes = by (is_sign_at ts (codes ";") k) refl e
  where
    by : (b : Bool) → is_sign_at ts (codes ";") k ≡ b → Option.Some (if b then k + 1 else k) ≡ Some j → LastSemicolon ts k j
    by true s h =
        let same : k + 1 ≡ j = cc in
        let brace : is_sign_at ts (codes "}") (k + 1) ≡ true = ap (is_sign_at ts (codes "}")) same ∙ closes in
        record { ends = rw (s, brace) refl; follower = passes_too (is_sign (codes ";")) follows semicolon_follows ts k s; behind = rw s same; further = omega arith }
    by false s h =
        let same : k ≡ j = cc in
        let brace : is_sign_at ts (codes "}") k ≡ true = ap (is_sign_at ts (codes "}")) same ∙ closes in
        record { ends = rw s refl; follower = passes_too (is_sign (codes "}")) follows brace_follows ts k brace; behind = rw s same; further = omega arith }

conjuncts_complete : (ts : List Lexeme) (es : List Expr) (n i j : ℕ) → conjuncts ts es n i ≡ Some j → is_sign_at ts (codes "}") j ≡ true → (conjuncts_read ts n i ≡ Ok (es, j)) × (i ≤ j)
unfolding conjuncts_read separated spelled
conjuncts_complete ts [] n i j e closes =
    let same : i ≡ j = cc in
    let here : is_sign_at ts (codes "}") i ≡ true = ap (is_sign_at ts (codes "}")) same ∙ closes in
    let none : List Expr = [] in
    (rw here (ap (λ (k : ℕ). Ok (none, k)) same), omega arith)
conjuncts_complete ts (x ∷ xs) n i j e closes =
    let a = parts (separated ts (codes ";") (map (expr ts) (x ∷ xs))) (optional_semicolon ts) n i j e in
    let b = parts (expr ts x) (each (map (λ q. sign ts (codes ";") ▸ q) (map (expr ts) xs))) n i a.0 a.1 in
    let s = last_semicolon ts n a.0 j a.2 closes in
    let same : map (λ q. sign ts (codes ";") ▸ q) (map (expr ts) xs) ≡ map (behind_semicolon ts) xs = map-map (λ (q : Piece). sign ts (codes ";") ▸ q) (expr ts) xs in
    let more : each (map (behind_semicolon ts) xs) n b.0 ≡ Some a.0 = ap (λ (ps : List Piece). each ps n b.0) (sym same) ∙ b.2 in
    let f : Follower ts b.0 = before_each ts (goes_on ts) (Follower ts) (behind_semicolon ts) n (conjunct_loop ts n) xs b.0 a.0 more s.follower in
    let r = expr_reads ts x n i b.0 b.1 f in
    let rest = each_reads ts (goes_on ts) (Follower ts) (conjunct_read ts n) (behind_semicolon ts) n (conjunct_loop ts n) xs
    (each_of (IsReadFrom (Follower ts) (conjunct_read ts n) (behind_semicolon ts) n) (conjunct_reads ts n) xs) b.0 a.0 more s.ends s.follower (left ts b.0) (x ∷ []) (from_here ts b.0) in
    let no : is_sign_at ts (codes "}") i ≡ false = no_brace ts x n i b.0 b.1 f in
    (rw (no, r.read, rest.0, s.behind) refl, omega (arith, r.further, rest.1, s.further))

block_complete : (ts : List Lexeme) (b : BlockTree) (n i j : ℕ) → block ts b n i ≡ Some j → Reads (block_read ts n) b i j
unfolding block_read block
block_complete ts b n i j e =
    let s = at_span ts b.span (nested (sign ts (codes "{") ▸ conjuncts ts b.exprs ▸ sign ts (codes "}"))) n i j e in
    let c = braced ts (codes "{") (codes "}") (conjuncts ts b.exprs) n i j s.0 in
    let r = conjuncts_complete ts b.exprs c.inside (i + 1) c.close c.inner c.closing in
    let within : conjuncts_read ts (n - 1) (i + 1) ≡ Ok (b.exprs, c.close) = ap (λ (m : ℕ). conjuncts_read ts m (i + 1)) c.less ∙ r.0 in
    record { read = rw (c.opens, within, c.closes) (ap (λ (x : Span). Ok (record { exprs = b.exprs; span = x }, j)) (sym s.1)); further = omega (arith, r.1, c.end) }

clause_complete : (ts : List Lexeme) (text : List ℕ) (b : Option BlockTree) (n i j : ℕ) → clause ts text b n i ≡ Some j → is_word_at ts text j ≡ false
    → (clause_read ts text n i ≡ Ok (b, j)) × (i ≤ j)
unfolding clause_read
clause_complete ts text None n i j e ends =
    let same : i ≡ j = cc in
    let here : is_word_at ts text i ≡ false = ap (is_word_at ts text) same ∙ ends in
    let none : Option BlockTree = None in
    (rw here (ap (λ (k : ℕ). Ok (none, k)) same), omega arith)
clause_complete ts text (Some b) n i j e ends =
    let a = parts (word ts text) (block ts b) n i j e in
    let w = taken (is_word text) ts n i a.0 a.1 in
    let r = block_complete ts b n a.0 j a.2 in
    let of : block_read ts n (i + 1) ≡ Ok (b, j) = ap (block_read ts n) (sym w.1) ∙ r.read in
    (rw (w.0, of) refl, omega (arith, w.1, r.further))

-- a clause begins with its word, or is none
clause_first : (ts : List Lexeme) (text : List ℕ) (b : Option BlockTree) (n i j : ℕ) → clause ts text b n i ≡ Some j → (is_word_at ts text i ≡ true) ⊎ (i ≡ j)
clause_first ts text None n i j e = let same : i ≡ j = cc in inr same
clause_first ts text (Some b) n i j e = let a = parts (word ts text) (block ts b) n i j e in inl (taken (is_word text) ts n i a.0 a.1).0

-- ---- relations

-- which tokens may stand behind the domains
abbrev IsBehind : List Lexeme → ℕ → Type 0
IsBehind ts i = (is_word_at ts (codes "when") i ≡ true) ⊎ (is_word_at ts (codes "where") i ≡ true) ⊎ (is_sign_at ts (codes "}") i ≡ true)

no_domain_word : (text : List ℕ) (ts : List Lexeme) (i : ℕ) → bytes_eq text (codes "checkonly") ≡ false → bytes_eq text (codes "enforce") ≡ false → bytes_eq text (codes "domain") ≡ false
    → bytes_eq text (codes "primitive") ≡ false → is_word_at ts text i ≡ true → begins_domain ts i ≡ false
no_domain_word text ts i a b c d e = rw (
  apart_at (is_word text) (is_word (codes "checkonly")) (words_apart text (codes "checkonly") a) ts i e,
  apart_at (is_word text) (is_word (codes "enforce")) (words_apart text (codes "enforce") b) ts i e,
  apart_at (is_word text) (is_word (codes "domain")) (words_apart text (codes "domain") c) ts i e,
  apart_at (is_word text) (is_word (codes "primitive")) (words_apart text (codes "primitive") d) ts i e,
) refl

no_domain_sign : (text : List ℕ) (ts : List Lexeme) (i : ℕ) → is_sign_at ts text i ≡ true → begins_domain ts i ≡ false
no_domain_sign text ts i e = rw (
  apart_at (is_sign text) (is_word (codes "checkonly")) (sign_no_word text (codes "checkonly")) ts i e,
  apart_at (is_sign text) (is_word (codes "enforce")) (sign_no_word text (codes "enforce")) ts i e,
  apart_at (is_sign text) (is_word (codes "domain")) (sign_no_word text (codes "domain")) ts i e,
  apart_at (is_sign text) (is_word (codes "primitive")) (sign_no_word text (codes "primitive")) ts i e,
) refl

no_domain : (ts : List Lexeme) (i : ℕ) → IsBehind ts i → begins_domain ts i ≡ false
no_domain ts i (inl e) = no_domain_word (codes "when") ts i refl refl refl refl e
no_domain ts i (inr (inl e)) = no_domain_word (codes "where") ts i refl refl refl refl e
no_domain ts i (inr (inr e)) = no_domain_sign (codes "}") ts i e

where_first : (ts : List Lexeme) (b : Option BlockTree) (n i j : ℕ) → clause ts (codes "where") b n i ≡ Some j → is_sign_at ts (codes "}") j ≡ true
    → (is_word_at ts (codes "where") i ≡ true) ⊎ (is_sign_at ts (codes "}") i ≡ true)
where_first ts b n i j e closes = elim (clause_first ts (codes "where") b n i j e) [
  | inl w ↦ inl w
  | inr same ↦ inr (ap (is_sign_at ts (codes "}")) same ∙ closes)
]

when_first : (ts : List Lexeme) (b : Option BlockTree) (n i j : ℕ) → clause ts (codes "when") b n i ≡ Some j → (is_word_at ts (codes "where") j ≡ true) ⊎ (is_sign_at ts (codes "}") j ≡ true) → IsBehind ts i
when_first ts b n i j e h = elim (clause_first ts (codes "when") b n i j e) [
  | inl w ↦ inl w
  | inr same ↦ inr (subst (λ (k : ℕ). (is_word_at ts (codes "where") k ≡ true) ⊎ (is_sign_at ts (codes "}") k ≡ true)) (sym same) h)
]

no_when : (ts : List Lexeme) (i : ℕ) → (is_word_at ts (codes "where") i ≡ true) ⊎ (is_sign_at ts (codes "}") i ≡ true) → is_word_at ts (codes "when") i ≡ false
no_when ts i (inl e) = apart_at (is_word (codes "where")) (is_word (codes "when")) (words_apart (codes "where") (codes "when") refl) ts i e
no_when ts i (inr e) = apart_at (is_sign (codes "}")) (is_word (codes "when")) (sign_no_word (codes "}") (codes "when")) ts i e

body_complete : (ts : List Lexeme) (vs : List VarsTree) (ds : List DomainTree) (when wheres : Option BlockTree) (n i j : ℕ) → relation_body ts vs ds when wheres n i ≡ Some j → is_sign_at ts (codes "}") j ≡ true
    → (body_read ts n i ≡ Ok (record { vars = vs; domains = ds; when = when; wheres = wheres }, j)) × (i ≤ j)
unfolding body_read
body_complete ts vs ds when wheres n i j e closes =
    let a = parts (each (map (vars ts) vs) ▸ some_domains ts ds ▸ clause ts (codes "when") when) (clause ts (codes "where") wheres) n i j e in
    let b = parts (each (map (vars ts) vs) ▸ some_domains ts ds) (clause ts (codes "when") when) n i a.0 a.1 in
    let c = parts (each (map (vars ts) vs)) (some_domains ts ds) n i b.0 b.1 in
    let last = where_first ts wheres n a.0 j a.2 closes in
    let w = clause_complete ts (codes "where") wheres n a.0 j a.2 (apart_at (is_sign (codes "}")) (is_word (codes "where")) (sign_no_word (codes "}") (codes "where")) ts j closes) in
    let x = clause_complete ts (codes "when") when n b.0 a.0 b.2 (no_when ts a.0 last) in
    let d = domains_complete ts ds n c.0 b.0 c.2 (no_domain ts b.0 (when_first ts when n b.0 a.0 b.2 last)) in
    let v = all_vars_complete ts vs n i c.0 c.1 d.1 in
    (rw (v.0, d.0.read, x.0, w.0) refl, omega (arith, v.1, d.0.further, x.1, w.1))

-- how a declaration begins
record Top (ts : List Lexeme) (top : Bool) (i k : ℕ) : Type 0 where
  is : is_word_at ts (codes "top") i ≡ top
  behind : behind_if (is_word_at ts (codes "top") i) i ≡ k
  further : i ≤ k
  no_key : is_word_at ts (codes "key") i ≡ false
  no_query : is_word_at ts (codes "query") i ≡ false
  begins : begins_declaration ts i ≡ true

top_complete : (ts : List Lexeme) (top : Bool) (n i k : ℕ) → optional_word ts (codes "top") top n i ≡ Some k → is_word_at ts (codes "relation") k ≡ true → Top ts top i k
top_complete ts true n i k e r =
    let w = taken (is_word (codes "top")) ts n i k e in
    let a : is_word_at ts (codes "key") i ≡ false = apart_at (is_word (codes "top")) (is_word (codes "key")) (words_apart (codes "top") (codes "key") refl) ts i w.0 in
    let b : is_word_at ts (codes "query") i ≡ false = apart_at (is_word (codes "top")) (is_word (codes "query")) (words_apart (codes "top") (codes "query") refl) ts i w.0 in
    record { is = w.0; behind = rw w.0 (sym w.1); further = omega (arith, w.1); no_key = a; no_query = b; begins = rw (a, b, w.0) refl }
top_complete ts false n i k e r =
    let same : i ≡ k = cc in
    let here : is_word_at ts (codes "relation") i ≡ true = ap (is_word_at ts (codes "relation")) same ∙ r in
    let a : is_word_at ts (codes "key") i ≡ false = apart_at (is_word (codes "relation")) (is_word (codes "key")) (words_apart (codes "relation") (codes "key") refl) ts i here in
    let b : is_word_at ts (codes "query") i ≡ false = apart_at (is_word (codes "relation")) (is_word (codes "query")) (words_apart (codes "relation") (codes "query") refl) ts i here in
    let c : is_word_at ts (codes "top") i ≡ false = apart_at (is_word (codes "relation")) (is_word (codes "top")) (words_apart (codes "relation") (codes "top") refl) ts i here in
    record { is = c; behind = rw c same; further = omega arith; no_key = a; no_query = b; begins = rw (a, b, c, here) refl }

-- a declaration is read, and begins as one
record ReadDeclaration (ts : List Lexeme) (d : Declaration) (n i j : ℕ) : Type 0 where
  reads : Reads (declaration_read ts n) d i j
  begins : begins_declaration ts i ≡ true

relation_complete : (ts : List Lexeme) (r : RelationTree) (n i j : ℕ) → relation ts r n i ≡ Some j → ReadDeclaration ts (declarations.Relation r) n i j
unfolding declaration_read relation_read relation
relation_complete ts r n i j e =
    let body : Piece = relation_body ts r.vars r.domains r.when r.wheres in
    let braces : Piece = nested (sign ts (codes "{") ▸ body ▸ sign ts (codes "}")) in
    let s = at_span ts r.span (optional_word ts (codes "top") r.top ▸ word ts (codes "relation") ▸ name ts r.name ▸ braces) n i j e in
    let a = parts (optional_word ts (codes "top") r.top ▸ word ts (codes "relation") ▸ name ts r.name) braces n i j s.0 in
    let b = parts (optional_word ts (codes "top") r.top ▸ word ts (codes "relation")) (name ts r.name) n i a.0 a.1 in
    let c = parts (optional_word ts (codes "top") r.top) (word ts (codes "relation")) n i b.0 b.1 in
    let t = top_complete ts r.top n i c.0 c.1 (taken (is_word (codes "relation")) ts n c.0 b.0 c.2).0 in
    let w = word_reads ts (codes "relation") n c.0 b.0 c.2 in
    let x = name_reads ts r.name n b.0 a.0 b.2 in
    let d = braced ts (codes "{") (codes "}") body n a.0 j a.2 in
    let q = body_complete ts r.vars r.domains r.when r.wheres d.inside (a.0 + 1) d.close d.inner d.closing in
    let within : body_read ts (n - 1) (a.0 + 1) ≡ Ok (record { vars = r.vars; domains = r.domains; when = r.when; wheres = r.wheres }, d.close) = ap (λ (m : ℕ). body_read ts m (a.0 + 1)) d.less ∙ q.0 in
    record {
      reads = record {
        read = rw (t.no_key, t.no_query, t.behind, w.0, x.0, d.opens, within, d.closes, t.is) (ap (λ (y : Span). Ok (declarations.Relation (record { top = r.top; name = r.name; vars = r.vars; domains = r.domains; when = r.when; wheres = r.wheres; span = y }), j)) (sym s.1));
        further = omega (arith, t.further, w.1, x.1, q.1, d.end);
      };
      begins = t.begins;
    }

-- ---- queries

params_complete : (ts : List Lexeme) (ps : List ParamTree) (n i j : ℕ) → nested (sign ts (codes "(") ▸ separated ts (codes ",") (map (param ts) ps) ▸ sign ts (codes ")")) n i ≡ Some j → Reads (params_read ts n) ps i j
unfolding params_read param
params_complete ts ps n i j e =
    let b = braced ts (codes "(") (codes ")") (separated ts (codes ",") (map (param ts) ps)) n i j e in
    let r = any_reads ts (Follows ts) (codes ")") (param_read ts b.inside) (param ts) b.inside
    (λ k comma. apart_at (is_sign (codes ",")) (is_sign (codes "::")) (signs_apart (codes ",") (codes "::") refl) ts k comma) (param_begins b.inside) ps
    (each_of (IsReadFrom (Follows ts) (param_read ts b.inside) (param ts) b.inside) (λ p k l h last. param_complete ts p b.inside k l h last) ps) (i + 1) b.close b.inner b.closing
    (apart_at (is_sign (codes ")")) (is_sign (codes ",")) (signs_apart (codes ")") (codes ",") refl) ts b.close b.closing)
    (apart_at (is_sign (codes ")")) (is_sign (codes "::")) (signs_apart (codes ")") (codes "::") refl) ts b.close b.closing) in
    let within : any_read ts (codes ")") (param_read ts (n - 1)) (i + 1) ≡ Ok (ps, b.close) = ap (λ (m : ℕ). any_read ts (codes ")") (param_read ts m) (i + 1)) b.less ∙ r.0 in
    record { read = rw (b.opens, within, b.closes) refl; further = omega (arith, r.1, b.end) }
  where
    param_begins : (m : ℕ) (p : ParamTree) (k l : ℕ) → param ts p m k ≡ Some l → stands (is_sign (codes ")")) ts k ≡ false
    param_begins m p k l h =
        let a = parts (name ts p.name ▸ sign ts (codes ":")) (type_of ts p.ty) m k l h in
        let c = parts (name ts p.name) (sign ts (codes ":")) m k a.0 a.1 in
        apart_at (is_name p.name) (is_sign (codes ")")) (name_no_sign p.name (codes ")")) ts k (taken (is_name p.name) ts m k c.0 c.1).0

query_body_complete : (ts : List Lexeme) (e : Expr) (n i j : ℕ) → nested (sign ts (codes "{") ▸ expr ts e ▸ sign ts (codes "}")) n i ≡ Some j → Reads (query_body_read ts n) e i j
unfolding query_body_read spelled
query_body_complete ts e n i j h =
    let b = braced ts (codes "{") (codes "}") (expr ts e) n i j h in
    let r = expr_reads ts e b.inside (i + 1) b.close b.inner (passes_too (is_sign (codes "}")) follows brace_follows ts b.close b.closing) in
    let within : expr_read ts (n - 1) (i + 1) ≡ Ok (e, b.close) = ap (λ (m : ℕ). expr_read ts m (i + 1)) b.less ∙ r.read in
    record { read = rw (b.opens, within, b.closes) refl; further = omega (arith, r.further, b.end) }

query_complete : (ts : List Lexeme) (q : QueryTree) (n i j : ℕ) → query ts q n i ≡ Some j → ReadDeclaration ts (declarations.Query q) n i j
unfolding declaration_read query_read query
query_complete ts q n i j e =
    let brackets : Piece = nested (sign ts (codes "(") ▸ separated ts (codes ",") (map (param ts) q.params) ▸ sign ts (codes ")")) in
    let braces : Piece = nested (sign ts (codes "{") ▸ expr ts q.body ▸ sign ts (codes "}")) in
    let a = parts (word ts (codes "query") ▸ name ts q.name ▸ brackets ▸ sign ts (codes ":") ▸ type_of ts q.result) braces n i j e in
    let b = parts (word ts (codes "query") ▸ name ts q.name ▸ brackets ▸ sign ts (codes ":")) (type_of ts q.result) n i a.0 a.1 in
    let c = parts (word ts (codes "query") ▸ name ts q.name ▸ brackets) (sign ts (codes ":")) n i b.0 b.1 in
    let d = parts (word ts (codes "query") ▸ name ts q.name) brackets n i c.0 c.1 in
    let f = parts (word ts (codes "query")) (name ts q.name) n i d.0 d.1 in
    let here = (taken (is_word (codes "query")) ts n i f.0 f.1).0 in
    let no : is_word_at ts (codes "key") i ≡ false = apart_at (is_word (codes "query")) (is_word (codes "key")) (words_apart (codes "query") (codes "key") refl) ts i here in
    let w = word_reads ts (codes "query") n i f.0 f.1 in
    let x = name_reads ts q.name n f.0 d.0 f.2 in
    let ps = params_complete ts q.params n d.0 c.0 d.2 in
    let y = sign_reads ts (codes ":") n c.0 b.0 c.2 in
    let o = braced ts (codes "{") (codes "}") (expr ts q.body) n a.0 j a.2 in
    let t = type_reads q.result ts n b.0 a.0 b.2 (apart_at (is_sign (codes "{")) (is_sign (codes "::")) (signs_apart (codes "{") (codes "::") refl) ts a.0 o.opening) in
    let z = query_body_complete ts q.body n a.0 j a.2 in
    record {
      reads = record { read = rw (no, here, ap (name_read ts) (sym w.1) ∙ x.0, ps.read, y.0, t.read, z.read) refl; further = omega (arith, w.1, x.1, ps.further, y.1, t.further, z.further) };
      begins = rw (no, here) refl;
    }

-- ---- transformations

declaration_complete : (ts : List Lexeme) (d : Declaration) (n i j : ℕ) → declaration ts d n i ≡ Some j → ReadDeclaration ts d n i j
unfolding declaration_read
declaration_complete ts (declarations.Key k) n i j e =
    let r = key_complete ts k n i j e in
    let here = key_begins ts k n i j e in
    record { reads = record { read = rw (here, r.read) refl; further = r.further }; begins = rw here refl }
declaration_complete ts (declarations.Relation r) n i j e = relation_complete ts r n i j e
declaration_complete ts (declarations.Query q) n i j e = query_complete ts q n i j e

models_complete : (ts : List Lexeme) (ms : List ModelTree) (n i j : ℕ) → nested (sign ts (codes "(") ▸ some_with_commas ts (map (model ts) ms) ▸ sign ts (codes ")")) n i ≡ Some j → Reads (models_read ts n) ms i j
unfolding models_read some_with_commas
models_complete ts [] n i j e =
    let b = braced ts (codes "(") (codes ")") (some_with_commas ts []) n i j e in
    absurd (true≢false (sym (held false (separated ts (codes ",") []) b.inside (i + 1) b.close b.inner).0))
models_complete ts (m ∷ ms) n i j e =
    let b = braced ts (codes "(") (codes ")") (some_with_commas ts (map (model ts) (m ∷ ms))) n i j e in
    let a = held _ (separated ts (codes ",") (map (model ts) (m ∷ ms))) b.inside (i + 1) b.close b.inner in
    let r = some_reads ts Anything (model_read ts) (model ts) b.inside (λ k comma. tt) m ms
    (each_of (IsReadFrom Anything (model_read ts) (model ts) b.inside) (λ x k l h last. model_complete ts x b.inside k l h) (m ∷ ms)) (i + 1) b.close a.1
    (apart_at (is_sign (codes ")")) (is_sign (codes ",")) (signs_apart (codes ")") (codes ",") refl) ts b.close b.closing) tt in
    record { read = rw (b.opens, r.read, b.closes) refl; further = omega (arith, r.further, b.end) }

no_declaration_sign : (text : List ℕ) (ts : List Lexeme) (i : ℕ) → is_sign_at ts text i ≡ true → begins_declaration ts i ≡ false
no_declaration_sign text ts i e = rw (
  apart_at (is_sign text) (is_word (codes "key")) (sign_no_word text (codes "key")) ts i e,
  apart_at (is_sign text) (is_word (codes "query")) (sign_no_word text (codes "query")) ts i e,
  apart_at (is_sign text) (is_word (codes "top")) (sign_no_word text (codes "top")) ts i e,
  apart_at (is_sign text) (is_word (codes "relation")) (sign_no_word text (codes "relation")) ts i e,
) refl

pub declaration_loop : (ts : List Lexeme) (n : ℕ) → Loop ts (begins_declaration ts) Anything (declaration ts) n
declaration_loop ts n = record {
  within = λ j e. by j (is_word_at ts (codes "key") j) refl (is_word_at ts (codes "query") j) refl (is_word_at ts (codes "top") j) refl (is_word_at ts (codes "relation") j) refl e;
  begins = λ d i j e last. (declaration_complete ts d n i j e).begins;
  between = λ j e. tt;
}
  where
    by : (j : ℕ) (a : Bool) → is_word_at ts (codes "key") j ≡ a → (b : Bool) → is_word_at ts (codes "query") j ≡ b → (c : Bool) → is_word_at ts (codes "top") j ≡ c
        → (d : Bool) → is_word_at ts (codes "relation") j ≡ d → (a || b || c || d) ≡ true → j < length ts
    by j true p b q c r d s h = word_within ts (codes "key") j p
    by j false p true q c r d s h = word_within ts (codes "query") j q
    by j false p false q true r d s h = word_within ts (codes "top") j r
    by j false p false q false r true s h = word_within ts (codes "relation") j s
    by j false p false q false r false s h = cc

declarations_complete : (ts : List Lexeme) (ds : List Declaration) (n i j : ℕ) → nested (sign ts (codes "{") ▸ each (map (declaration ts) ds) ▸ sign ts (codes "}")) n i ≡ Some j → Reads (declarations_read ts n) ds i j
unfolding declarations_read
declarations_complete ts ds n i j e =
    let b = braced ts (codes "{") (codes "}") (each (map (declaration ts) ds)) n i j e in
    let r = each_reads ts (begins_declaration ts) Anything (declaration_read ts b.inside) (declaration ts) b.inside (declaration_loop ts b.inside) ds
    (each_of (IsReadFrom Anything (declaration_read ts b.inside) (declaration ts) b.inside) (λ x k l h last. (declaration_complete ts x b.inside k l h).reads) ds) (i + 1) b.close b.inner
    (no_declaration_sign (codes "}") ts b.close b.closing) tt (left ts (i + 1)) [] (from_here ts (i + 1)) in
    let within : each_read (begins_declaration ts) (declaration_read ts (n - 1)) (left ts (i + 1)) [] (i + 1) ≡ Ok (ds, b.close) = ap (λ (m : ℕ). each_read (begins_declaration ts) (declaration_read ts m) (left ts (i + 1)) [] (i + 1)) b.less ∙ r.0 in
    record { read = rw (b.opens, within, b.closes) refl; further = omega (arith, r.1, b.end) }

-- all tokens that spell a script are read as it
pub script_complete : (ts : List Lexeme) (n : ℕ) (s : Script) → script ts s n 0 ≡ Some (length ts) → script_read ts n ≡ Ok (s, length ts)
unfolding script_read script
script_complete ts n s e =
    let brackets : Piece = nested (sign ts (codes "(") ▸ some_with_commas ts (map (model ts) s.models) ▸ sign ts (codes ")")) in
    let braces : Piece = nested (sign ts (codes "{") ▸ each (map (declaration ts) s.declarations) ▸ sign ts (codes "}")) in
    let p = at_span ts s.span (word ts (codes "transformation") ▸ name ts s.name ▸ brackets ▸ braces) n 0 (length ts) e in
    let a = parts (word ts (codes "transformation") ▸ name ts s.name ▸ brackets) braces n 0 (length ts) p.0 in
    let b = parts (word ts (codes "transformation") ▸ name ts s.name) brackets n 0 a.0 a.1 in
    let c = parts (word ts (codes "transformation")) (name ts s.name) n 0 b.0 b.1 in
    let w = word_reads ts (codes "transformation") n 0 c.0 c.1 in
    let x = name_reads ts s.name n c.0 b.0 c.2 in
    let m = models_complete ts s.models n b.0 a.0 b.2 in
    let d = declarations_complete ts s.declarations n a.0 (length ts) a.2 in
    let all : (length ts == length ts) ≡ true = grind (arith, nat_tests) in
    rw (w.0, x.0, m.read, d.read, all) (ap (λ (y : Span). Ok (record { name = s.name; models = s.models; declarations = s.declarations; span = y }, length ts)) (sym p.1))
