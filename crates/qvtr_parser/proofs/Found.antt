-- What is read of a script is spelled, production by production.
use Rattle.std.proofs.Common.{◌≡◌, ℕ, ◌+◌, ◌-◌, Bool, true, false, ◌&&◌, List, [], ◌∷◌, map, length, Option, Some, None, Ok, Err, refl, subst, arith, nat_lt}
use Rattle.std.specs.Prelude.{codes, if◌then◌else◌, ◌==◌}
use Rattle.std.proofs.lemmas.Bool.Decides.{nat_tests}
use Rattle.std.proofs.lemmas.Simd.{map-map}
use Rattle.qv_syntax.specs.declared.name.Name.{Name}
use Rattle.qv_syntax.specs.declared.expr.Expr.{Expr}
use Rattle.qv_syntax.specs.declared.query.QueryTree.{QueryTree}
use Rattle.qv_syntax.specs.declared.query.ParamTree.{ParamTree}
use Rattle.qv_syntax.specs.declared.script.Script.{Script}
use Rattle.qv_syntax.specs.declared.script.ModelTree.{ModelTree}
use Rattle.qv_syntax.specs.declared.script.Declaration.{Declaration}
use Rattle.qv_syntax.specs.declared.script.Declaration.TheVariants as declarations
use Rattle.qv_syntax.specs.declared.script.KeyTree.{KeyTree}
use Rattle.qv_syntax.specs.declared.script.RelationTree.{RelationTree}
use Rattle.qv_syntax.specs.declared.script.VarsTree.{VarsTree}
use Rattle.qv_syntax.specs.declared.script.DomainTree.{DomainTree}
use Rattle.qv_syntax.specs.declared.script.BlockTree.{BlockTree}
use Rattle.ql_lex.specs.Lexed.{Lexeme}
use Rattle.ql_lex.specs.Lexemes.{is_sign, is_word, span_at}
use Rattle.ql_lex.proofs.TokenLaws.{same_span}
use Rattle.ocl_parser.specs.Pieces.{Piece, ◌▸◌, sign, word, name, nested, each, separated}
use Rattle.ocl_parser.specs.Grammar.{spelled}
use Rattle.ocl_parser.specs.Readings.{and_then, expr_read, name_read, opening_read, path_read, sign_read, type_read, word_read}
use Rattle.ocl_parser.specs.declared.halt.Stop.TheVariants as stops
use Rattle.qvtr_parser.proofs.FoundLaws.{expr_found, inverted, name_found, opening_found, path_found, same_ok, sign_found, type_found, word_found}
use Rattle.ocl_parser.proofs.PieceLaws.{both, inside, token_taken}
use Rattle.qvtr_parser.specs.Grammar.{expr, param, model, key, query, vars, domain, conjuncts, block, clause, relation, relation_body, declaration, script, some_with_commas, some_domains, optional_mark, optional_word}
use Rattle.qvtr_parser.specs.declared.relations.Body.{Body}
use Rattle.qvtr_parser.specs.Lists.{any_read, each_read, left, some_read}
use Rattle.qvtr_parser.specs.ScriptReadings.{all_vars_read, begins_declaration, begins_domain, behind_if, block_read, body_read, clause_read, conjunct_read, conjuncts_from, conjuncts_read, declaration_read, declarations_read, domain_read, domains_read, goes_on, is_marked, is_name_at, is_sign_at, is_word_at, key_read, mark_at, model_read, models_read, names_read, param_read, params_read, pattern_read, primitive_read, props_read, query_body_read, query_read, relation_read, script_read, template_read, vars_read}
use Rattle.qvtr_parser.proofs.ListLaws.{any_found, commas_found, each_found}
use Rattle.qvtr_parser.proofs.TemplateFound.{template_found}
use Rattle.mof_metamodel.proofs.Facts.{first_true}

-- ---- names, parameters, models and keys

names_found : (ts : List Lexeme) (i : ℕ) (x : List Name × ℕ) → names_read ts i ≡ Ok x → (n : ℕ) → some_with_commas ts (map (name ts) x.0) n i ≡ Some x.1
unfolding names_read
names_found ts i x e n = commas_found ts (name_read ts) (name ts) n (λ j y r. name_found ts j y r n) i x e

param_found : (ts : List Lexeme) (n i : ℕ) (x : ParamTree × ℕ) → param_read ts n i ≡ Ok x → param ts x.0 n i ≡ Some x.1
unfolding param_read param
param_found ts n i x e =
    let a = inverted (name_read ts i) _ x e in
    let b = inverted (sign_read ts (codes ":") a.0.1) _ x a.2 in
    let c = inverted (type_read ts n b.0) _ x b.2 in
    subst (λ (y : ParamTree × ℕ). param ts y.0 n i ≡ Some y.1) (same_ok _ x c.2)
    (rw (name_found ts i a.0 a.1 n, sign_found ts (codes ":") a.0.1 b.0 b.1 n, type_found ts n b.0 c.0 c.1) refl)

model_found : (ts : List Lexeme) (n i : ℕ) (x : ModelTree × ℕ) → model_read ts i ≡ Ok x → model ts x.0 n i ≡ Some x.1
unfolding model_read model
model_found ts n i x e =
    let a = inverted (name_read ts i) _ x e in
    let b = inverted (sign_read ts (codes ":") a.0.1) _ x a.2 in
    let c = inverted (name_read ts b.0) _ x b.2 in
    subst (λ (y : ModelTree × ℕ). model ts y.0 n i ≡ Some y.1) (same_ok _ x c.2)
    (rw (name_found ts i a.0 a.1 n, sign_found ts (codes ":") a.0.1 b.0 b.1 n, name_found ts b.0 c.0 c.1 n) refl)

props_found : (ts : List Lexeme) (n i : ℕ) (x : List Name × ℕ) → props_read ts n i ≡ Ok x
    → nested (sign ts (codes "{") ▸ some_with_commas ts (map (name ts) x.0) ▸ sign ts (codes "}")) n i ≡ Some x.1
unfolding props_read
props_found ts n i x e =
    let a = inverted (opening_read ts (codes "{") n i) _ x e in
    let b = inverted (names_read ts a.0) _ x a.2 in
    let c = inverted (sign_read ts (codes "}") b.0.1) _ x b.2 in
    let o = opening_found ts (codes "{") n i a.0 a.1 in
    subst (λ (y : List Name × ℕ). nested (sign ts (codes "{") ▸ some_with_commas ts (map (name ts) y.0) ▸ sign ts (codes "}")) n i ≡ Some y.1) (same_ok _ x c.2)
    (inside _ n (n - 1) i c.0 o.0 (rw (o.1 (n - 1), names_found ts a.0 b.0 b.1 (n - 1), sign_found ts (codes "}") b.0.1 c.0 c.1 (n - 1)) refl))

key_found : (ts : List Lexeme) (n i : ℕ) (x : KeyTree × ℕ) → key_read ts n i ≡ Ok x → key ts x.0 n i ≡ Some x.1
unfolding key_read key
key_found ts n i x e =
    let a = inverted (word_read ts (codes "key") i) _ x e in
    let b = inverted (path_read ts a.0) _ x a.2 in
    let c = inverted (props_read ts n b.0.1) _ x b.2 in
    let d = inverted (sign_read ts (codes ";") c.0.1) _ x c.2 in
    subst (λ (y : KeyTree × ℕ). key ts y.0 n i ≡ Some y.1) (same_ok _ x d.2)
    (rw (
      word_found ts (codes "key") i a.0 a.1 n,
      path_found ts a.0 b.0 b.1 n,
      props_found ts n b.0.1 c.0 c.1,
      sign_found ts (codes ";") c.0.1 d.0 d.1 n,
      same_span (span_at ts i d.0),
    ) refl)

-- ---- domains

-- a token that stands there or not
optional_found : (ts : List Lexeme) (text : List ℕ) (n i : ℕ) → optional_word ts text (is_word_at ts text i) n i ≡ Some (behind_if (is_word_at ts text i) i)
optional_found ts text n i = by (is_word_at ts text i) refl
  where
    by : (b : Bool) → is_word_at ts text i ≡ b → optional_word ts text b n i ≡ Some (behind_if b i)
    by true s = token_taken (is_word text) ts n i s
    by false s = refl

mark_found : (ts : List Lexeme) (n i : ℕ) → optional_mark ts (mark_at ts i) n i ≡ Some (behind_if (is_marked ts i) i)
mark_found ts n i = by (is_word_at ts (codes "checkonly") i) refl (is_word_at ts (codes "enforce") i) refl
  where
    by : (b : Bool) → is_word_at ts (codes "checkonly") i ≡ b → (c : Bool) → is_word_at ts (codes "enforce") i ≡ c
        → optional_mark ts (mark_at ts i) n i ≡ Some (behind_if (is_marked ts i) i)
    by true s c t = rw (s, token_taken (is_word (codes "checkonly")) ts n i s) refl
    by false s true t = rw (s, t, token_taken (is_word (codes "enforce")) ts n i t) refl
    by false s false t = rw (s, t) refl

pattern_found : (ts : List Lexeme) (n i : ℕ) (x : DomainTree × ℕ) → pattern_read ts n i ≡ Ok x → domain ts x.0 n i ≡ Some x.1
unfolding pattern_read domain
pattern_found ts n i x e =
    let k = behind_if (is_marked ts i) i in
    let a = inverted (word_read ts (codes "domain") k) _ x e in
    let b = inverted (name_read ts a.0) _ x a.2 in
    let c = inverted (name_read ts b.0.1) _ x b.2 in
    let d = inverted (template_read ts n c.0.1) _ x c.2 in
    let f = inverted (sign_read ts (codes ";") d.0.1) _ x d.2 in
    subst (λ (y : DomainTree × ℕ). domain ts y.0 n i ≡ Some y.1) (same_ok _ x f.2)
    (rw (
      mark_found ts n i,
      word_found ts (codes "domain") k a.0 a.1 n,
      name_found ts a.0 b.0 b.1 n,
      name_found ts b.0.1 c.0 c.1 n,
      template_found ts n c.0.1 d.0 d.1,
      sign_found ts (codes ";") d.0.1 f.0 f.1 n,
      same_span (span_at ts i f.0),
    ) refl)

primitive_found : (ts : List Lexeme) (n i : ℕ) (x : DomainTree × ℕ) → primitive_read ts n i ≡ Ok x → domain ts x.0 n i ≡ Some x.1
unfolding primitive_read domain
primitive_found ts n i x e =
    let a = inverted (word_read ts (codes "primitive") i) _ x e in
    let b = inverted (word_read ts (codes "domain") a.0) _ x a.2 in
    let c = inverted (name_read ts b.0) _ x b.2 in
    let d = inverted (sign_read ts (codes ":") c.0.1) _ x c.2 in
    let f = inverted (type_read ts n d.0) _ x d.2 in
    let g = inverted (sign_read ts (codes ";") f.0.1) _ x f.2 in
    subst (λ (y : DomainTree × ℕ). domain ts y.0 n i ≡ Some y.1) (same_ok _ x g.2)
    (rw (
      word_found ts (codes "primitive") i a.0 a.1 n,
      word_found ts (codes "domain") a.0 b.0 b.1 n,
      name_found ts b.0 c.0 c.1 n,
      sign_found ts (codes ":") c.0.1 d.0 d.1 n,
      type_found ts n d.0 f.0 f.1,
      sign_found ts (codes ";") f.0.1 g.0 g.1 n,
      same_span (span_at ts i g.0),
    ) refl)

domain_found : (ts : List Lexeme) (n i : ℕ) (x : DomainTree × ℕ) → domain_read ts n i ≡ Ok x → domain ts x.0 n i ≡ Some x.1
domain_found ts n i x e = by (is_word_at ts (codes "primitive") i) e
  where
    by : (b : Bool) → (if b then primitive_read ts n i else pattern_read ts n i) ≡ Ok x → domain ts x.0 n i ≡ Some x.1
    by true a = primitive_found ts n i x a
    by false a = pattern_found ts n i x a

domains_found : (ts : List Lexeme) (n i : ℕ) (x : List DomainTree × ℕ) → domains_read ts n i ≡ Ok x → some_domains ts x.0 n i ≡ Some x.1
unfolding domains_read each
domains_found ts n i x e =
    let a = inverted (domain_read ts n i) _ x e in
    let f = each_found (begins_domain ts) (domain_read ts n) (domain ts) n (λ j y g r. domain_found ts n j y r) (left ts a.0.1) (a.0.0 ∷ []) a.0.1 x a.2 in
    let some : nat_lt 0 (length (a.0.0 ∷ f.more)) ≡ true = grind (arith, nat_tests) in
    rw (f.all, some, domain_found ts n i a.0 a.1) f.spelled

-- ---- relations

vars_found : (ts : List Lexeme) (n i : ℕ) (x : VarsTree × ℕ) → vars_read ts n i ≡ Ok x → vars ts x.0 n i ≡ Some x.1
unfolding vars_read vars
vars_found ts n i x e =
    let a = inverted (names_read ts i) _ x e in
    let b = inverted (sign_read ts (codes ":") a.0.1) _ x a.2 in
    let c = inverted (type_read ts n b.0) _ x b.2 in
    let d = inverted (sign_read ts (codes ";") c.0.1) _ x c.2 in
    subst (λ (y : VarsTree × ℕ). vars ts y.0 n i ≡ Some y.1) (same_ok _ x d.2)
    (rw (
      names_found ts i a.0 a.1 n,
      sign_found ts (codes ":") a.0.1 b.0 b.1 n,
      type_found ts n b.0 c.0 c.1,
      sign_found ts (codes ";") c.0.1 d.0 d.1 n,
      same_span (span_at ts i d.0),
    ) refl)

all_vars_found : (ts : List Lexeme) (n i : ℕ) (x : List VarsTree × ℕ) → all_vars_read ts n i ≡ Ok x → each (map (vars ts) x.0) n i ≡ Some x.1
all_vars_found ts n i x e =
    let f = each_found (is_name_at ts) (vars_read ts n) (vars ts) n (λ j y g r. vars_found ts n j y r) (left ts i) [] i x e in
    rw f.all f.spelled

expr_spelled : (ts : List Lexeme) (n i : ℕ) (x : Expr × ℕ) → expr_read ts n i ≡ Ok x → expr ts x.0 n i ≡ Some x.1
unfolding spelled
expr_spelled ts n i x e = expr_found ts n i x e

conjuncts_found : (ts : List Lexeme) (n i : ℕ) (x : List Expr × ℕ) → conjuncts_read ts n i ≡ Ok x → conjuncts ts x.0 n i ≡ Some x.1
unfolding conjuncts_read separated
conjuncts_found ts n i x e = by (is_sign_at ts (codes "}") i) e
  where
    by : (b : Bool) → (if b then Ok ([], i) else and_then (expr_read ts n i) (conjuncts_from ts n)) ≡ Ok x → conjuncts ts x.0 n i ≡ Some x.1
    by true a = subst (λ (y : List Expr × ℕ). conjuncts ts y.0 n i ≡ Some y.1) (same_ok _ x a) refl
    by false a =
        let first = inverted (expr_read ts n i) (conjuncts_from ts n) x a in
        let others = inverted (each_read (goes_on ts) (conjunct_read ts n) (left ts first.0.1) (first.0.0 ∷ []) first.0.1) _ x first.2 in
        let semicolon : Expr → Piece = λ e. sign ts (codes ";") ▸ expr ts e in
        let f = each_found (goes_on ts) (conjunct_read ts n) semicolon n
        (λ j y g r. both (sign ts (codes ";")) (expr ts y.0) n j (j + 1) y.1 (token_taken (is_sign (codes ";")) ts n j (first_true _ _ g)) (expr_spelled ts n (j + 1) y r))
        (left ts first.0.1) (first.0.0 ∷ []) first.0.1 others.0 others.1 in
        let behind : map (λ q. sign ts (codes ";") ▸ q) (map (expr ts) f.more) ≡ map semicolon f.more = map-map (λ (q : Piece). sign ts (codes ";") ▸ q) (expr ts) f.more in
        subst (λ (y : List Expr × ℕ). conjuncts ts y.0 n i ≡ Some y.1) (same_ok _ x others.2)
        (rw (f.all, expr_spelled ts n i first.0 first.1, behind, f.spelled) refl)

block_found : (ts : List Lexeme) (n i : ℕ) (x : BlockTree × ℕ) → block_read ts n i ≡ Ok x → block ts x.0 n i ≡ Some x.1
unfolding block_read block
block_found ts n i x e =
    let a = inverted (opening_read ts (codes "{") n i) _ x e in
    let b = inverted (conjuncts_read ts (n - 1) a.0) _ x a.2 in
    let c = inverted (sign_read ts (codes "}") b.0.1) _ x b.2 in
    let o = opening_found ts (codes "{") n i a.0 a.1 in
    let body = inside (sign ts (codes "{") ▸ conjuncts ts b.0.0 ▸ sign ts (codes "}")) n (n - 1) i c.0 o.0
    (rw (o.1 (n - 1), conjuncts_found ts (n - 1) a.0 b.0 b.1, sign_found ts (codes "}") b.0.1 c.0 c.1 (n - 1)) refl) in
    subst (λ (y : BlockTree × ℕ). block ts y.0 n i ≡ Some y.1) (same_ok _ x c.2) (rw (body, same_span (span_at ts i c.0)) refl)

clause_found : (ts : List Lexeme) (text : List ℕ) (n i : ℕ) (x : Option BlockTree × ℕ) → clause_read ts text n i ≡ Ok x → clause ts text x.0 n i ≡ Some x.1
unfolding clause_read
clause_found ts text n i x e = by (is_word_at ts text i) refl e
  where
    by : (b : Bool) → is_word_at ts text i ≡ b → (if b then and_then (block_read ts n (i + 1)) (λ b. Ok (Some b.0, b.1)) else Ok (None, i)) ≡ Ok x
        → clause ts text x.0 n i ≡ Some x.1
    by true s a =
        let b = inverted (block_read ts n (i + 1)) (λ (b : BlockTree × ℕ). Ok (Some b.0, b.1)) x a in
        subst (λ (y : Option BlockTree × ℕ). clause ts text y.0 n i ≡ Some y.1) (same_ok _ x b.2)
        (both (word ts text) (block ts b.0.0) n i (i + 1) b.0.1 (token_taken (is_word text) ts n i s) (block_found ts n (i + 1) b.0 b.1))
    by false s a = subst (λ (y : Option BlockTree × ℕ). clause ts text y.0 n i ≡ Some y.1) (same_ok _ x a) refl

body_found : (ts : List Lexeme) (n i : ℕ) (x : Body × ℕ) → body_read ts n i ≡ Ok x → relation_body ts x.0.vars x.0.domains x.0.when x.0.wheres n i ≡ Some x.1
unfolding body_read
body_found ts n i x e =
    let a = inverted (all_vars_read ts n i) _ x e in
    let b = inverted (domains_read ts n a.0.1) _ x a.2 in
    let c = inverted (clause_read ts (codes "when") n b.0.1) _ x b.2 in
    let d = inverted (clause_read ts (codes "where") n c.0.1) _ x c.2 in
    subst (λ (y : Body × ℕ). relation_body ts y.0.vars y.0.domains y.0.when y.0.wheres n i ≡ Some y.1) (same_ok _ x d.2)
    (rw (all_vars_found ts n i a.0 a.1, domains_found ts n a.0.1 b.0 b.1, clause_found ts (codes "when") n b.0.1 c.0 c.1) (clause_found ts (codes "where") n c.0.1 d.0 d.1))

relation_found : (ts : List Lexeme) (n i : ℕ) (x : RelationTree × ℕ) → relation_read ts n i ≡ Ok x → relation ts x.0 n i ≡ Some x.1
unfolding relation_read relation
relation_found ts n i x e =
    let top = is_word_at ts (codes "top") i in
    let k = behind_if top i in
    let a = inverted (word_read ts (codes "relation") k) _ x e in
    let b = inverted (name_read ts a.0) _ x a.2 in
    let c = inverted (opening_read ts (codes "{") n b.0.1) _ x b.2 in
    let d = inverted (body_read ts (n - 1) c.0) _ x c.2 in
    let f = inverted (sign_read ts (codes "}") d.0.1) _ x d.2 in
    let o = opening_found ts (codes "{") n b.0.1 c.0 c.1 in
    let braces = inside (sign ts (codes "{") ▸ relation_body ts d.0.0.vars d.0.0.domains d.0.0.when d.0.0.wheres ▸ sign ts (codes "}")) n (n - 1) b.0.1 f.0 o.0
    (rw (o.1 (n - 1), body_found ts (n - 1) c.0 d.0 d.1, sign_found ts (codes "}") d.0.1 f.0 f.1 (n - 1)) refl) in
    subst (λ (y : RelationTree × ℕ). relation ts y.0 n i ≡ Some y.1) (same_ok _ x f.2)
    (rw (optional_found ts (codes "top") n i, word_found ts (codes "relation") k a.0 a.1 n, name_found ts a.0 b.0 b.1 n, braces, same_span (span_at ts i f.0)) refl)

-- ---- transformations

params_found : (ts : List Lexeme) (n i : ℕ) (x : List ParamTree × ℕ) → params_read ts n i ≡ Ok x
    → nested (sign ts (codes "(") ▸ separated ts (codes ",") (map (param ts) x.0) ▸ sign ts (codes ")")) n i ≡ Some x.1
unfolding params_read
params_found ts n i x e =
    let a = inverted (opening_read ts (codes "(") n i) _ x e in
    let b = inverted (any_read ts (codes ")") (param_read ts (n - 1)) a.0) _ x a.2 in
    let c = inverted (sign_read ts (codes ")") b.0.1) _ x b.2 in
    let o = opening_found ts (codes "(") n i a.0 a.1 in
    subst (λ (y : List ParamTree × ℕ). nested (sign ts (codes "(") ▸ separated ts (codes ",") (map (param ts) y.0) ▸ sign ts (codes ")")) n i ≡ Some y.1) (same_ok _ x c.2)
    (inside _ n (n - 1) i c.0 o.0 (rw (
      o.1 (n - 1),
      any_found ts (codes ")") (param_read ts (n - 1)) (param ts) (n - 1) (λ j y r. param_found ts (n - 1) j y r) a.0 b.0 b.1,
      sign_found ts (codes ")") b.0.1 c.0 c.1 (n - 1),
    ) refl))

query_body_found : (ts : List Lexeme) (n i : ℕ) (x : Expr × ℕ) → query_body_read ts n i ≡ Ok x → nested (sign ts (codes "{") ▸ expr ts x.0 ▸ sign ts (codes "}")) n i ≡ Some x.1
unfolding query_body_read
query_body_found ts n i x e =
    let a = inverted (opening_read ts (codes "{") n i) _ x e in
    let b = inverted (expr_read ts (n - 1) a.0) _ x a.2 in
    let c = inverted (sign_read ts (codes "}") b.0.1) _ x b.2 in
    let o = opening_found ts (codes "{") n i a.0 a.1 in
    subst (λ (y : Expr × ℕ). nested (sign ts (codes "{") ▸ expr ts y.0 ▸ sign ts (codes "}")) n i ≡ Some y.1) (same_ok _ x c.2)
    (inside _ n (n - 1) i c.0 o.0 (rw (o.1 (n - 1), expr_spelled ts (n - 1) a.0 b.0 b.1, sign_found ts (codes "}") b.0.1 c.0 c.1 (n - 1)) refl))

query_found : (ts : List Lexeme) (n i : ℕ) (x : QueryTree × ℕ) → query_read ts n i ≡ Ok x → query ts x.0 n i ≡ Some x.1
unfolding query_read query
query_found ts n i x e =
    let a = inverted (word_read ts (codes "query") i) _ x e in
    let b = inverted (name_read ts a.0) _ x a.2 in
    let c = inverted (params_read ts n b.0.1) _ x b.2 in
    let d = inverted (sign_read ts (codes ":") c.0.1) _ x c.2 in
    let f = inverted (type_read ts n d.0) _ x d.2 in
    let g = inverted (query_body_read ts n f.0.1) _ x f.2 in
    subst (λ (y : QueryTree × ℕ). query ts y.0 n i ≡ Some y.1) (same_ok _ x g.2)
    (rw (
      word_found ts (codes "query") i a.0 a.1 n,
      name_found ts a.0 b.0 b.1 n,
      params_found ts n b.0.1 c.0 c.1,
      sign_found ts (codes ":") c.0.1 d.0 d.1 n,
      type_found ts n d.0 f.0 f.1,
      query_body_found ts n f.0.1 g.0 g.1,
    ) refl)

declaration_found : (ts : List Lexeme) (n i : ℕ) (x : Declaration × ℕ) → declaration_read ts n i ≡ Ok x → declaration ts x.0 n i ≡ Some x.1
unfolding declaration_read
declaration_found ts n i x e = by (is_word_at ts (codes "key") i) (is_word_at ts (codes "query") i) e
  where
    by : (b c : Bool) → (if b then and_then (key_read ts n i) (λ k. Ok (declarations.Key k.0, k.1))
        else if c then and_then (query_read ts n i) (λ q. Ok (declarations.Query q.0, q.1))
        else and_then (relation_read ts n i) (λ r. Ok (declarations.Relation r.0, r.1))) ≡ Ok x → declaration ts x.0 n i ≡ Some x.1
    by true c a =
        let b = inverted (key_read ts n i) (λ (k : KeyTree × ℕ). Ok (declarations.Key k.0, k.1)) x a in
        subst (λ (y : Declaration × ℕ). declaration ts y.0 n i ≡ Some y.1) (same_ok _ x b.2) (key_found ts n i b.0 b.1)
    by false true a =
        let b = inverted (query_read ts n i) (λ (q : QueryTree × ℕ). Ok (declarations.Query q.0, q.1)) x a in
        subst (λ (y : Declaration × ℕ). declaration ts y.0 n i ≡ Some y.1) (same_ok _ x b.2) (query_found ts n i b.0 b.1)
    by false false a =
        let b = inverted (relation_read ts n i) (λ (r : RelationTree × ℕ). Ok (declarations.Relation r.0, r.1)) x a in
        subst (λ (y : Declaration × ℕ). declaration ts y.0 n i ≡ Some y.1) (same_ok _ x b.2) (relation_found ts n i b.0 b.1)

models_found : (ts : List Lexeme) (n i : ℕ) (x : List ModelTree × ℕ) → models_read ts n i ≡ Ok x
    → nested (sign ts (codes "(") ▸ some_with_commas ts (map (model ts) x.0) ▸ sign ts (codes ")")) n i ≡ Some x.1
unfolding models_read
models_found ts n i x e =
    let a = inverted (opening_read ts (codes "(") n i) _ x e in
    let b = inverted (some_read ts (model_read ts) a.0) _ x a.2 in
    let c = inverted (sign_read ts (codes ")") b.0.1) _ x b.2 in
    let o = opening_found ts (codes "(") n i a.0 a.1 in
    subst (λ (y : List ModelTree × ℕ). nested (sign ts (codes "(") ▸ some_with_commas ts (map (model ts) y.0) ▸ sign ts (codes ")")) n i ≡ Some y.1) (same_ok _ x c.2)
    (inside _ n (n - 1) i c.0 o.0 (rw (
      o.1 (n - 1),
      commas_found ts (model_read ts) (model ts) (n - 1) (λ j y r. model_found ts (n - 1) j y r) a.0 b.0 b.1,
      sign_found ts (codes ")") b.0.1 c.0 c.1 (n - 1),
    ) refl))

each_declaration_found : (ts : List Lexeme) (n i : ℕ) (x : List Declaration × ℕ) → each_read (begins_declaration ts) (declaration_read ts n) (left ts i) [] i ≡ Ok x
    → each (map (declaration ts) x.0) n i ≡ Some x.1
each_declaration_found ts n i x e =
    let f = each_found (begins_declaration ts) (declaration_read ts n) (declaration ts) n (λ j y g r. declaration_found ts n j y r) (left ts i) [] i x e in
    rw f.all f.spelled

declarations_found : (ts : List Lexeme) (n i : ℕ) (x : List Declaration × ℕ) → declarations_read ts n i ≡ Ok x
    → nested (sign ts (codes "{") ▸ each (map (declaration ts) x.0) ▸ sign ts (codes "}")) n i ≡ Some x.1
unfolding declarations_read
declarations_found ts n i x e =
    let a = inverted (opening_read ts (codes "{") n i) _ x e in
    let b = inverted (each_read (begins_declaration ts) (declaration_read ts (n - 1)) (left ts a.0) [] a.0) _ x a.2 in
    let c = inverted (sign_read ts (codes "}") b.0.1) _ x b.2 in
    let o = opening_found ts (codes "{") n i a.0 a.1 in
    subst (λ (y : List Declaration × ℕ). nested (sign ts (codes "{") ▸ each (map (declaration ts) y.0) ▸ sign ts (codes "}")) n i ≡ Some y.1) (same_ok _ x c.2)
    (inside _ n (n - 1) i c.0 o.0 (rw (o.1 (n - 1), each_declaration_found ts (n - 1) a.0 b.0 b.1, sign_found ts (codes "}") b.0.1 c.0 c.1 (n - 1)) refl))

-- a script that is read up to the end of the text is spelled by all tokens
pub script_found : (ts : List Lexeme) (n : ℕ) (x : Script × ℕ) → script_read ts n ≡ Ok x → script ts x.0 n 0 ≡ Some (length ts)
unfolding script_read script
script_found ts n x e =
    let a = inverted (word_read ts (codes "transformation") 0) _ x e in
    let b = inverted (name_read ts a.0) _ x a.2 in
    let c = inverted (models_read ts n b.0.1) _ x b.2 in
    let d = inverted (declarations_read ts n c.0.1) _ x c.2 in
    let s : Script = record { name = b.0.0; models = c.0.0; declarations = d.0.0; span = span_at ts 0 d.0.1 } in
    by s d.0.1 (length ts == d.0.1) refl (rw (
      word_found ts (codes "transformation") 0 a.0 a.1 n,
      name_found ts a.0 b.0 b.1 n,
      models_found ts n b.0.1 c.0 c.1,
      declarations_found ts n c.0.1 d.0 d.1,
      same_span (span_at ts 0 d.0.1),
    ) refl) d.2
  where
    by : (s : Script) (end : ℕ) (c : Bool) → (length ts == end) ≡ c → script ts s n 0 ≡ Some end → (if c then Ok (s, end) else Err (stops.Stuck end)) ≡ Ok x
        → script ts x.0 n 0 ≡ Some (length ts)
    by s end true same spelled a =
        let end_is : end ≡ length ts = grind (arith, nat_tests) in
        subst (λ (y : Script × ℕ). script ts y.0 n 0 ≡ Some (length ts)) (same_ok _ x a) (rw (← end_is) spelled)
    by s end false same spelled a = cc
