-- How scripts are read, production by production: a token tells which production it begins.
use Rattle.std.specs.Prelude.{ℕ, zero, suc, ◌+◌, ◌-◌, ◌==◌, Bool, true, false, not, ◌&&◌, ◌||◌, if◌then◌else◌, List, [], ◌∷◌, length, Option, Some, None, Ok, Err, codes}
use Rattle.qv_syntax.specs.declared.name.Name.{Name}
use Rattle.qv_syntax.specs.declared.expr.Expr.{Expr}
use Rattle.qv_syntax.specs.declared.query.QueryTree.{QueryTree}
use Rattle.qv_syntax.specs.declared.query.ParamTree.{ParamTree}
use Rattle.qv_syntax.specs.declared.script.Script.{Script}
use Rattle.qv_syntax.specs.declared.script.ModelTree.{ModelTree}
use Rattle.qv_syntax.specs.declared.script.Declaration.{Declaration}
use Rattle.qv_syntax.specs.declared.script.Declaration.TheVariants as declarations
use Rattle.qv_syntax.specs.declared.script.KeyTree.{KeyTree}
use Rattle.qv_syntax.specs.declared.script.RelationTree.{RelationTree}
use Rattle.qv_syntax.specs.declared.script.VarsTree.{VarsTree}
use Rattle.qv_syntax.specs.declared.script.DomainMark.{DomainMark}
use Rattle.qv_syntax.specs.declared.script.DomainMark.TheVariants as marks
use Rattle.qv_syntax.specs.declared.script.DomainTree.{DomainTree}
use Rattle.qv_syntax.specs.declared.script.DomainTree.TheVariants as domains
use Rattle.qv_syntax.specs.declared.script.BlockTree.{BlockTree}
use Rattle.qv_syntax.specs.declared.script.TemplateTree.{TemplateTree, roll-TemplateTree}
use Rattle.qv_syntax.specs.declared.script.ItemTree.{ItemTree}
use Rattle.qv_syntax.specs.declared.script.ItemValueTree.{ItemValueTree}
use Rattle.qv_syntax.specs.declared.script.ItemValueTree.TheVariants as values
use Rattle.ql_lex.specs.declared.token.TokenKind.TheVariants as kinds
use Rattle.ql_lex.specs.Lexed.{Lexeme}
use Rattle.ql_lex.specs.Lexemes.{is_sign, is_word, span_at, stands}
use Rattle.ocl_parser.specs.Readings.{Read, and_then, expr_read, name_read, opening_read, path_read, sign_read, type_read, word_read}
use Rattle.ocl_parser.specs.declared.halt.Stop.TheVariants as stops
use Rattle.qvtr_parser.specs.declared.relations.Body.{Body}
use Rattle.qvtr_parser.specs.Lists.{any_read, each_read, left, some_read}

abbrev pub is_sign_at : List Lexeme → List ℕ → ℕ → Bool
is_sign_at ts text at = stands (is_sign text) ts at

abbrev pub is_word_at : List Lexeme → List ℕ → ℕ → Bool
is_word_at ts text at = stands (is_word text) ts at

-- a name, quoted or not
abbrev pub is_any_name : Lexeme → Bool
is_any_name l = elim l.token.kind [ kinds.Name ↦ true | kinds.Quoted ↦ true | kinds.Reserved ↦ false | kinds.Number ↦ false | kinds.Str ↦ false | kinds.Sign ↦ false ]

abbrev pub is_name_at : List Lexeme → ℕ → Bool
is_name_at ts at = stands is_any_name ts at

-- behind a token, if it stands there
abbrev pub behind_if : Bool → ℕ → ℕ
behind_if stands at = if stands then at + 1 else at

-- ---- names, parameters and keys

unfoldable pub names_read : List Lexeme → ℕ → Read (List Name)
names_read ts at = some_read ts (name_read ts) at

unfoldable pub param_read : List Lexeme → ℕ → ℕ → Read ParamTree
param_read ts levels at = and_then (name_read ts at)
    (λ n. and_then (sign_read ts (codes ":") n.1) (λ colon. and_then (type_read ts levels colon) (λ ty. Ok (record { name = n.0; ty = ty.0 }, ty.1))))

unfoldable pub model_read : List Lexeme → ℕ → Read ModelTree
model_read ts at = and_then (name_read ts at)
    (λ n. and_then (sign_read ts (codes ":") n.1) (λ colon. and_then (name_read ts colon) (λ meta. Ok (record { name = n.0; meta = meta.0 }, meta.1))))

-- `{ names }`
unfoldable pub props_read : List Lexeme → ℕ → ℕ → Read (List Name)
props_read ts levels at = and_then (opening_read ts (codes "{") levels at)
    (λ inside. and_then (names_read ts inside) (λ ns. and_then (sign_read ts (codes "}") ns.1) (λ end. Ok (ns.0, end))))

unfoldable pub key_read : List Lexeme → ℕ → ℕ → Read KeyTree
key_read ts levels at = and_then (word_read ts (codes "key") at) (λ first. and_then (path_read ts first) (λ class. and_then (props_read ts levels class.1)
    (λ props. and_then (sign_read ts (codes ";") props.1) (λ end. Ok (record { class = class.0; props = props.0; span = span_at ts at end }, end)))))

-- ---- templates

-- behind the `=` of an item a template begins, with its variable or without
abbrev pub begins_template : List Lexeme → ℕ → Bool
begins_template ts at = is_sign_at ts (codes ":") at || is_name_at ts at && is_sign_at ts (codes ":") (at + 1)

abbrev pub nested_read : List Lexeme → (ℕ → Read TemplateTree) → ℕ → Read ItemValueTree
nested_read ts inner at = if is_sign_at ts (codes ":") at then and_then (inner at) (λ t. Ok (values.Nested None t.0, t.1))
    else and_then (name_read ts at) (λ n. and_then (inner n.1) (λ t. Ok (values.Nested (Some n.0) t.0, t.1)))

abbrev pub value_read : List Lexeme → (ℕ → Read TemplateTree) → ℕ → ℕ → Read ItemValueTree
value_read ts inner levels at = if begins_template ts at then nested_read ts inner at
    else and_then (expr_read ts levels at) (λ e. Ok (values.Expr e.0, e.1))

unfoldable pub item_by : List Lexeme → (ℕ → Read TemplateTree) → ℕ → ℕ → Read ItemTree
item_by ts inner levels at = and_then (name_read ts at)
    (λ n. and_then (sign_read ts (codes "=") n.1) (λ equals. and_then (value_read ts inner levels equals) (λ v. Ok (record { prop = n.0; value = v.0 }, v.1))))

unfoldable pub items_by : List Lexeme → (ℕ → Read TemplateTree) → ℕ → ℕ → Read (List ItemTree)
items_by ts inner levels at = any_read ts (codes "}") (item_by ts inner levels) at

-- `: class { items }`, by what reads the items
abbrev pub template_by : List Lexeme → (ℕ → Read (List ItemTree)) → ℕ → ℕ → Read TemplateTree
template_by ts items levels at = and_then (sign_read ts (codes ":") at) (λ colon. and_then (path_read ts colon) (λ class. and_then (opening_read ts (codes "{") levels class.1)
    (λ inside. and_then (items inside) (λ is. and_then (sign_read ts (codes "}") is.1)
    (λ end. Ok (roll-TemplateTree (record { class = class.0; items = is.0; span = span_at ts at end }), end))))))

-- a template where so many levels are left, with no items where there are none
unfoldable pub template_read : List Lexeme → ℕ → ℕ → Read TemplateTree
template_read ts zero at = template_by ts (λ inside. Err (stops.Stuck inside)) 0 at
template_read ts (suc levels) at = template_by ts (items_by ts (template_read ts levels) levels) (suc levels) at

-- items where so many levels are left
abbrev pub item_read : List Lexeme → ℕ → ℕ → Read ItemTree
item_read ts levels at = item_by ts (template_read ts levels) levels at

abbrev pub items_read : List Lexeme → ℕ → ℕ → Read (List ItemTree)
items_read ts levels at = items_by ts (template_read ts levels) levels at

-- ---- domains

-- how the domain is marked
abbrev pub mark_at : List Lexeme → ℕ → Option DomainMark
mark_at ts at = if is_word_at ts (codes "checkonly") at then Some marks.Checkonly else if is_word_at ts (codes "enforce") at then Some marks.Enforce else None

abbrev pub is_marked : List Lexeme → ℕ → Bool
is_marked ts at = is_word_at ts (codes "checkonly") at || is_word_at ts (codes "enforce") at

unfoldable pub pattern_read : List Lexeme → ℕ → ℕ → Read DomainTree
pattern_read ts levels at = and_then (word_read ts (codes "domain") (behind_if (is_marked ts at) at)) (λ first. and_then (name_read ts first) (λ model. and_then (name_read ts model.1)
    (λ root. and_then (template_read ts levels root.1) (λ t. and_then (sign_read ts (codes ";") t.1)
    (λ end. Ok (domains.Pattern (mark_at ts at) model.0 root.0 t.0 (span_at ts at end), end))))))

unfoldable pub primitive_read : List Lexeme → ℕ → ℕ → Read DomainTree
primitive_read ts levels at = and_then (word_read ts (codes "primitive") at) (λ first. and_then (word_read ts (codes "domain") first) (λ second. and_then (name_read ts second)
    (λ root. and_then (sign_read ts (codes ":") root.1) (λ colon. and_then (type_read ts levels colon) (λ ty. and_then (sign_read ts (codes ";") ty.1)
    (λ end. Ok (domains.Primitive root.0 ty.0 (span_at ts at end), end)))))))

abbrev pub domain_read : List Lexeme → ℕ → ℕ → Read DomainTree
domain_read ts levels at = if is_word_at ts (codes "primitive") at then primitive_read ts levels at else pattern_read ts levels at

abbrev pub begins_domain : List Lexeme → ℕ → Bool
begins_domain ts at = is_marked ts at || is_word_at ts (codes "domain") at || is_word_at ts (codes "primitive") at

unfoldable pub domains_read : List Lexeme → ℕ → ℕ → Read (List DomainTree)
domains_read ts levels at = and_then (domain_read ts levels at) (λ d. each_read (begins_domain ts) (domain_read ts levels) (left ts d.1) (d.0 ∷ []) d.1)

-- ---- relations

unfoldable pub vars_read : List Lexeme → ℕ → ℕ → Read VarsTree
vars_read ts levels at = and_then (names_read ts at) (λ ns. and_then (sign_read ts (codes ":") ns.1) (λ colon. and_then (type_read ts levels colon)
    (λ ty. and_then (sign_read ts (codes ";") ty.1) (λ end. Ok (record { names = ns.0; ty = ty.0; span = span_at ts at end }, end)))))

abbrev pub all_vars_read : List Lexeme → ℕ → ℕ → Read (List VarsTree)
all_vars_read ts levels at = each_read (is_name_at ts) (vars_read ts levels) (left ts at) [] at

-- one more expression follows: a `;`, and no `}` behind it
abbrev pub goes_on : List Lexeme → ℕ → Bool
goes_on ts at = is_sign_at ts (codes ";") at && not (is_sign_at ts (codes "}") (at + 1))

abbrev pub conjunct_read : List Lexeme → ℕ → ℕ → Read Expr
conjunct_read ts levels at = expr_read ts levels (at + 1)

abbrev pub conjuncts_from : List Lexeme → ℕ → Expr × ℕ → Read (List Expr)
conjuncts_from ts levels first = and_then (each_read (goes_on ts) (conjunct_read ts levels) (left ts first.1) (first.0 ∷ []) first.1)
    (λ es. Ok (es.0, behind_if (is_sign_at ts (codes ";") es.1) es.1))

-- expressions with `;` between them, and behind them or not
unfoldable pub conjuncts_read : List Lexeme → ℕ → ℕ → Read (List Expr)
conjuncts_read ts levels at = if is_sign_at ts (codes "}") at then Ok ([], at) else and_then (expr_read ts levels at) (conjuncts_from ts levels)

unfoldable pub block_read : List Lexeme → ℕ → ℕ → Read BlockTree
block_read ts levels at = and_then (opening_read ts (codes "{") levels at) (λ inside. and_then (conjuncts_read ts (levels - 1) inside)
    (λ es. and_then (sign_read ts (codes "}") es.1) (λ end. Ok (record { exprs = es.0; span = span_at ts at end }, end))))

-- a word with its block, or nothing
unfoldable pub clause_read : List Lexeme → List ℕ → ℕ → ℕ → Read (Option BlockTree)
clause_read ts text levels at = if is_word_at ts text at then and_then (block_read ts levels (at + 1)) (λ b. Ok (Some b.0, b.1)) else Ok (None, at)

-- what stands between the braces of a relation
unfoldable pub body_read : List Lexeme → ℕ → ℕ → Read Body
body_read ts levels at = and_then (all_vars_read ts levels at) (λ vs. and_then (domains_read ts levels vs.1) (λ ds. and_then (clause_read ts (codes "when") levels ds.1)
    (λ when. and_then (clause_read ts (codes "where") levels when.1) (λ wheres. Ok (record { vars = vs.0; domains = ds.0; when = when.0; wheres = wheres.0 }, wheres.1)))))

abbrev pub relation_of : Bool → Name → Body → List Lexeme → ℕ → ℕ → RelationTree
relation_of top name body ts at end =
    record { top = top; name = name; vars = body.vars; domains = body.domains; when = body.when; wheres = body.wheres; span = span_at ts at end }

unfoldable pub relation_read : List Lexeme → ℕ → ℕ → Read RelationTree
relation_read ts levels at = and_then (word_read ts (codes "relation") (behind_if (is_word_at ts (codes "top") at) at)) (λ first. and_then (name_read ts first)
    (λ n. and_then (opening_read ts (codes "{") levels n.1) (λ inside. and_then (body_read ts (levels - 1) inside) (λ body. and_then (sign_read ts (codes "}") body.1)
    (λ end. Ok (relation_of (is_word_at ts (codes "top") at) n.0 body.0 ts at end, end))))))

-- ---- transformations

-- `( params )`
unfoldable pub params_read : List Lexeme → ℕ → ℕ → Read (List ParamTree)
params_read ts levels at = and_then (opening_read ts (codes "(") levels at) (λ inside. and_then (any_read ts (codes ")") (param_read ts (levels - 1)) inside)
    (λ ps. and_then (sign_read ts (codes ")") ps.1) (λ end. Ok (ps.0, end))))

-- `{ expression }`
unfoldable pub query_body_read : List Lexeme → ℕ → ℕ → Read Expr
query_body_read ts levels at = and_then (opening_read ts (codes "{") levels at) (λ inside. and_then (expr_read ts (levels - 1) inside)
    (λ e. and_then (sign_read ts (codes "}") e.1) (λ end. Ok (e.0, end))))

unfoldable pub query_read : List Lexeme → ℕ → ℕ → Read QueryTree
query_read ts levels at = and_then (word_read ts (codes "query") at) (λ first. and_then (name_read ts first) (λ n. and_then (params_read ts levels n.1)
    (λ ps. and_then (sign_read ts (codes ":") ps.1) (λ colon. and_then (type_read ts levels colon) (λ ty. and_then (query_body_read ts levels ty.1)
    (λ body. Ok (record { name = n.0; params = ps.0; result = ty.0; body = body.0 }, body.1)))))))

abbrev pub begins_declaration : List Lexeme → ℕ → Bool
begins_declaration ts at = is_word_at ts (codes "key") at || is_word_at ts (codes "query") at || is_word_at ts (codes "top") at || is_word_at ts (codes "relation") at

unfoldable pub declaration_read : List Lexeme → ℕ → ℕ → Read Declaration
declaration_read ts levels at =
    if is_word_at ts (codes "key") at then and_then (key_read ts levels at) (λ k. Ok (declarations.Key k.0, k.1))
    else if is_word_at ts (codes "query") at then and_then (query_read ts levels at) (λ q. Ok (declarations.Query q.0, q.1))
    else and_then (relation_read ts levels at) (λ r. Ok (declarations.Relation r.0, r.1))

-- `( models )`
unfoldable pub models_read : List Lexeme → ℕ → ℕ → Read (List ModelTree)
models_read ts levels at = and_then (opening_read ts (codes "(") levels at) (λ inside. and_then (some_read ts (model_read ts) inside)
    (λ ms. and_then (sign_read ts (codes ")") ms.1) (λ end. Ok (ms.0, end))))

-- `{ declarations }`
unfoldable pub declarations_read : List Lexeme → ℕ → ℕ → Read (List Declaration)
declarations_read ts levels at = and_then (opening_read ts (codes "{") levels at)
    (λ inside. and_then (each_read (begins_declaration ts) (declaration_read ts (levels - 1)) (left ts inside) [] inside)
    (λ ds. and_then (sign_read ts (codes "}") ds.1) (λ end. Ok (ds.0, end))))

-- the end of the text
abbrev pub end_read : List Lexeme → Script → ℕ → Read Script
end_read ts s at = if length ts == at then Ok (s, at) else Err (stops.Stuck at)

-- a script where so many levels of nesting may be open, up to the end of the text
unfoldable pub script_read : List Lexeme → ℕ → Read Script
script_read ts levels = and_then (word_read ts (codes "transformation") 0) (λ first. and_then (name_read ts first) (λ n. and_then (models_read ts levels n.1)
    (λ ms. and_then (declarations_read ts levels ms.1) (λ ds. end_read ts (record { name = n.0; models = ms.0; declarations = ds.0; span = span_at ts 0 ds.1 }) ds.1))))
