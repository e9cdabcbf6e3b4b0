-- The grammar of scripts (QVT 1.3, section 7.13, the concrete syntax): which tokens spell which tree, one clause for each
-- production. Expressions, types and paths are those of OCL.
use Rattle.std.specs.Prelude.{◌≡◌, ℕ, ◌+◌, Bool, if◌then◌else◌, nat_lt, List, [], ◌∷◌, map, length, Option, Some, codes}
use Rattle.std.specs.Option.{option_map_or}
use Rattle.ocl_parser.specs.declared.limits.TheConstants.{MAX_NESTING}
use Rattle.qv_syntax.specs.declared.name.Name.{Name}
use Rattle.qv_syntax.specs.declared.expr.Expr.{Expr}
use Rattle.qv_syntax.specs.declared.query.QueryTree.{QueryTree}
use Rattle.qv_syntax.specs.declared.query.ParamTree.{ParamTree}
use Rattle.qv_syntax.specs.declared.script.Script.{Script}
use Rattle.qv_syntax.specs.declared.script.ModelTree.{ModelTree}
use Rattle.qv_syntax.specs.declared.script.Declaration.{Declaration}
use Rattle.qv_syntax.specs.declared.script.Declaration.TheVariants as declarations
use Rattle.qv_syntax.specs.declared.script.KeyTree.{KeyTree}
use Rattle.qv_syntax.specs.declared.script.RelationTree.{RelationTree}
use Rattle.qv_syntax.specs.declared.script.VarsTree.{VarsTree}
use Rattle.qv_syntax.specs.declared.script.DomainMark.{DomainMark}
use Rattle.qv_syntax.specs.declared.script.DomainMark.TheVariants as marks
use Rattle.qv_syntax.specs.declared.script.DomainTree.{DomainTree}
use Rattle.qv_syntax.specs.declared.script.DomainTree.TheVariants as domains
use Rattle.qv_syntax.specs.declared.script.BlockTree.{BlockTree}
use Rattle.qv_syntax.specs.declared.script.TemplateTree.{TemplateTree, fold-TemplateTree}
use Rattle.qv_syntax.specs.declared.script.ItemTree.{ItemTree, fold-ItemTree}
use Rattle.qv_syntax.specs.declared.script.ItemValueTree.{ItemValueTree, fold-ItemValueTree}
use Rattle.qv_syntax.specs.declared.script.ItemValueTree.TheOpen as of
use Rattle.ql_lex.specs.Lexed.{Lexeme}
use Rattle.ql_lex.specs.Lexemes.{is_sign, stands}
use Rattle.ocl_parser.specs.Pieces.{Piece, ◌▸◌, empty, sign, word, name, nested, only, spanned, each, separated}
use Rattle.ocl_parser.specs.Grammar.{class_path, type_of, form}

-- ---- what productions share

-- an expression
abbrev pub expr : List Lexeme → Expr → Piece
expr ts e = (form ts e).piece

-- pieces with commas between them, at least one
unfoldable pub some_with_commas : List Lexeme → List Piece → Piece
some_with_commas ts ps = only (nat_lt 0 (length ps)) (separated ts (codes ",") ps)

-- `name : type`
unfoldable pub param : List Lexeme → ParamTree → Piece
param ts p = name ts p.name ▸ sign ts (codes ":") ▸ type_of ts p.ty

-- ---- templates

abbrev pub optional_name : List Lexeme → Option Name → Piece
optional_name ts n = option_map_or (name ts) n empty

-- `: class { items }`
abbrev pub template_step : List Lexeme → of.TemplateTree-F Piece Piece Piece → Piece
template_step ts t = spanned ts t.span (sign ts (codes ":") ▸ class_path ts t.class ▸ nested (sign ts (codes "{") ▸ separated ts (codes ",") t.items ▸ sign ts (codes "}")))

-- `prop = value`
abbrev pub item_step : List Lexeme → of.ItemTree-F Piece Piece Piece → Piece
item_step ts i = name ts i.prop ▸ sign ts (codes "=") ▸ i.value

-- an expression, or a template with its variable or without
abbrev pub value_step : List Lexeme → of.ItemValueTree-F Piece Piece Piece → Piece
value_step ts (of.Expr value) = expr ts value
value_step ts (of.Nested variable template) = optional_name ts variable ▸ template

unfoldable pub template : List Lexeme → TemplateTree → Piece
template ts = fold-TemplateTree Piece Piece Piece (value_step ts) (item_step ts) (template_step ts)

unfoldable pub item : List Lexeme → ItemTree → Piece
item ts = fold-ItemTree Piece Piece Piece (value_step ts) (item_step ts) (template_step ts)

unfoldable pub item_value : List Lexeme → ItemValueTree → Piece
item_value ts = fold-ItemValueTree Piece Piece Piece (value_step ts) (item_step ts) (template_step ts)

-- ---- domains

abbrev pub mark_word : DomainMark → List ℕ
mark_word marks.Checkonly = codes "checkonly"
mark_word marks.Enforce = codes "enforce"

abbrev pub optional_mark : List Lexeme → Option DomainMark → Piece
optional_mark ts mark = option_map_or (λ m. word ts (mark_word m)) mark empty

unfoldable pub domain : List Lexeme → DomainTree → Piece
domain ts (domains.Pattern mark model root pattern span) =
    spanned ts span (optional_mark ts mark ▸ word ts (codes "domain") ▸ name ts model ▸ name ts root ▸ template ts pattern ▸ sign ts (codes ";"))
domain ts (domains.Primitive root ty span) =
    spanned ts span (word ts (codes "primitive") ▸ word ts (codes "domain") ▸ name ts root ▸ sign ts (codes ":") ▸ type_of ts ty ▸ sign ts (codes ";"))

-- ---- relations

-- variables of one type
unfoldable pub vars : List Lexeme → VarsTree → Piece
vars ts v = spanned ts v.span (some_with_commas ts (map (name ts) v.names) ▸ sign ts (codes ":") ▸ type_of ts v.ty ▸ sign ts (codes ";"))

-- `;` or nothing, where no `;` follows
abbrev pub optional_semicolon : List Lexeme → Piece
optional_semicolon ts levels at = Some (if stands (is_sign (codes ";")) ts at then at + 1 else at)

-- expressions with `;` between them, and behind them or not
abbrev pub conjuncts : List Lexeme → List Expr → Piece
conjuncts ts [] = empty
conjuncts ts (e ∷ es) = separated ts (codes ";") (map (expr ts) (e ∷ es)) ▸ optional_semicolon ts

-- `{ expressions }`
unfoldable pub block : List Lexeme → BlockTree → Piece
block ts b = spanned ts b.span (nested (sign ts (codes "{") ▸ conjuncts ts b.exprs ▸ sign ts (codes "}")))

-- a word with its block, or nothing
abbrev pub clause : List Lexeme → List ℕ → Option BlockTree → Piece
clause ts text b = option_map_or (λ b. word ts text ▸ block ts b) b empty

abbrev pub optional_word : List Lexeme → List ℕ → Bool → Piece
optional_word ts text stands = if stands then word ts text else empty

-- one domain at least
abbrev pub some_domains : List Lexeme → List DomainTree → Piece
some_domains ts ds = only (nat_lt 0 (length ds)) (each (map (domain ts) ds))

-- what stands between the braces of a relation
abbrev pub relation_body : List Lexeme → List VarsTree → List DomainTree → Option BlockTree → Option BlockTree → Piece
relation_body ts vs ds when wheres = each (map (vars ts) vs) ▸ some_domains ts ds ▸ clause ts (codes "when") when ▸ clause ts (codes "where") wheres

unfoldable pub relation : List Lexeme → RelationTree → Piece
relation ts r = spanned ts r.span (optional_word ts (codes "top") r.top ▸ word ts (codes "relation") ▸ name ts r.name
    ▸ nested (sign ts (codes "{") ▸ relation_body ts r.vars r.domains r.when r.wheres ▸ sign ts (codes "}")))

-- ---- transformations

unfoldable pub query : List Lexeme → QueryTree → Piece
query ts q = word ts (codes "query") ▸ name ts q.name ▸ nested (sign ts (codes "(") ▸ separated ts (codes ",") (map (param ts) q.params) ▸ sign ts (codes ")"))
    ▸ sign ts (codes ":") ▸ type_of ts q.result ▸ nested (sign ts (codes "{") ▸ expr ts q.body ▸ sign ts (codes "}"))

unfoldable pub key : List Lexeme → KeyTree → Piece
key ts k = spanned ts k.span (word ts (codes "key") ▸ class_path ts k.class
    ▸ nested (sign ts (codes "{") ▸ some_with_commas ts (map (name ts) k.props) ▸ sign ts (codes "}")) ▸ sign ts (codes ";"))

abbrev pub declaration : List Lexeme → Declaration → Piece
declaration ts (declarations.Key k) = key ts k
declaration ts (declarations.Relation r) = relation ts r
declaration ts (declarations.Query q) = query ts q

-- `name : metamodel`
unfoldable pub model : List Lexeme → ModelTree → Piece
model ts m = name ts m.name ▸ sign ts (codes ":") ▸ name ts m.meta

unfoldable pub script : List Lexeme → Script → Piece
script ts s = spanned ts s.span (word ts (codes "transformation") ▸ name ts s.name
    ▸ nested (sign ts (codes "(") ▸ some_with_commas ts (map (model ts) s.models) ▸ sign ts (codes ")"))
    ▸ nested (sign ts (codes "{") ▸ each (map (declaration ts) s.declarations) ▸ sign ts (codes "}")))

-- the tokens are this script, which nests to at most so many levels
abbrev pub IsScriptWithin : List Lexeme → ℕ → Script → Type 0
IsScriptWithin ts levels s = script ts s levels 0 ≡ Some (length ts)

-- the tokens are this script
abbrev pub IsScript : List Lexeme → Script → Type 0
IsScript ts s = IsScriptWithin ts MAX_NESTING s
