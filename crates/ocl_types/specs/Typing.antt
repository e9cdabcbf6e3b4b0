-- The typing of expressions (OCL 2.4, chapters 9 and 11): a tree with types, or the first fault in the order of evaluation. Parts
-- come from left to right and before what the whole asks; one clause for each form of the grammar.
use Rattle.std.specs.Prelude.{ℕ, Bool, true, false, ◌&&◌, List, [], ◌∷◌, ◌++◌, Option, None, Some, map, length, codes, encode_utf8_all, Ok, Err}
use Rattle.std.specs.Str.{bytes_eq}
use Rattle.qv_syntax.specs.declared.name.Path.{Path}
use Rattle.qv_syntax.specs.declared.operator.Operator.{Operator}
use Rattle.qv_syntax.specs.declared.ty.Ty.TheVariants as types
use Rattle.qv_syntax.specs.declared.type_tree.Kind.{Kind}
use Rattle.qv_syntax.specs.declared.type_tree.TypeTree.{TypeTree}
use Rattle.qv_syntax.specs.declared.expr.Expr.{Expr, fold-Expr}
use Rattle.qv_syntax.specs.declared.expr.Infix.{Infix, fold-Infix}
use Rattle.qv_syntax.specs.declared.expr.Postfix.{Postfix, fold-Postfix}
use Rattle.qv_syntax.specs.declared.expr.Args.{Args, fold-Args}
use Rattle.qv_syntax.specs.declared.expr.Args.TheOpen as of
use Rattle.qv_syntax.specs.declared.typed.Typed.{Typed}
use Rattle.qv_syntax.specs.declared.typed.Node.TheVariants as nodes
use Rattle.ocl_environments.specs.declared.fault.TypeFault.TheVariants.{UnknownName}
use Rattle.ocl_environments.specs.declared.part.TypedPart.{TypedPart}
use Rattle.ocl_environments.specs.declared.part.CallsSoFar.{CallsSoFar}
use Rattle.ocl_environments.specs.declared.part.Chained.{Chained}
use Rattle.ocl_environments.specs.Environments.{Environment, with_variable}
use Rattle.ocl_environments.specs.Outcomes.{RuleResult, and_then}
use Rattle.ocl_environments.specs.Parts.{tree_of, plain_part, uncalled}
use Rattle.ocl_types.specs.TypingScopes.{path_part, let_type, let_part}
use Rattle.ocl_environments.specs.Lets.{let_variable}
use Rattle.ocl_types.specs.TypingOperators.{unchained, link_rule, chain_part, not_rule, negated_rule, if_rule, literal_rule}
use Rattle.ocl_types.specs.TypingSteps.{property_rule, operation_rule, class_operation_rule, extent_rule, query_rule}
use Rattle.ocl_types.specs.TypingCollections.{collection_operation_rule, iterator_variable, iterator_rule}

-- ---- what the forms mean

-- the typing of a part in an environment
abbrev pub Typing : Type 0
Typing = Environment → RuleResult TypedPart

-- an expression: the path, if it is one or two names, and its typing
pub record Meaning : Type 0 where
  pub path : Option Path
  pub typing : Typing

-- an operator and the part behind it
pub record Operated : Type 0 where
  pub operator : Operator
  pub right : Typing

-- what is called on a part: whether it is `.allInstances()`, and its typing
pub record Calling : Type 0 where
  pub is_extent : Bool
  pub after : Environment → CallsSoFar → RuleResult CallsSoFar

-- what stands between parentheses: a class, or expressions
pub record Given : Type 0 where
  pub class : Option Path
  pub values : List Typing

-- the name of what gives an extent
unfoldable pub is_all_instances : List ℕ → Bool
is_all_instances name = bytes_eq (encode_utf8_all name) (codes "allInstances")

-- ---- lists, of what is typed so far

unfoldable pub parts_from : Environment → List TypedPart → List Typing → RuleResult (List TypedPart)
parts_from env parts [] = Ok parts
parts_from env parts (typing ∷ more) = and_then (typing env) (λ p. parts_from env (parts ++ p ∷ []) more)

unfoldable pub chained_from : Environment → Chained → List Operated → RuleResult Chained
chained_from env c [] = Ok c
chained_from env c (link ∷ links) = and_then (link.right env) (λ right. and_then (link_rule env.metas c link.operator right) (λ next. chained_from env next links))

unfoldable pub called_from : Environment → CallsSoFar → List Calling → RuleResult CallsSoFar
called_from env c [] = Ok c
called_from env c (call ∷ calls) = and_then (call.after env c) (λ next. called_from env next calls)

-- ---- forms of more than one part

abbrev pub let_typing : Environment → List ℕ → TypeTree → Typing → Typing → RuleResult TypedPart
let_typing env name tree value body =
    and_then (let_type env name tree) (λ ty.
    and_then (value env) (λ v.
    and_then (let_variable env.metas ty v) (λ variable.
    and_then (body (with_variable env name variable)) (λ b.
    Ok (let_part (length env.variables) v b)))))

-- the part with the operators behind it
unfoldable pub linked_part : Environment → TypedPart → List Operated → RuleResult TypedPart
linked_part env p rest = and_then (chained_from env (unchained p) rest) (λ c. Ok (chain_part p c))

abbrev pub chain_typing : Environment → Typing → List Operated → RuleResult TypedPart
chain_typing env first rest = and_then (first env) (λ p. linked_part env p rest)

abbrev pub if_typing : Environment → Typing → Typing → Typing → RuleResult TypedPart
if_typing env condition one other = and_then (condition env) (λ c. and_then (one env) (λ a. and_then (other env) (λ b. if_rule env.metas c a b)))

abbrev pub literal_typing : Environment → Kind → List Typing → RuleResult TypedPart
literal_typing env kind elements = and_then (parts_from env [] elements) (literal_rule env.metas kind)

abbrev pub query_by_class : Environment → List ℕ → List Typing → Option Path → RuleResult TypedPart
query_by_class env name values None = and_then (parts_from env [] values) (query_rule env name)
query_by_class env name values (Some path) = Err (UnknownName name)

-- a call of a query; none has a class as its argument
abbrev pub query_typing : Environment → List ℕ → Given → RuleResult TypedPart
query_typing env name args = query_by_class env name args.values args.class

-- the part and what was called on it
unfoldable pub called_whole : TypedPart → CallsSoFar → TypedPart
called_whole p c = record { ty = c.ty; model = c.model; node = nodes.Calls (tree_of p) c.calls }

-- the part with what is called on it; with nothing it stays what it is
unfoldable pub called_part : Environment → TypedPart → List Calling → RuleResult TypedPart
called_part env p [] = Ok p
called_part env p (call ∷ calls) =
    and_then (called_from env (uncalled p) (call ∷ calls)) (λ c. Ok (called_whole p c))

-- the extent of a path and what is called on it
abbrev pub extent_typing : Environment → Path → List Calling → RuleResult TypedPart
extent_typing env path calls = and_then (extent_rule env path) (λ p. called_part env p calls)

-- the path, if it is that of an extent
abbrev pub path_of_extent : Option Path → Bool → Option Path
path_of_extent path true = path
path_of_extent path false = None

abbrev pub first_called : Environment → Typing → Calling → List Calling → Option Path → RuleResult TypedPart
first_called env typing call calls (Some path) = extent_typing env path calls
first_called env typing call calls None = and_then (typing env) (λ p. called_part env p (call ∷ calls))

-- calls behind a part; one or two names with `.allInstances()` behind them are an extent
abbrev pub calls_typing : Environment → Meaning → List Calling → RuleResult TypedPart
calls_typing env part [] = part.typing env
calls_typing env part (call ∷ calls) = first_called env part.typing call calls (path_of_extent part.path call.is_extent)

-- ---- calls

abbrev pub dot_by : Environment → List ℕ → List Typing → CallsSoFar → Option Path → RuleResult CallsSoFar
dot_by env name values c None = and_then (parts_from env [] values) (operation_rule env.metas name c)
dot_by env name values c (Some path) = class_operation_rule env name path c

-- `.name(args)`
abbrev pub dot_typing : List ℕ → Given → Environment → CallsSoFar → RuleResult CallsSoFar
dot_typing name args env c = dot_by env name args.values c args.class

abbrev pub arrow_by : Environment → List ℕ → List Typing → CallsSoFar → Option Path → RuleResult CallsSoFar
arrow_by env name values c None = and_then (parts_from env [] values) (collection_operation_rule env.metas name c)
arrow_by env name values c (Some path) = Err (UnknownName name)

-- `->name(args)`; type tests and casts stand behind a dot alone
abbrev pub arrow_typing : List ℕ → Given → Environment → CallsSoFar → RuleResult CallsSoFar
arrow_typing name args env c = arrow_by env name args.values c args.class

-- `->name(variable : type | body)`
abbrev pub iterator_typing : List ℕ → List ℕ → Option TypeTree → Typing → Environment → CallsSoFar → RuleResult CallsSoFar
iterator_typing name variable tree body env c =
    and_then (iterator_variable env variable tree c) (λ v.
    and_then (body (with_variable env variable v)) (λ b.
    iterator_rule env.metas name (length env.variables) c b))

abbrev pub has_no_values : List Typing → Option Path → Bool
has_no_values [] None = true
has_no_values values class = false

-- ---- the fold

abbrev pub no_path : Typing → Meaning
no_path typing = record { path = None; typing = typing }

-- the path, if it is one or two names
abbrev pub short_path : Path → List (List ℕ) → Option Path
short_path path (a ∷ []) = Some path
short_path path (a ∷ b ∷ []) = Some path
short_path path names = None

abbrev pub expr_step : of.Expr-F Given Meaning Calling Operated → Meaning
expr_step (of.Let n ty value body span) = no_path (λ env. let_typing env n.text ty value.typing body.typing)
expr_step (of.Chain first rest span) = no_path (λ env. chain_typing env first.typing rest)
expr_step (of.Not operand span) = no_path (λ env. and_then (operand.typing env) (not_rule env.metas))
expr_step (of.Negated operand span) = no_path (λ env. and_then (operand.typing env) (negated_rule env.metas))
expr_step (of.Calls part calls span) = no_path (λ env. calls_typing env part calls)
expr_step (of.Number value span) = no_path (λ env. Ok (plain_part types.Int (nodes.Number value)))
expr_step (of.Str value span) = no_path (λ env. Ok (plain_part types.Str (nodes.Str value)))
expr_step (of.Bool value span) = no_path (λ env. Ok (plain_part types.Bool (nodes.Bool value)))
expr_step (of.Null span) = no_path (λ env. Ok (plain_part types.Null nodes.Null))
expr_step (of.Invalid span) = no_path (λ env. Ok (plain_part types.Null nodes.Invalid))
expr_step (of.Parens inner span) = no_path inner.typing
expr_step (of.If condition one other span) = no_path (λ env. if_typing env condition.typing one.typing other.typing)
expr_step (of.Coll kind elements span) = no_path (λ env. literal_typing env kind (map (λ e. e.typing) elements))
expr_step (of.Call n args span) = no_path (λ env. query_typing env n.text args)
expr_step (of.Named path) = record { path = short_path path (map (λ n. n.text) path.names); typing = λ env. path_part env path }

abbrev pub link_step : of.Infix-F Given Meaning Calling Operated → Operated
link_step l = record { operator = l.operator; right = l.right.typing }

abbrev pub step_step : of.Postfix-F Given Meaning Calling Operated → Calling
step_step (of.Property n) = record { is_extent = false; after = λ env c. property_rule env.metas n.text c }
step_step (of.Dot n args span) = record { is_extent = is_all_instances n.text && has_no_values args.values args.class; after = dot_typing n.text args }
step_step (of.Arrow n args span) = record { is_extent = false; after = arrow_typing n.text args }
step_step (of.Iterator n variable ty body span) = record { is_extent = false; after = iterator_typing n.text variable.text ty body.typing }

abbrev pub args_step : of.Args-F Given Meaning Calling Operated → Given
args_step (of.Values values) = record { class = None; values = map (λ e. e.typing) values }
args_step (of.Class path) = record { class = Some path; values = [] }

abbrev pub meaning : Expr → Meaning
meaning = fold-Expr Given Meaning Calling Operated args_step expr_step step_step link_step

abbrev pub operated_by : Infix → Operated
operated_by = fold-Infix Given Meaning Calling Operated args_step expr_step step_step link_step

abbrev pub calling : Postfix → Calling
calling = fold-Postfix Given Meaning Calling Operated args_step expr_step step_step link_step

abbrev pub given : Args → Given
given = fold-Args Given Meaning Calling Operated args_step expr_step step_step link_step

-- ---- typing

-- the part that an expression is, or its first fault
unfoldable pub part_of : Environment → Expr → RuleResult TypedPart
part_of env e = (meaning e).typing env

-- the typed tree of an expression, or its first fault
unfoldable pub typed : Environment → Expr → RuleResult Typed
typed env e = and_then (part_of env e) (λ p. Ok (tree_of p))
