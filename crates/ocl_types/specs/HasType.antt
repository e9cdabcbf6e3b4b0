-- Which expression has which type, and which faults stand in it (OCL 2.4, chapters 9 and 11): one clause for each form of the
-- grammar, by the rules of its parts. Nothing is said of an order in which parts are looked at.
use Rattle.std.specs.Prelude.{◌≡◌, ℕ, Bool, true, false, ◌&&◌, List, [], ◌∷◌, Option, None, Some, length}
use Rattle.qv_syntax.specs.declared.name.Path.{Path}
use Rattle.qv_syntax.specs.declared.operator.Operator.{Operator}
use Rattle.qv_syntax.specs.declared.ty.Ty.TheVariants as types
use Rattle.qv_syntax.specs.declared.expr.Expr.{Expr, rec-Expr}
use Rattle.qv_syntax.specs.declared.expr.Infix.{Infix, rec-Infix}
use Rattle.qv_syntax.specs.declared.expr.Postfix.{Postfix, rec-Postfix}
use Rattle.qv_syntax.specs.declared.expr.Args.{Args, rec-Args}
use Rattle.qv_syntax.specs.declared.expr.Args.TheOpen as of
use Rattle.qv_syntax.specs.declared.typed.Typed.{Typed}
use Rattle.qv_syntax.specs.declared.typed.Node.TheVariants as nodes
use Rattle.ocl_environments.specs.declared.fault.TypeFault.{TypeFault}
use Rattle.ocl_environments.specs.declared.fault.TypeFault.TheVariants.{UnknownName}
use Rattle.ocl_environments.specs.declared.part.TypedPart.{TypedPart}
use Rattle.ocl_environments.specs.declared.part.CallsSoFar.{CallsSoFar}
use Rattle.ocl_environments.specs.declared.part.Chained.{Chained}
use Rattle.ocl_environments.specs.Environments.{Environment, with_variable}
use Rattle.ocl_environments.specs.Parts.{tree_of, plain_part, uncalled}
use Rattle.ocl_types.specs.TypingScopes.{let_part}
use Rattle.ocl_types.specs.TypingOperators.{unchained, chain_part}
use Rattle.ocl_types.specs.Typing.{short_path, path_of_extent, is_all_instances, called_whole}
use Rattle.ocl_environments.specs.Naming.{texts_of}
use Rattle.ocl_types.specs.Judged.{Judged, gives, refuses, taking, both}
use Rattle.ocl_types.specs.TypeRules.{names_judged, linked_judged, not_judged, negated_judged, if_judged, collection_judged, let_judged, bound_judged, query_judged, extent_judged, property_judged, operation_judged, class_operation_judged, collection_operation_judged, iterator_variable_judged, iterator_judged}

-- of an expression: the path, if it is one or two names, and what it is in an environment
pub record Judgment : Type 1 where
  pub path : Option Path
  pub part : Environment → Judged TypedPart

-- of an operator and the part behind it
pub record LinkJudgment : Type 1 where
  pub operator : Operator
  pub right : Environment → Judged TypedPart

-- of a call: whether it is `.allInstances()`, and what is called with it, behind what was called before
pub record CallJudgment : Type 1 where
  pub is_extent : Bool
  pub after : Environment → CallsSoFar → Judged CallsSoFar

-- of what stands between parentheses: the class, if it is one, or the expressions
pub record ArgsJudgment : Type 1 where
  pub class : Option Path
  pub is_empty : Bool
  pub parts : Environment → Judged (List TypedPart)

-- ---- lists

-- each of the parts
unfoldable pub each : {X : Type 0} → (X → Judgment) → Environment → List X → Judged (List TypedPart)
each expr env [] = gives []
each expr env (x ∷ xs) = taking (both ((expr x).part env) (each expr env xs)) (λ p. gives (p.0 ∷ p.1))

-- the operators and the parts behind them, from left to right: what stands before an operator is its left side
unfoldable pub linked : {X : Type 0} → (X → LinkJudgment) → Environment → Judged (TypedPart × Chained) → List X → Judged (TypedPart × Chained)
linked link env before [] = before
linked link env before (l ∷ ls) =
    linked link env (taking (both before ((link l).right env)) (λ p. taking (linked_judged env.metas p.0.1 (link l).operator p.1) (λ c. gives (p.0.0, c)))) ls

-- the calls, each behind what was called before
unfoldable pub called : {X : Type 0} → (X → CallJudgment) → Environment → CallsSoFar → List X → Judged CallsSoFar
called call env c [] = gives c
called call env c (k ∷ ks) = taking ((call k).after env c) (λ next. called call env next ks)

-- a part with what is called on it; with nothing it stays what it is
abbrev pub called_part_judged : {X : Type 0} → (X → CallJudgment) → Environment → TypedPart → List X → Judged TypedPart
called_part_judged call env p [] = gives p
called_part_judged call env p (k ∷ ks) = taking (called call env (uncalled p) (k ∷ ks)) (λ c. gives (called_whole p c))

abbrev pub first_judged : {X : Type 0} → (X → CallJudgment) → Environment → Judged TypedPart → X → List X → Option Path → Judged TypedPart
first_judged call env part k ks (Some path) = taking (extent_judged env path) (λ p. called_part_judged call env p ks)
first_judged call env part k ks None = taking part (λ p. called_part_judged call env p (k ∷ ks))

-- calls behind a part; one or two names with `.allInstances()` behind them are an extent
abbrev pub calls_judged : {X : Type 0} → (X → CallJudgment) → Environment → Judgment → List X → Judged TypedPart
calls_judged call env part [] = part.part env
calls_judged call env part (k ∷ ks) = first_judged call env (part.part env) k ks (path_of_extent part.path (call k).is_extent)

-- ---- what stands between parentheses

-- expressions; a class has no place here
abbrev pub query_args : Environment → List ℕ → ArgsJudgment → Option Path → Judged TypedPart
query_args env name args None = taking (args.parts env) (query_judged env name)
query_args env name args (Some path) = refuses (UnknownName name)

-- expressions, or the class of a type test or a cast
abbrev pub dot_args : Environment → List ℕ → CallsSoFar → ArgsJudgment → Option Path → Judged CallsSoFar
dot_args env name c args None = taking (args.parts env) (operation_judged env.metas name c)
dot_args env name c args (Some path) = class_operation_judged env name path c

-- expressions; type tests and casts stand behind a dot alone
abbrev pub arrow_args : Environment → List ℕ → CallsSoFar → ArgsJudgment → Option Path → Judged CallsSoFar
arrow_args env name c args None = taking (args.parts env) (collection_operation_judged env.metas name c)
arrow_args env name c args (Some path) = refuses (UnknownName name)

-- ---- the forms

abbrev no_path : (Environment → Judged TypedPart) → Judgment
no_path part = record { path = None; part = part }

abbrev pub expr_rule : {X X' X'' X3 : Type 0} → (X → ArgsJudgment) → (X' → Judgment) → (X'' → CallJudgment) → (X3 → LinkJudgment) → of.Expr-F X X' X'' X3 → Judgment
expr_rule args expr call link (of.Let n ty value body span) = no_path (λ env.
    taking (both (let_judged env n.text ty) ((expr value).part env)) (λ v.
    taking (bound_judged env.metas v.0 v.1) (λ variable.
    taking ((expr body).part (with_variable env n.text variable)) (λ b.
    gives (let_part (length env.variables) v.1 b)))))
expr_rule args expr call link (of.Chain first rest span) = no_path (λ env.
    taking (linked link env (taking ((expr first).part env) (λ p. gives (p, unchained p))) rest) (λ c. gives (chain_part c.0 c.1)))
expr_rule args expr call link (of.Not operand span) = no_path (λ env. taking ((expr operand).part env) (not_judged env.metas))
expr_rule args expr call link (of.Negated operand span) = no_path (λ env. taking ((expr operand).part env) (negated_judged env.metas))
expr_rule args expr call link (of.Calls part calls span) = no_path (λ env. calls_judged call env (expr part) calls)
expr_rule args expr call link (of.Number value span) = no_path (λ env. gives (plain_part types.Int (nodes.Number value)))
expr_rule args expr call link (of.Str value span) = no_path (λ env. gives (plain_part types.Str (nodes.Str value)))
expr_rule args expr call link (of.Bool value span) = no_path (λ env. gives (plain_part types.Bool (nodes.Bool value)))
expr_rule args expr call link (of.Null span) = no_path (λ env. gives (plain_part types.Null nodes.Null))
expr_rule args expr call link (of.Invalid span) = no_path (λ env. gives (plain_part types.Null nodes.Invalid))
expr_rule args expr call link (of.Parens inner span) = no_path (expr inner).part
expr_rule args expr call link (of.If condition one other span) = no_path (λ env.
    taking (both ((expr condition).part env) (both ((expr one).part env) ((expr other).part env))) (λ p. if_judged env.metas p.0 p.1.0 p.1.1))
expr_rule args expr call link (of.Coll kind elements span) = no_path (λ env. taking (each expr env elements) (collection_judged env.metas kind))
expr_rule args expr call link (of.Call n given span) = no_path (λ env. query_args env n.text (args given) (args given).class)
expr_rule args expr call link (of.Named path) = record { path = short_path path (texts_of path.names); part = λ env. names_judged env (texts_of path.names) }

abbrev pub link_rule_of : {X X' X'' X3 : Type 0} → (X → ArgsJudgment) → (X' → Judgment) → (X'' → CallJudgment) → (X3 → LinkJudgment) → of.Infix-F X X' X'' X3 → LinkJudgment
link_rule_of args expr call link l = record { operator = l.operator; right = (expr l.right).part }

abbrev pub call_rule : {X X' X'' X3 : Type 0} → (X → ArgsJudgment) → (X' → Judgment) → (X'' → CallJudgment) → (X3 → LinkJudgment) → of.Postfix-F X X' X'' X3 → CallJudgment
call_rule args expr call link (of.Property n) = record { is_extent = false; after = λ env c. property_judged env.metas n.text c }
call_rule args expr call link (of.Dot n given span) = record {
  is_extent = is_all_instances n.text && (args given).is_empty;
  after = λ env c. dot_args env n.text c (args given) (args given).class;
}
call_rule args expr call link (of.Arrow n given span) = record { is_extent = false; after = λ env c. arrow_args env n.text c (args given) (args given).class }
call_rule args expr call link (of.Iterator n variable ty body span) = record {
  is_extent = false;
  after = λ env c.
      taking (iterator_variable_judged env variable.text ty c) (λ v.
      taking ((expr body).part (with_variable env variable.text v)) (λ b.
      iterator_judged env.metas n.text (length env.variables) c b));
}

abbrev pub is_nothing : {X : Type 0} → List X → Bool
is_nothing [] = true
is_nothing (x ∷ xs) = false

abbrev pub args_rule : {X X' X'' X3 : Type 0} → (X → ArgsJudgment) → (X' → Judgment) → (X'' → CallJudgment) → (X3 → LinkJudgment) → of.Args-F X X' X'' X3 → ArgsJudgment
args_rule args expr call link (of.Values values) = record { class = None; is_empty = is_nothing values; parts = λ env. each expr env values }
args_rule args expr call link (of.Class path) = record { class = Some path; is_empty = false; parts = λ env. gives [] }

-- ---- what is said of expressions

abbrev pub judgment : Expr → Judgment
judgment = rec-Expr ArgsJudgment Judgment CallJudgment LinkJudgment
    (λ X X' X'' X3 a e s l args expr call link layer. args_rule args expr call link layer)
    (λ X X' X'' X3 a e s l args expr call link layer. expr_rule args expr call link layer)
    (λ X X' X'' X3 a e s l args expr call link layer. call_rule args expr call link layer)
    (λ X X' X'' X3 a e s l args expr call link layer. link_rule_of args expr call link layer)

abbrev pub link_judgment : Infix → LinkJudgment
link_judgment = rec-Infix ArgsJudgment Judgment CallJudgment LinkJudgment
    (λ X X' X'' X3 a e s l args expr call link layer. args_rule args expr call link layer)
    (λ X X' X'' X3 a e s l args expr call link layer. expr_rule args expr call link layer)
    (λ X X' X'' X3 a e s l args expr call link layer. call_rule args expr call link layer)
    (λ X X' X'' X3 a e s l args expr call link layer. link_rule_of args expr call link layer)

abbrev pub call_judgment : Postfix → CallJudgment
call_judgment = rec-Postfix ArgsJudgment Judgment CallJudgment LinkJudgment
    (λ X X' X'' X3 a e s l args expr call link layer. args_rule args expr call link layer)
    (λ X X' X'' X3 a e s l args expr call link layer. expr_rule args expr call link layer)
    (λ X X' X'' X3 a e s l args expr call link layer. call_rule args expr call link layer)
    (λ X X' X'' X3 a e s l args expr call link layer. link_rule_of args expr call link layer)

abbrev pub args_judgment : Args → ArgsJudgment
args_judgment = rec-Args ArgsJudgment Judgment CallJudgment LinkJudgment
    (λ X X' X'' X3 a e s l args expr call link layer. args_rule args expr call link layer)
    (λ X X' X'' X3 a e s l args expr call link layer. expr_rule args expr call link layer)
    (λ X X' X'' X3 a e s l args expr call link layer. call_rule args expr call link layer)
    (λ X X' X'' X3 a e s l args expr call link layer. link_rule_of args expr call link layer)

-- an expression is this part of others: its type, the model of its objects, and its tree
unfoldable pub HasType : Environment → Expr → TypedPart → Type 0
HasType env e p = ((judgment e).part env).has p

-- this is the typed tree of an expression
abbrev pub HasTree : Environment → Expr → Typed → Type 0
HasTree env e t = (p : TypedPart) × HasType env e p × (t ≡ tree_of p)

-- a fault stands in an expression
unfoldable pub Stands : Environment → Expr → TypeFault → Type 0
Stands env e f = ((judgment e).part env).stands f
