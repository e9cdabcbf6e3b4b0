-- The tree of an expression is typed: each node has the type that it should have, and each number names what is there. By induction on
-- the expression.
use Rattle.std.proofs.Common.{ℕ, List, [], ◌∷◌, Option, None, Some, map, sym, subst}
use Rattle.std.specs.Prelude.{IsTrue}
use Rattle.qv_syntax.specs.declared.name.Path.{Path}
use Rattle.qv_syntax.specs.declared.expr.Expr.{Expr, roll-Expr, map-Expr, ind-Expr}
use Rattle.qv_syntax.specs.declared.expr.Infix.{Infix, roll-Infix, map-Infix}
use Rattle.qv_syntax.specs.declared.expr.Postfix.{Postfix, roll-Postfix, map-Postfix, ind-Postfix}
use Rattle.qv_syntax.specs.declared.expr.Args.{Args, roll-Args, map-Args, ind-Args}
use Rattle.qv_syntax.specs.declared.expr.Args.TheOpen as of
use Rattle.qv_syntax.specs.TypedTrees.{Typing}
use Rattle.ocl_environments.specs.declared.part.TypedPart.{TypedPart}
use Rattle.ocl_environments.specs.declared.part.CallsSoFar.{CallsSoFar}
use Rattle.ocl_environments.specs.declared.part.Chained.{Chained}
use Rattle.ocl_environments.specs.Environments.{Environment, IsInOrder, is_over}
use Rattle.ocl_environments.specs.Naming.{texts_of}
use Rattle.ocl_environments.specs.Parts.{uncalled}
use Rattle.ocl_types.specs.TypingOperators.{unchained}
use Rattle.ocl_types.specs.Typing.{path_of_extent}
use Rattle.ocl_types.specs.Judged.{Judged, gives, taking, both}
use Rattle.ocl_types.specs.TypeRules.{linked_judged}
use Rattle.ocl_types.specs.HasType.{Judgment, LinkJudgment, CallJudgment, ArgsJudgment, each, linked, called, called_part_judged, first_judged, calls_judged, query_args, dot_args, arrow_args, expr_rule, link_rule_of, call_rule, args_rule, judgment, link_judgment, call_judgment, args_judgment, HasType}
use Rattle.ocl_types.specs.TypedContext.{typing_of, GivesTypedTree}
use Rattle.ocl_types.proofs.JudgmentLaws.{expr_unrolled, link_unrolled, call_unrolled, args_unrolled}
use Rattle.ocl_types.proofs.TypedParts.{IsReady, IsPart, AreParts, IsCalledOn, IsLinkedTo, part_over, ready, ready_with, number_part, string_part, boolean_part, null_part, invalid_part, names_typed}
use Rattle.ocl_types.proofs.TypedForms.{no_parts, part_more, unlinked, linked_typed, chain_typed, not_typed, negated_typed, if_typed, collection_typed, bound_kept, bound_over, let_typed, query_typed, extent_typed}
use Rattle.ocl_types.proofs.TypedCalls.{uncalled_typed, whole_typed, property_typed, operation_typed, class_operation_typed, collection_operation_typed, iterator_variable_kept, iterator_variable_over, iterator_typed}

-- ---- what is shown of each kind of tree

-- in each environment that is ready, what is judged is a typed part
unfoldable pub GivesParts : (Environment → Judged TypedPart) → Type 0
GivesParts part = (env : Environment) → IsReady env → (p : TypedPart) → (part env).has p → IsPart env p

unfoldable pub GivesCalls : (Environment → CallsSoFar → Judged CallsSoFar) → Type 0
GivesCalls after = (env : Environment) → IsReady env → (first : Typing) (c d : CallsSoFar) → IsCalledOn env first c → (after env c).has d → IsCalledOn env first d

unfoldable pub GivesLists : (Environment → Judged (List TypedPart)) → Type 0
GivesLists parts = (env : Environment) → IsReady env → (ps : List TypedPart) → (parts env).has ps → AreParts env ps

pub TypedExpr : Expr → Type 0
TypedExpr e = GivesParts (judgment e).part

pub TypedLink : Infix → Type 0
TypedLink l = GivesParts (link_judgment l).right

pub TypedCall : Postfix → Type 0
TypedCall k = GivesCalls (call_judgment k).after

pub TypedArgs : Args → Type 0
TypedArgs a = GivesLists (args_judgment a).parts

abbrev HeldArgs : Type 0
HeldArgs = (a : Args) × TypedArgs a

abbrev HeldExpr : Type 0
HeldExpr = (e : Expr) × TypedExpr e

abbrev HeldCall : Type 0
HeldCall = (k : Postfix) × TypedCall k

abbrev HeldLink : Type 0
HeldLink = (l : Infix) × TypedLink l

-- ---- lists

module _ (env : Environment) (ready : IsReady env) where
  each_typed : (vs : List HeldExpr) (ps : List TypedPart) → (each judgment env (map (λ v. v.0) vs)).has ps → AreParts env ps
  unfolding each TypedExpr GivesParts
  each_typed [] ps is = subst (AreParts env) (sym is) (no_parts env)
  each_typed (v ∷ vs) ps is =
      subst (AreParts env) (sym is.2) (part_more env is.0.0 is.0.1 (v.1 env ready is.0.0 is.1.0) (each_typed vs is.0.1 is.1.1))

  abbrev pub State : Type 0
  State = TypedPart × Chained

  abbrev pub IsState : State → Type 0
  IsState s = IsPart env s.0 × IsLinkedTo env s.0.ty s.1

  -- one operator and the part behind it more
  pub state_more : (l : LinkJudgment) → GivesParts l.right → (before : Judged State) → ((s : State) → before.has s → IsState s)
      → (s : State) → (taking {Y = State} (both before (l.right env)) (λ p. taking (linked_judged env.metas p.0.1 l.operator p.1) (λ c. gives (p.0.0, c)))).has s → IsState s
  unfolding GivesParts
  state_more l typed before holds s h =
      let part = holds h.0.0 h.1.0 in
      subst IsState (sym h.2.2) (part.0, linked_typed env ready h.0.0.0.ty h.0.0.1 h.2.0 l.operator h.0.1 part.1 (typed env ready h.0.1 h.1.1) h.2.1)

  -- nothing but the first part
  pub state_begun : (first : Environment → Judged TypedPart) → GivesParts first → (s : State) → (taking {Y = State} (first env) (λ p. gives (p, unchained p))).has s → IsState s
  unfolding GivesParts
  state_begun first typed s h = let part = typed env ready h.0 h.1 in subst IsState (sym h.2) (part, unlinked env ready h.0 part)

  links_typed : (vs : List HeldLink) (before : Judged State) → ((s : State) → before.has s → IsState s) → (s : State) → (linked link_judgment env before (map (λ v. v.0) vs)).has s → IsState s
  unfolding linked TypedLink
  links_typed [] before holds s is = holds s is
  links_typed (v ∷ vs) before holds s is =
      let l : LinkJudgment = link_judgment v.0 in
      links_typed vs (taking {Y = State} (both before (l.right env)) (λ p. taking (linked_judged env.metas p.0.1 l.operator p.1) (λ c. gives (p.0.0, c)))) (state_more l v.1 before holds) s is

  calls_typed : (vs : List HeldCall) (first : Typing) (c d : CallsSoFar) → IsCalledOn env first c → (called call_judgment env c (map (λ v. v.0) vs)).has d → IsCalledOn env first d
  unfolding called TypedCall GivesCalls
  calls_typed [] first c d on is = subst (IsCalledOn env first) (sym is) on
  calls_typed (v ∷ vs) first c d on is = calls_typed vs first is.0 d (v.1 env ready first c is.0 on is.1) is.2

  called_part_typed : (vs : List HeldCall) (p q : TypedPart) → IsPart env p → (called_part_judged call_judgment env p (map (λ v. v.0) vs)).has q → IsPart env q
  called_part_typed [] p q part is = subst (IsPart env) (sym is) part
  called_part_typed (v ∷ vs) p q part is =
      subst (IsPart env) (sym is.2) (whole_typed env p is.0 part (calls_typed (v ∷ vs) (typing_of p) (uncalled p) is.0 (uncalled_typed env ready p part) is.1))

  first_typed : (part : Judged TypedPart) → ((p : TypedPart) → part.has p → IsPart env p) → (v : HeldCall) (vs : List HeldCall) (o : Option Path) (q : TypedPart)
      → (first_judged call_judgment env part v.0 (map (λ v. v.0) vs) o).has q → IsPart env q
  first_typed part holds v vs (Some path) q is = called_part_typed vs is.0 q (extent_typed env path is.0 is.1) is.2
  first_typed part holds v vs None q is = called_part_typed (v ∷ vs) is.0 q (holds is.0 is.1) is.2

  behind_typed : (j : Judgment) → ((p : TypedPart) → (j.part env).has p → IsPart env p) → (vs : List HeldCall) (q : TypedPart)
      → (calls_judged call_judgment env j (map (λ v. v.0) vs)).has q → IsPart env q
  behind_typed j holds [] q is = holds q is
  behind_typed j holds (v ∷ vs) q is = first_typed (j.part env) holds v vs (path_of_extent j.path (call_judgment v.0).is_extent) q is

  -- ---- what stands between parentheses

  query_args_typed : (name : List ℕ) (a : ArgsJudgment) → ((ps : List TypedPart) → (a.parts env).has ps → AreParts env ps) → (o : Option Path) (q : TypedPart)
      → (query_args env name a o).has q → IsPart env q
  query_args_typed name a holds None q is = query_typed env name is.0 q (holds is.0 is.1) is.2
  query_args_typed name a holds (Some path) q is = absurd is

  dot_args_typed : (name : List ℕ) (a : ArgsJudgment) → ((ps : List TypedPart) → (a.parts env).has ps → AreParts env ps) → (o : Option Path) (first : Typing) (c d : CallsSoFar)
      → IsCalledOn env first c → (dot_args env name c a o).has d → IsCalledOn env first d
  dot_args_typed name a holds None first c d on is = operation_typed env ready name first c d is.0 on (holds is.0 is.1) is.2
  dot_args_typed name a holds (Some path) first c d on is = class_operation_typed env ready name path first c d on is

  arrow_args_typed : (name : List ℕ) (a : ArgsJudgment) → ((ps : List TypedPart) → (a.parts env).has ps → AreParts env ps) → (o : Option Path) (first : Typing) (c d : CallsSoFar)
      → IsCalledOn env first c → (arrow_args env name c a o).has d → IsCalledOn env first d
  arrow_args_typed name a holds None first c d on is = collection_operation_typed env ready name first c d is.0 on (holds is.0 is.1) is.2
  arrow_args_typed name a holds (Some path) first c d on is = absurd is

-- ---- one layer of each kind of tree

trees_of_expr : of.Expr-F HeldArgs HeldExpr HeldCall HeldLink → of.Expr-F Args Expr Postfix Infix
trees_of_expr y = map-Expr HeldArgs HeldExpr HeldCall HeldLink Args Expr Postfix Infix (λ e. e.0) (λ e. e.0) (λ e. e.0) (λ e. e.0) y

expr_held : (d : of.Expr-F Args Expr Postfix Infix) → GivesParts (expr_rule args_judgment judgment call_judgment link_judgment d).part → TypedExpr (roll-Expr d)
unfolding TypedExpr
expr_held d holds = subst (λ (j : Judgment). GivesParts j.part) (sym (expr_unrolled d)) holds

link_held : (d : of.Infix-F Args Expr Postfix Infix) → GivesParts (link_rule_of args_judgment judgment call_judgment link_judgment d).right → TypedLink (roll-Infix d)
unfolding TypedLink
link_held d holds = subst (λ (j : LinkJudgment). GivesParts j.right) (sym (link_unrolled d)) holds

call_held : (d : of.Postfix-F Args Expr Postfix Infix) → GivesCalls (call_rule args_judgment judgment call_judgment link_judgment d).after → TypedCall (roll-Postfix d)
unfolding TypedCall
call_held d holds = subst (λ (j : CallJudgment). GivesCalls j.after) (sym (call_unrolled d)) holds

args_held : (d : of.Args-F Args Expr Postfix Infix) → GivesLists (args_rule args_judgment judgment call_judgment link_judgment d).parts → TypedArgs (roll-Args d)
unfolding TypedArgs
args_held d holds = subst (λ (j : ArgsJudgment). GivesLists j.parts) (sym (args_unrolled d)) holds

args_layer : (y : of.Args-F HeldArgs HeldExpr HeldCall HeldLink)
    → TypedArgs (roll-Args (map-Args HeldArgs HeldExpr HeldCall HeldLink Args Expr Postfix Infix (λ e. e.0) (λ e. e.0) (λ e. e.0) (λ e. e.0) y))
unfolding GivesLists
args_layer (of.Values vs) = args_held (of.Values (map (λ v. v.0) vs)) (λ env is ps h. each_typed env is vs ps h)
args_layer (of.Class path) = args_held (of.Class path) (λ env is ps h. subst (AreParts env) (sym h) (no_parts env))

call_layer : (y : of.Postfix-F HeldArgs HeldExpr HeldCall HeldLink)
    → TypedCall (roll-Postfix (map-Postfix HeldArgs HeldExpr HeldCall HeldLink Args Expr Postfix Infix (λ e. e.0) (λ e. e.0) (λ e. e.0) (λ e. e.0) y))
unfolding GivesCalls GivesLists GivesParts TypedArgs TypedExpr
call_layer (of.Property n) = call_held (of.Property n) (λ env is first c d on h. property_typed env is n.text first c d on h)
call_layer (of.Dot n a span) = call_held (of.Dot n a.0 span)
    (λ env is first c d on h. dot_args_typed env is n.text (args_judgment a.0) (a.1 env is) (args_judgment a.0).class first c d on h)
call_layer (of.Arrow n a span) = call_held (of.Arrow n a.0 span)
    (λ env is first c d on h. arrow_args_typed env is n.text (args_judgment a.0) (a.1 env is) (args_judgment a.0).class first c d on h)
call_layer (of.Iterator n variable ty body span) = call_held (of.Iterator n variable ty body.0 span)
    (λ env is first c d on h.
    iterator_typed env is n.text variable.text ty first c d h.0 h.2.0 on h.1
    (body.1 _ (ready_with env variable.text h.0 is (iterator_variable_kept env is variable.text ty first c h.0 on h.1) (iterator_variable_over env is variable.text ty first c h.0 on h.1)) h.2.0 h.2.1) h.2.2)

link_layer : (y : of.Infix-F HeldArgs HeldExpr HeldCall HeldLink)
    → TypedLink (roll-Infix (map-Infix HeldArgs HeldExpr HeldCall HeldLink Args Expr Postfix Infix (λ e. e.0) (λ e. e.0) (λ e. e.0) (λ e. e.0) y))
unfolding TypedExpr
link_layer y = link_held (map-Infix HeldArgs HeldExpr HeldCall HeldLink Args Expr Postfix Infix (λ e. e.0) (λ e. e.0) (λ e. e.0) (λ e. e.0) y) y.right.1

expr_layer : (y : of.Expr-F HeldArgs HeldExpr HeldCall HeldLink) → TypedExpr (roll-Expr (trees_of_expr y))
unfolding trees_of_expr GivesParts GivesLists TypedArgs TypedExpr
expr_layer (of.Let n ty value body span) = expr_held (of.Let n ty value.0 body.0 span)
    (λ env is p h.
    let named = h.1.0 in
    let part = value.1 env is h.0.1 h.1.1 in
    let kept = bound_kept env h.0.0 h.0.1 h.2.0 part h.2.1 in
    let inside = body.1 _ (ready_with env n.text h.2.0 is kept (bound_over env n.text ty h.0.0 h.0.1 h.2.0 named h.2.1)) h.2.2.0 h.2.2.1 in
    subst (IsPart env) (sym h.2.2.2) (let_typed env n.text ty h.0.0 h.0.1 h.2.2.0 h.2.0 named part h.2.1 inside))
expr_layer (of.Chain first rest span) = expr_held (of.Chain first.0 (map (λ v. v.0) rest) span)
    (λ env is p h.
    let s = links_typed env is rest (taking ((judgment first.0).part env) (λ p. gives (p, unchained p))) (state_begun env is (judgment first.0).part first.1) h.0 h.1 in
    subst (IsPart env) (sym h.2) (chain_typed env h.0.0 h.0.1 s.0 s.1))
expr_layer (of.Not operand span) = expr_held (of.Not operand.0 span) (λ env is p h. not_typed env h.0 p (operand.1 env is h.0 h.1) h.2)
expr_layer (of.Negated operand span) = expr_held (of.Negated operand.0 span) (λ env is p h. negated_typed env h.0 p (operand.1 env is h.0 h.1) h.2)
expr_layer (of.Calls part rest span) = expr_held (of.Calls part.0 (map (λ v. v.0) rest) span) (λ env is p h. behind_typed env is (judgment part.0) (part.1 env is) rest p h)
expr_layer (of.Number value span) = expr_held (of.Number value span) (λ env is p h. subst (IsPart env) (sym h) (number_part env value))
expr_layer (of.Str value span) = expr_held (of.Str value span) (λ env is p h. subst (IsPart env) (sym h) (string_part env value))
expr_layer (of.Bool value span) = expr_held (of.Bool value span) (λ env is p h. subst (IsPart env) (sym h) (boolean_part env value))
expr_layer (of.Null span) = expr_held (of.Null span) (λ env is p h. subst (IsPart env) (sym h) (null_part env))
expr_layer (of.Invalid span) = expr_held (of.Invalid span) (λ env is p h. subst (IsPart env) (sym h) (invalid_part env))
expr_layer (of.Parens inner span) = expr_held (of.Parens inner.0 span) inner.1
expr_layer (of.If condition one other span) = expr_held (of.If condition.0 one.0 other.0 span)
    (λ env is p h. if_typed env is h.0.0 h.0.1.0 h.0.1.1 p (condition.1 env is h.0.0 h.1.0) (one.1 env is h.0.1.0 h.1.1.0) (other.1 env is h.0.1.1 h.1.1.1) h.2)
expr_layer (of.Coll kind elements span) = expr_held (of.Coll kind (map (λ v. v.0) elements) span)
    (λ env is p h. collection_typed env is kind h.0 p (each_typed env is elements h.0 h.1) h.2)
expr_layer (of.Call n a span) = expr_held (of.Call n a.0 span) (λ env is p h. query_args_typed env is n.text (args_judgment a.0) (a.1 env is) (args_judgment a.0).class p h)
expr_layer (of.Named path) = expr_held (of.Named path) (λ env is p h. names_typed env is (texts_of path.names) p h)

-- each expression, what stands between parentheses, and each call
pub all_typed : (e : Expr) → TypedExpr e
unfolding trees_of_expr
all_typed = ind-Expr TypedArgs TypedExpr TypedCall TypedLink
    (λ x y is. subst (λ d. TypedArgs (roll-Args d)) is (args_layer y))
    (λ x y is. subst (λ d. TypedExpr (roll-Expr d)) is (expr_layer y))
    (λ x y is. subst (λ d. TypedCall (roll-Postfix d)) is (call_layer y))
    (λ x y is. subst (λ d. TypedLink (roll-Infix d)) is (link_layer y))

pub all_args : (a : Args) → TypedArgs a
unfolding trees_of_expr
all_args = ind-Args TypedArgs TypedExpr TypedCall TypedLink
    (λ x y is. subst (λ d. TypedArgs (roll-Args d)) is (args_layer y))
    (λ x y is. subst (λ d. TypedExpr (roll-Expr d)) is (expr_layer y))
    (λ x y is. subst (λ d. TypedCall (roll-Postfix d)) is (call_layer y))
    (λ x y is. subst (λ d. TypedLink (roll-Infix d)) is (link_layer y))

pub all_calls : (k : Postfix) → TypedCall k
unfolding trees_of_expr
all_calls = ind-Postfix TypedArgs TypedExpr TypedCall TypedLink
    (λ x y is. subst (λ d. TypedArgs (roll-Args d)) is (args_layer y))
    (λ x y is. subst (λ d. TypedExpr (roll-Expr d)) is (expr_layer y))
    (λ x y is. subst (λ d. TypedCall (roll-Postfix d)) is (call_layer y))
    (λ x y is. subst (λ d. TypedLink (roll-Infix d)) is (link_layer y))

-- each of several expressions
pub each_parts : (env : Environment) (is : IsReady env) (es : List Expr) (ps : List TypedPart) → (each judgment env es).has ps → AreParts env ps
unfolding each TypedExpr GivesParts
each_parts env is [] ps h = subst (AreParts env) (sym h) (no_parts env)
each_parts env is (e ∷ es) ps h = subst (AreParts env) (sym h.2) (part_more env h.0.0 h.0.1 (all_typed e env is h.0.0 h.1.0) (each_parts env is es h.0.1 h.1.1))

-- what is judged of one layer
pub expr_rule_typed : (d : of.Expr-F Args Expr Postfix Infix) → GivesParts (expr_rule args_judgment judgment call_judgment link_judgment d).part
unfolding TypedExpr
expr_rule_typed d = subst (λ (j : Judgment). GivesParts j.part) (expr_unrolled d) (all_typed (roll-Expr d))

pub call_rule_typed : (d : of.Postfix-F Args Expr Postfix Infix) → GivesCalls (call_rule args_judgment judgment call_judgment link_judgment d).after
unfolding TypedCall
call_rule_typed d = subst (λ (j : CallJudgment). GivesCalls j.after) (call_unrolled d) (all_calls (roll-Postfix d))

pub args_rule_typed : (d : of.Args-F Args Expr Postfix Infix) → GivesLists (args_rule args_judgment judgment call_judgment link_judgment d).parts
unfolding TypedArgs
args_rule_typed d = subst (λ (j : ArgsJudgment). GivesLists j.parts) (args_unrolled d) (all_args (roll-Args d))

-- ---- the law

-- what an expression is in an environment in order has a typed tree
pub tree_typed : (env : Environment) → IsInOrder env → (e : Expr) (p : TypedPart) → GivesTypedTree env e p
unfolding TypedExpr GivesParts HasType
tree_typed env order e p has = (all_typed e env (ready env order) p has).typed

-- what an expression is, is a typed part
pub tree_part : (env : Environment) → IsReady env → (e : Expr) (p : TypedPart) → ((judgment e).part env).has p → IsPart env p
unfolding TypedExpr GivesParts
tree_part env ready e p has = all_typed e env ready p has

-- its type is one of the metamodels
pub tree_over : (env : Environment) → IsReady env → (e : Expr) (p : TypedPart) → ((judgment e).part env).has p → IsTrue (is_over env.metas p.ty)
tree_over env ready e p has = part_over env ready p (tree_part env ready e p has)

-- and its type is one of the metamodels
pub type_within : (env : Environment) → IsInOrder env → (e : Expr) (p : TypedPart) → HasType env e p → IsTrue (is_over env.metas p.ty)
unfolding HasType
type_within env order e p has = tree_over env (ready env order) e p has
