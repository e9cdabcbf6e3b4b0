-- The typing of an expression decides what is judged of it, by induction on the expression.
use Rattle.std.proofs.Common.{◌≡◌, ℕ, ◌&&◌, List, [], ◌∷◌, ◌++◌, Option, None, Some, Ok, Err, map, length, refl, sym, ap, ◌∙◌, subst, append_assoc, append-nil}
use Rattle.qv_syntax.specs.declared.name.Name.{Name}
use Rattle.qv_syntax.specs.declared.name.Path.{Path}
use Rattle.qv_syntax.specs.declared.type_tree.TypeTree.{TypeTree}
use Rattle.qv_syntax.specs.declared.ty.Ty.{Ty}
use Rattle.qv_syntax.specs.declared.expr.Expr.{Expr, roll-Expr, map-Expr, fold-roll-Expr, ind-Expr}
use Rattle.qv_syntax.specs.declared.expr.Infix.{Infix, roll-Infix, map-Infix, fold-roll-Infix}
use Rattle.qv_syntax.specs.declared.expr.Postfix.{Postfix, roll-Postfix, map-Postfix, fold-roll-Postfix}
use Rattle.qv_syntax.specs.declared.expr.Args.{Args, roll-Args, map-Args, fold-roll-Args}
use Rattle.qv_syntax.specs.declared.expr.Args.TheOpen as of
use Rattle.ocl_environments.specs.declared.fault.TypeFault.{TypeFault}
use Rattle.ocl_environments.specs.declared.fault.TypeFault.TheVariants.{UnknownName}
use Rattle.qv_syntax.specs.declared.typed.Typed.{Typed}
use Rattle.ocl_environments.specs.declared.part.TypedPart.{TypedPart}
use Rattle.ocl_environments.specs.declared.part.CallsSoFar.{CallsSoFar}
use Rattle.ocl_environments.specs.declared.part.Chained.{Chained}
use Rattle.ocl_environments.specs.declared.variable.Variable.{Variable}
use Rattle.qv_syntax.specs.TypedTrees as trees
use Rattle.ocl_environments.specs.Environments.{Environment, IsInOrder, with_variable}
use Rattle.ocl_environments.specs.Outcomes.{RuleResult, and_then}
use Rattle.ocl_environments.specs.Parts.{tree_of, uncalled}
use Rattle.ocl_types.specs.TypingScopes.{let_type, let_part}
use Rattle.ocl_environments.specs.Lets.{let_variable}
use Rattle.ocl_types.specs.TypingOperators.{unchained, chain_part, link_rule, literal_rule, if_rule, not_rule, negated_rule}
use Rattle.ocl_types.specs.TypingSteps.{query_rule, operation_rule, extent_rule}
use Rattle.ocl_types.specs.TypingCollections.{collection_operation_rule, iterator_variable, iterator_rule}
use Rattle.ocl_types.specs.Typing.{is_all_instances, Typing, Meaning, Operated, Calling, Given, meaning, operated_by, calling, given, args_step, expr_step, step_step, link_step, parts_from, chained_from, called_from, linked_part, called_part, called_whole, calls_typing, let_typing, if_typing, query_by_class, query_typing, dot_by, dot_typing, arrow_by, arrow_typing, iterator_typing, first_called, path_of_extent, has_no_values, part_of, typed}
use Rattle.ocl_types.specs.Judged.{Judged, gives, taking, both}
use Rattle.ocl_types.specs.TypeRules.{if_judged, linked_judged, let_judged, bound_judged, collection_judged, query_judged, operation_judged, collection_operation_judged, iterator_variable_judged, iterator_judged, not_judged, negated_judged, extent_judged}
use Rattle.ocl_types.specs.HasType
use Rattle.ocl_types.specs.HasType.{Judgment, LinkJudgment, CallJudgment, ArgsJudgment, each, linked, called, called_part_judged, first_judged, calls_judged, query_args, dot_args, arrow_args, expr_rule, link_rule_of, call_rule, args_rule, judgment, link_judgment, call_judgment, args_judgment, HasType, HasTree, Stands}
use Rattle.ocl_types.proofs.JudgedLaws.{Decides, ok_ok, ok_err, err_err, gives_decides, refuses_decides, taking_decides, both_decides, two_decide, pair, paired}
use Rattle.ocl_types.specs.TypedContext.{typing_of}
use Rattle.ocl_types.proofs.RuleLaws as rules
use Rattle.ocl_types.proofs.JudgmentLaws.{State, expr_unrolled, link_unrolled, call_unrolled, args_unrolled}
use Rattle.ocl_types.proofs.TypedParts.{IsReady, IsPart, IsCalledOn, ready, ready_with, part_over}
use Rattle.ocl_types.proofs.TypedForms.{parts_over, bound_kept, bound_over, extent_typed}
use Rattle.ocl_types.proofs.TypedCalls.{uncalled_typed, element_over, iterator_variable_kept, iterator_variable_over}
use Rattle.ocl_types.proofs.TypedTrees.{GivesParts, GivesCalls, GivesLists, IsState, state_more, state_begun, each_parts, expr_rule_typed, call_rule_typed, args_rule_typed}

-- ---- what is to be shown of each kind of tree

-- an expression is computed as it is judged
pub record IsComputed (m : Meaning) (j : Judgment) : Type 0 where
  pub path : m.path ≡ j.path
  pub part : (env : Environment) → IsReady env → Decides (m.typing env) (j.part env)

-- and what is judged is a typed part
pub record IsExpr (m : Meaning) (j : Judgment) : Type 0 where
  pub path : m.path ≡ j.path
  pub part : (env : Environment) → IsReady env → Decides (m.typing env) (j.part env)
  pub typed : GivesParts j.part

pub record IsLink (o : Operated) (l : LinkJudgment) : Type 0 where
  pub operator : o.operator ≡ l.operator
  pub right : (env : Environment) → IsReady env → Decides (o.right env) (l.right env)
  pub typed : GivesParts l.right

-- the same of a call on what was called so far
pub record IsComputedCall (c : Calling) (k : CallJudgment) : Type 0 where
  pub is_extent : c.is_extent ≡ k.is_extent
  pub after : (env : Environment) → IsReady env → (first : trees.Typing) (before : CallsSoFar) → IsCalledOn env first before → Decides (c.after env before) (k.after env before)

pub record IsCall (c : Calling) (k : CallJudgment) : Type 0 where
  pub is_extent : c.is_extent ≡ k.is_extent
  pub after : (env : Environment) → IsReady env → (first : trees.Typing) (before : CallsSoFar) → IsCalledOn env first before → Decides (c.after env before) (k.after env before)
  pub typed : GivesCalls k.after

-- the same of what stands between parentheses
pub record AreComputed (g : Given) (a : ArgsJudgment) : Type 0 where
  pub class : g.class ≡ a.class
  pub is_empty : has_no_values g.values g.class ≡ a.is_empty
  pub parts : (env : Environment) → IsReady env → Decides (parts_from env [] g.values) (a.parts env)

pub record AreArgs (g : Given) (a : ArgsJudgment) : Type 0 where
  pub class : g.class ≡ a.class
  pub is_empty : has_no_values g.values g.class ≡ a.is_empty
  pub parts : (env : Environment) → IsReady env → Decides (parts_from env [] g.values) (a.parts env)
  pub typed : GivesLists a.parts

pub ExprOf : Expr → Type 0
ExprOf e = IsExpr (meaning e) (judgment e)

pub LinkOf : Infix → Type 0
LinkOf l = IsLink (operated_by l) (link_judgment l)

pub CallOf : Postfix → Type 0
CallOf k = IsCall (calling k) (call_judgment k)

pub ArgsOf : Args → Type 0
ArgsOf a = AreArgs (given a) (args_judgment a)

-- ---- lists of parts

parts_of : Environment → List Typing → RuleResult (List TypedPart)
parts_of env [] = Ok []
parts_of env (typing ∷ more) = and_then (pair (typing env) (parts_of env more)) (λ p. Ok (p.0 ∷ p.1))

behind : List TypedPart → RuleResult (List TypedPart) → RuleResult (List TypedPart)
behind parts r = and_then r (λ ps. Ok (parts ++ ps))

pub moved : {X : Type 0} (parts : List X) (r : RuleResult X) (s : RuleResult (List X))
    → and_then r (λ p. and_then s (λ ps. Ok ((parts ++ p ∷ []) ++ ps))) ≡ and_then (and_then (pair r s) (λ p. Ok (p.0 ∷ p.1))) (λ ps. Ok (parts ++ ps))
moved parts (Ok p) (Ok ps) = ap (λ qs. Ok qs) (append_assoc parts (p ∷ []) ps)
moved parts (Ok p) (Err f) = refl
moved parts (Err f) s = refl

pub then_same : {X Y : Type 0} (r : RuleResult X) (k l : X → RuleResult Y) → ((x : X) → k x ≡ l x) → and_then r k ≡ and_then r l
then_same (Ok x) k l same = same x
then_same (Err f) k l same = refl

parts_are : (env : Environment) (parts : List TypedPart) (typings : List Typing) → parts_from env parts typings ≡ behind parts (parts_of env typings)
unfolding parts_from parts_of behind
parts_are env parts [] = ap (λ qs. Ok qs) (sym (append-nil parts))
parts_are env parts (typing ∷ more) =
    then_same (typing env) _ _ (λ p. parts_are env (parts ++ p ∷ []) more) ∙ moved parts (typing env) (parts_of env more)

unmoved : (r : RuleResult (List TypedPart)) → behind [] r ≡ r
unfolding behind
unmoved (Ok ps) = refl
unmoved (Err f) = refl

-- the trees of pairs of a tree and what holds of it
firsts : {X : Type 0} {P : X → Type 0} → List ((x : X) × P x) → List X
firsts vs = map (λ v. v.0) vs

each_decides : (env : Environment) (ready : IsReady env) (vs : List ((e : Expr) × ExprOf e))
    → Decides (parts_of env (map (λ (m : Meaning). m.typing) (map meaning (map (λ v. v.0) vs)))) (each judgment env (map (λ v. v.0) vs))
unfolding parts_of each ExprOf
each_decides env ready [] = gives_decides []
each_decides env ready (v ∷ vs) =
    let t = (meaning v.0).typing env in
    let s = parts_of env (map (λ (m : Meaning). m.typing) (map meaning (map (λ v. v.0) vs))) in
    let i = (judgment v.0).part env in
    let j = each judgment env (map (λ v. v.0) vs) in
    taking_decides (pair t s) (λ p. Ok (p.0 ∷ p.1)) (both i j) (λ p. gives (p.0 ∷ p.1)) (both_decides t s i j (v.1.part env ready) (each_decides env ready vs)) (λ p h. gives_decides (p.0 ∷ p.1))

parts_decide : (env : Environment) (ready : IsReady env) (vs : List ((e : Expr) × ExprOf e))
    → Decides (parts_from env [] (map (λ (m : Meaning). m.typing) (map meaning (map (λ v. v.0) vs)))) (each judgment env (map (λ v. v.0) vs))
parts_decide env ready vs =
    let ts : List Typing = map (λ (m : Meaning). m.typing) (map meaning (map (λ v. v.0) vs)) in
    subst (λ q. Decides q (each judgment env (map (λ v. v.0) vs))) (sym (parts_are env [] ts ∙ unmoved (parts_of env ts))) (each_decides env ready vs)

-- ---- chains

abbrev beside : TypedPart → Chained → RuleResult State
beside p c = Ok (p, c)

abbrev onwards : Environment → List Operated → RuleResult State → RuleResult State
onwards env ls r = and_then r (λ s. and_then (chained_from env s.1 ls) (beside s.0))

link_made : (p : TypedPart) (q : RuleResult Chained) (k : Chained → RuleResult Chained)
    → and_then (and_then q k) (beside p) ≡ and_then (and_then q (beside p)) (λ (s : State). and_then (k s.1) (beside s.0))
link_made p (Ok c) k = refl
link_made p (Err f) k = refl

stepped : (env : Environment) (r : RuleResult State) (o : Operated) (ls : List Operated)
    → onwards env (o ∷ ls) r ≡ onwards env ls (and_then (pair r (o.right env)) (λ p. and_then (link_rule env.metas p.0.1 o.operator p.1) (beside p.0.0)))
unfolding chained_from
stepped env (Err f) o ls = refl
stepped env (Ok s) o ls = by (o.right env)
  where
    by : (t : RuleResult TypedPart)
        → and_then (and_then t (λ right. and_then (link_rule env.metas s.1 o.operator right) (λ next. chained_from env next ls))) (beside s.0)
        ≡ onwards env ls (and_then (pair (Ok s) t) (λ p. and_then (link_rule env.metas p.0.1 o.operator p.1) (beside p.0.0)))
    by (Ok right) = link_made s.0 (link_rule env.metas s.1 o.operator right) (λ next. chained_from env next ls)
    by (Err f) = refl

ended : (env : Environment) (r : RuleResult State) → onwards env [] r ≡ r
unfolding chained_from
ended env (Ok s) = refl
ended env (Err f) = refl

linked_decides : (env : Environment) (ready : IsReady env) (vs : List ((l : Infix) × LinkOf l)) (r : RuleResult State) (before : Judged State) → Decides r before
    → ((s : State) → before.has s → IsState env ready s) → Decides (onwards env (map operated_by (map (λ v. v.0) vs)) r) (linked link_judgment env before (map (λ v. v.0) vs))
unfolding linked LinkOf GivesParts
linked_decides env ready [] r before d holds = subst (λ q. Decides q before) (sym (ended env r)) d
linked_decides env ready (v ∷ vs) r before d holds =
    let o : Operated = operated_by v.0 in
    let l : LinkJudgment = link_judgment v.0 in
    let ls : List Infix = map (λ v. v.0) vs in
    let t = o.right env in
    let next : RuleResult State = and_then (pair r t) (λ p. and_then (link_rule env.metas p.0.1 o.operator p.1) (beside p.0.0)) in
    let after : Judged State = taking (both before (l.right env)) (λ p. taking (linked_judged env.metas p.0.1 l.operator p.1) (λ c. gives (p.0.0, c))) in
    let joined : Decides next after =
    taking_decides (pair r t) (λ p. and_then (link_rule env.metas p.0.1 o.operator p.1) (beside p.0.0)) (both before (l.right env))
    (λ p. taking (linked_judged env.metas p.0.1 l.operator p.1) (λ c. gives (p.0.0, c)))
    (both_decides r t before (l.right env) d (v.1.right env ready))
    (λ p h. taking_decides (link_rule env.metas p.0.1 o.operator p.1) (beside p.0.0) (linked_judged env.metas p.0.1 l.operator p.1) (λ c. gives (p.0.0, c))
    (subst (λ q. Decides (link_rule env.metas p.0.1 o.operator p.1) (linked_judged env.metas p.0.1 q p.1)) v.1.operator
    (rules.link_decides env.metas ready.well p.0.1 o.operator p.1 (holds p.0 h.0).1.over (part_over env ready p.1 (v.1.typed env ready p.1 h.1))))
    (λ c k. gives_decides (p.0.0, c))) in
    subst (λ q. Decides q (linked link_judgment env after ls)) (sym (stepped env r o (map operated_by ls))) (linked_decides env ready vs next after joined (state_more env ready l v.1.typed before holds))

-- ---- calls

called_decides : (env : Environment) (ready : IsReady env) (vs : List ((k : Postfix) × CallOf k)) (first : trees.Typing) (c : CallsSoFar) → IsCalledOn env first c
    → Decides (called_from env c (map calling (map (λ v. v.0) vs))) (called call_judgment env c (map (λ v. v.0) vs))
unfolding called_from called CallOf GivesCalls
called_decides env ready [] first c on = gives_decides c
called_decides env ready (v ∷ vs) first c on =
    taking_decides ((calling v.0).after env c) (λ next. called_from env next (map calling (map (λ v. v.0) vs))) ((call_judgment v.0).after env c)
    (λ next. called call_judgment env next (map (λ v. v.0) vs)) (v.1.after env ready first c on) (λ next h. called_decides env ready vs first next (v.1.typed env ready first c next on h))

called_part_decides : (env : Environment) (ready : IsReady env) (vs : List ((k : Postfix) × CallOf k)) (p : TypedPart) → IsPart env p
    → Decides (called_part env p (map calling (map (λ v. v.0) vs))) (called_part_judged call_judgment env p (map (λ v. v.0) vs))
unfolding called_part
called_part_decides env ready [] p part = gives_decides p
called_part_decides env ready (v ∷ vs) p part =
    taking_decides (called_from env (uncalled p) (map calling (map (λ v. v.0) (v ∷ vs)))) (λ c. Ok (called_whole p c))
    (called call_judgment env (uncalled p) (map (λ v. v.0) (v ∷ vs))) (λ c. gives (called_whole p c))
    (called_decides env ready (v ∷ vs) (typing_of p) (uncalled p) (uncalled_typed env ready p part)) (λ c h. gives_decides (called_whole p c))

-- ---- forms of more than one part

let_decides : (env : Environment) (ready : IsReady env) (n : Name) (ty : TypeTree) (value body : Meaning) (i j : Judgment) → IsExpr value i → IsExpr body j
    → Decides (let_typing env n.text ty value.typing body.typing)
    (taking (both (let_judged env n.text ty) (i.part env)) (λ v. taking (bound_judged env.metas v.0 v.1) (λ variable.
    taking (j.part (with_variable env n.text variable)) (λ b. gives (let_part (length env.variables) v.1 b)))))
unfolding GivesParts
let_decides env ready n ty value body i j first second =
    two_decide (let_type env n.text ty) (value.typing env) _ (let_judged env n.text ty) (i.part env) _ (rules.let_decides env n.text ty) (first.part env ready)
    (λ (t : Ty) (v : TypedPart) h k. taking_decides (let_variable env.metas t v) _ (bound_judged env.metas t v) _ (rules.bound_decides env.metas ready.well t v (part_over env ready v (first.typed env ready v k)))
    (λ (variable : Variable) bound.
    let more = ready_with env n.text variable ready (bound_kept env t v variable (first.typed env ready v k) bound) (bound_over env n.text ty t v variable h bound) in
    taking_decides (body.typing (with_variable env n.text variable)) _ (j.part (with_variable env n.text variable)) _
    (second.part (with_variable env n.text variable) more) (λ b h. gives_decides (let_part (length env.variables) v b))))

started : TypedPart → RuleResult State
started p = Ok (p, unchained p)

chain_made : (env : Environment) (r : RuleResult TypedPart) (ls : List Operated)
    → and_then (onwards env ls (and_then r started)) (λ c. Ok (chain_part c.0 c.1)) ≡ and_then r (λ p. linked_part env p ls)
unfolding started linked_part
chain_made env (Err f) ls = refl
chain_made env (Ok p) ls = by (chained_from env (unchained p) ls)
  where
    by : (q : RuleResult Chained) → and_then (and_then q (beside p)) (λ c. Ok (chain_part c.0 c.1)) ≡ and_then q (λ c. Ok (chain_part p c))
    by (Ok c) = refl
    by (Err f) = refl

chain_decides : (env : Environment) (ready : IsReady env) (first : Meaning) (i : Judgment) (vs : List ((l : Infix) × LinkOf l)) → IsExpr first i
    → Decides (and_then (first.typing env) (λ p. linked_part env p (map operated_by (map (λ v. v.0) vs))))
    (taking (linked link_judgment env (taking (i.part env) (λ p. gives (p, unchained p))) (map (λ v. v.0) vs)) (λ c. gives (chain_part c.0 c.1)))
unfolding started
chain_decides env ready first i vs is =
    let ls : List Operated = map operated_by (map (λ v. v.0) vs) in
    let r = and_then (first.typing env) started in
    let j : Judged State = taking (i.part env) (λ p. gives (p, unchained p)) in
    let begun : Decides r j = taking_decides (first.typing env) started (i.part env) (λ p. gives (p, unchained p)) (is.part env ready) (λ p h. gives_decides (p, unchained p)) in
    subst (λ q. Decides q (taking (linked link_judgment env j (map (λ v. v.0) vs)) (λ c. gives (chain_part c.0 c.1)))) (chain_made env (first.typing env) ls)
    (taking_decides (onwards env ls r) (λ c. Ok (chain_part c.0 c.1)) (linked link_judgment env j (map (λ v. v.0) vs)) (λ c. gives (chain_part c.0 c.1))
    (linked_decides env ready vs r j begun (state_begun env ready i.part is.typed)) (λ c h. gives_decides (chain_part c.0 c.1)))

if_decides : (env : Environment) (ready : IsReady env) (a b c : Meaning) (i j k : Judgment) → IsExpr a i → IsExpr b j → IsExpr c k
    → Decides (if_typing env a.typing b.typing c.typing) (taking (both (i.part env) (both (j.part env) (k.part env))) (λ p. if_judged env.metas p.0 p.1.0 p.1.1))
unfolding GivesParts
if_decides env ready a b c i j k first second third =
    let r = b.typing env in
    let s = c.typing env in
    subst (λ q. Decides q (taking (both (i.part env) (both (j.part env) (k.part env))) (λ p. if_judged env.metas p.0 p.1.0 p.1.1)))
    (then_same (a.typing env) _ _ (λ x. paired r s (λ y z. if_rule env.metas x y z)))
    (two_decide (a.typing env) (pair r s) (λ x p. if_rule env.metas x p.0 p.1) (i.part env) (both (j.part env) (k.part env)) (λ p. if_judged env.metas p.0 p.1.0 p.1.1)
    (first.part env ready) (both_decides r s (j.part env) (k.part env) (second.part env ready) (third.part env ready))
    (λ x p h m. rules.if_decides env.metas ready.well x p.0 p.1 (part_over env ready p.0 (second.typed env ready p.0 m.0)) (part_over env ready p.1 (third.typed env ready p.1 m.1))))

first_decides : (env : Environment) (ready : IsReady env) (part : Meaning) (i : Judgment) (v : (k : Postfix) × CallOf k) (vs : List ((k : Postfix) × CallOf k)) → IsExpr part i → (path : Option Path)
    → Decides (first_called env part.typing (calling v.0) (map calling (map (λ v. v.0) vs)) path) (first_judged call_judgment env (i.part env) v.0 (map (λ v. v.0) vs) path)
unfolding GivesParts
first_decides env ready part i v vs is (Some path) =
    taking_decides (extent_rule env path) (λ p. called_part env p (map calling (map (λ v. v.0) vs))) (extent_judged env path) (λ p. called_part_judged call_judgment env p (map (λ v. v.0) vs))
    (rules.extent_decides env path) (λ p h. called_part_decides env ready vs p (extent_typed env path p h))
first_decides env ready part i v vs is None =
    taking_decides (part.typing env) (λ p. called_part env p (map calling (map (λ v. v.0) (v ∷ vs)))) (i.part env) (λ p. called_part_judged call_judgment env p (map (λ v. v.0) (v ∷ vs)))
    (is.part env ready) (λ p h. called_part_decides env ready (v ∷ vs) p (is.typed env ready p h))

calls_decide : (env : Environment) (ready : IsReady env) (part : Meaning) (i : Judgment) (vs : List ((k : Postfix) × CallOf k)) → IsExpr part i
    → Decides (calls_typing env part (map calling (map (λ v. v.0) vs))) (calls_judged call_judgment env i (map (λ v. v.0) vs))
unfolding CallOf
calls_decide env ready part i [] is = is.part env ready
calls_decide env ready part i (v ∷ vs) is =
    let k : Calling = calling v.0 in
    let same : path_of_extent part.path k.is_extent ≡ path_of_extent i.path (call_judgment v.0).is_extent =
    ap (λ p. path_of_extent p k.is_extent) is.path ∙ ap (path_of_extent i.path) v.1.is_extent in
    subst (λ o. Decides (first_called env part.typing k (map calling (map (λ v. v.0) vs)) (path_of_extent part.path k.is_extent)) (first_judged call_judgment env (i.part env) v.0 (map (λ v. v.0) vs) o)) same
    (first_decides env ready part i v vs is (path_of_extent part.path k.is_extent))

query_by_decides : (env : Environment) (ready : IsReady env) (name : List ℕ) (g : Given) (a : ArgsJudgment) → AreArgs g a → (o : Option Path)
    → Decides (query_by_class env name g.values o) (query_args env name a o)
unfolding GivesLists
query_by_decides env ready name g a is None =
    taking_decides (parts_from env [] g.values) (query_rule env name) (a.parts env) (query_judged env name) (is.parts env ready)
    (λ ps h. rules.query_decides env ready.well name ps (parts_over env ready ps (is.typed env ready ps h)))
query_by_decides env ready name g a is (Some path) = refuses_decides (UnknownName name)

query_decides : (env : Environment) (ready : IsReady env) (name : List ℕ) (g : Given) (a : ArgsJudgment) → AreArgs g a → Decides (query_typing env name g) (query_args env name a a.class)
query_decides env ready name g a is =
    subst (λ o. Decides (query_by_class env name g.values g.class) (query_args env name a o)) is.class (query_by_decides env ready name g a is g.class)

dot_by_decides : (env : Environment) (ready : IsReady env) (name : List ℕ) (c : CallsSoFar) (g : Given) (a : ArgsJudgment) → AreArgs g a → (o : Option Path)
    → Decides (dot_by env name g.values c o) (dot_args env name c a o)
dot_by_decides env ready name c g a is None =
    taking_decides (parts_from env [] g.values) (operation_rule env.metas name c) (a.parts env) (operation_judged env.metas name c) (is.parts env ready)
    (λ ps h. rules.operation_decides env.metas name c ps)
dot_by_decides env ready name c g a is (Some path) = rules.class_operation_decides env name path c

dot_decides : (env : Environment) (ready : IsReady env) (name : List ℕ) (c : CallsSoFar) (g : Given) (a : ArgsJudgment) → AreArgs g a
    → Decides (dot_typing name g env c) (dot_args env name c a a.class)
dot_decides env ready name c g a is =
    subst (λ o. Decides (dot_by env name g.values c g.class) (dot_args env name c a o)) is.class (dot_by_decides env ready name c g a is g.class)

arrow_by_decides : (env : Environment) (ready : IsReady env) (name : List ℕ) (first : trees.Typing) (c : CallsSoFar) → IsCalledOn env first c → (g : Given) (a : ArgsJudgment) → AreArgs g a → (o : Option Path)
    → Decides (arrow_by env name g.values c o) (arrow_args env name c a o)
unfolding GivesLists
arrow_by_decides env ready name first c on g a is None =
    taking_decides (parts_from env [] g.values) (collection_operation_rule env.metas name c) (a.parts env) (collection_operation_judged env.metas name c) (is.parts env ready)
    (λ ps h. rules.collection_operation_decides env.metas ready.well name c ps (element_over env ready first c on) (parts_over env ready ps (is.typed env ready ps h)))
arrow_by_decides env ready name first c on g a is (Some path) = refuses_decides (UnknownName name)

arrow_decides : (env : Environment) (ready : IsReady env) (name : List ℕ) (first : trees.Typing) (c : CallsSoFar) → IsCalledOn env first c → (g : Given) (a : ArgsJudgment) → AreArgs g a
    → Decides (arrow_typing name g env c) (arrow_args env name c a a.class)
arrow_decides env ready name first c on g a is =
    subst (λ o. Decides (arrow_by env name g.values c g.class) (arrow_args env name c a o)) is.class (arrow_by_decides env ready name first c on g a is g.class)

iterator_decides : (env : Environment) (ready : IsReady env) (first : trees.Typing) (c : CallsSoFar) → IsCalledOn env first c → (n variable : Name) (tree : Option TypeTree) (body : Meaning) (j : Judgment) → IsExpr body j
    → Decides (iterator_typing n.text variable.text tree body.typing env c)
    (taking (iterator_variable_judged env variable.text tree c) (λ v. taking (j.part (with_variable env variable.text v)) (λ b. iterator_judged env.metas n.text (length env.variables) c b)))
iterator_decides env ready first c on n variable tree body j is =
    taking_decides (iterator_variable env variable.text tree c) _ (iterator_variable_judged env variable.text tree c) _ (rules.iterator_variable_decides env ready.well variable.text tree c (element_over env ready first c on))
    (λ (v : Variable) h. taking_decides (body.typing (with_variable env variable.text v)) (λ b. iterator_rule env.metas n.text (length env.variables) c b)
    (j.part (with_variable env variable.text v)) (λ b. iterator_judged env.metas n.text (length env.variables) c b)
    (is.part (with_variable env variable.text v)
    (ready_with env variable.text v ready (iterator_variable_kept env ready variable.text tree first c v on h) (iterator_variable_over env ready variable.text tree first c v on h))) (λ b k. rules.iterator_decides env.metas n.text (length env.variables) c b))

-- ---- one layer of each kind of tree

expr_told : (d : of.Expr-F Args Expr Postfix Infix)
    → IsComputed (expr_step (map-Expr Args Expr Postfix Infix Given Meaning Calling Operated given meaning calling operated_by d)) (expr_rule args_judgment judgment call_judgment link_judgment d)
    → ExprOf (roll-Expr d)
unfolding ExprOf
expr_told d is =
    let layer : IsExpr (expr_step (map-Expr Args Expr Postfix Infix Given Meaning Calling Operated given meaning calling operated_by d)) (expr_rule args_judgment judgment call_judgment link_judgment d) =
    record { path = is.path; part = is.part; typed = expr_rule_typed d } in
    subst (λ m. IsExpr m (judgment (roll-Expr d))) (sym (fold-roll-Expr Given Meaning Calling Operated args_step expr_step step_step link_step d))
    (subst (λ j. IsExpr (expr_step (map-Expr Args Expr Postfix Infix Given Meaning Calling Operated given meaning calling operated_by d)) j)
    (sym (expr_unrolled d)) layer)

link_told : (d : of.Infix-F Args Expr Postfix Infix)
    → IsLink (link_step (map-Infix Args Expr Postfix Infix Given Meaning Calling Operated given meaning calling operated_by d)) (link_rule_of args_judgment judgment call_judgment link_judgment d)
    → LinkOf (roll-Infix d)
unfolding LinkOf
link_told d is =
    subst (λ m. IsLink m (link_judgment (roll-Infix d))) (sym (fold-roll-Infix Given Meaning Calling Operated args_step expr_step step_step link_step d))
    (subst (λ j. IsLink (link_step (map-Infix Args Expr Postfix Infix Given Meaning Calling Operated given meaning calling operated_by d)) j)
    (sym (link_unrolled d)) is)

call_told : (d : of.Postfix-F Args Expr Postfix Infix)
    → IsComputedCall (step_step (map-Postfix Args Expr Postfix Infix Given Meaning Calling Operated given meaning calling operated_by d)) (call_rule args_judgment judgment call_judgment link_judgment d)
    → CallOf (roll-Postfix d)
unfolding CallOf
call_told d is =
    let layer : IsCall (step_step (map-Postfix Args Expr Postfix Infix Given Meaning Calling Operated given meaning calling operated_by d)) (call_rule args_judgment judgment call_judgment link_judgment d) =
    record { is_extent = is.is_extent; after = is.after; typed = call_rule_typed d } in
    subst (λ m. IsCall m (call_judgment (roll-Postfix d))) (sym (fold-roll-Postfix Given Meaning Calling Operated args_step expr_step step_step link_step d))
    (subst (λ j. IsCall (step_step (map-Postfix Args Expr Postfix Infix Given Meaning Calling Operated given meaning calling operated_by d)) j)
    (sym (call_unrolled d)) layer)

args_told : (d : of.Args-F Args Expr Postfix Infix)
    → AreComputed (args_step (map-Args Args Expr Postfix Infix Given Meaning Calling Operated given meaning calling operated_by d)) (args_rule args_judgment judgment call_judgment link_judgment d)
    → ArgsOf (roll-Args d)
unfolding ArgsOf
args_told d is =
    let layer : AreArgs (args_step (map-Args Args Expr Postfix Infix Given Meaning Calling Operated given meaning calling operated_by d)) (args_rule args_judgment judgment call_judgment link_judgment d) =
    record { class = is.class; is_empty = is.is_empty; parts = is.parts; typed = args_rule_typed d } in
    subst (λ m. AreArgs m (args_judgment (roll-Args d))) (sym (fold-roll-Args Given Meaning Calling Operated args_step expr_step step_step link_step d))
    (subst (λ j. AreArgs (args_step (map-Args Args Expr Postfix Infix Given Meaning Calling Operated given meaning calling operated_by d)) j)
    (sym (args_unrolled d)) layer)

-- what one layer holds, each tree with the fact
abbrev HeldArgs : Type 0
HeldArgs = (a : Args) × ArgsOf a

abbrev HeldExpr : Type 0
HeldExpr = (e : Expr) × ExprOf e

abbrev HeldCall : Type 0
HeldCall = (k : Postfix) × CallOf k

abbrev HeldLink : Type 0
HeldLink = (l : Infix) × LinkOf l

abbrev trees_of_expr : of.Expr-F HeldArgs HeldExpr HeldCall HeldLink → of.Expr-F Args Expr Postfix Infix
trees_of_expr y = map-Expr HeldArgs HeldExpr HeldCall HeldLink Args Expr Postfix Infix (λ e. e.0) (λ e. e.0) (λ e. e.0) (λ e. e.0) y

abbrev trees_of_call : of.Postfix-F HeldArgs HeldExpr HeldCall HeldLink → of.Postfix-F Args Expr Postfix Infix
trees_of_call y = map-Postfix HeldArgs HeldExpr HeldCall HeldLink Args Expr Postfix Infix (λ e. e.0) (λ e. e.0) (λ e. e.0) (λ e. e.0) y

abbrev trees_of_args : of.Args-F HeldArgs HeldExpr HeldCall HeldLink → of.Args-F Args Expr Postfix Infix
trees_of_args y = map-Args HeldArgs HeldExpr HeldCall HeldLink Args Expr Postfix Infix (λ e. e.0) (λ e. e.0) (λ e. e.0) (λ e. e.0) y

no_values : (vs : List HeldExpr) → has_no_values (map (λ (m : Meaning). m.typing) (map meaning (map (λ v. v.0) vs))) None ≡ HasType.is_nothing (map (λ v. v.0) vs)
no_values [] = refl
no_values (v ∷ vs) = refl

args_formed : (y : of.Args-F HeldArgs HeldExpr HeldCall HeldLink) → ArgsOf (roll-Args (trees_of_args y))
unfolding parts_of each
args_formed (of.Values vs) = args_told (of.Values (map (λ v. v.0) vs)) (record { class = refl; is_empty = no_values vs; parts = λ env ready. parts_decide env ready vs })
args_formed (of.Class path) = args_told (of.Class path) (record { class = refl; is_empty = refl; parts = λ env ready. subst (λ q. Decides q (gives [])) (sym (parts_are env [] [] ∙ unmoved _)) (gives_decides []) })

call_formed : (y : of.Postfix-F HeldArgs HeldExpr HeldCall HeldLink) → CallOf (roll-Postfix (trees_of_call y))
unfolding ArgsOf ExprOf
call_formed (of.Property n) = call_told (of.Property n) (record { is_extent = refl; after = λ env ready first c on. rules.property_decides env.metas ready.well n.text c })
call_formed (of.Dot n a span) = call_told (of.Dot n a.0 span) (record {
  is_extent = ap (λ b. is_all_instances n.text && b) a.1.is_empty;
  after = λ env ready first c on. dot_decides env ready n.text c (given a.0) (args_judgment a.0) a.1;
})
call_formed (of.Arrow n a span) = call_told (of.Arrow n a.0 span) (record {
  is_extent = refl;
  after = λ env ready first c on. arrow_decides env ready n.text first c on (given a.0) (args_judgment a.0) a.1;
})
call_formed (of.Iterator n variable ty body span) = call_told (of.Iterator n variable ty body.0 span) (record {
  is_extent = refl;
  after = λ env ready first c on. iterator_decides env ready first c on n variable ty (meaning body.0) (judgment body.0) body.1;
})

expr_formed : (y : of.Expr-F HeldArgs HeldExpr HeldCall HeldLink) → ExprOf (roll-Expr (trees_of_expr y))
unfolding ArgsOf ExprOf
expr_formed (of.Let n ty value body span) = expr_told (of.Let n ty value.0 body.0 span) (record {
  path = refl;
  part = λ env ready. let_decides env ready n ty (meaning value.0) (meaning body.0) (judgment value.0) (judgment body.0) value.1 body.1;
})
expr_formed (of.Chain first rest span) = expr_told (of.Chain first.0 (map (λ v. v.0) rest) span) (record {
  path = refl;
  part = λ env ready. chain_decides env ready (meaning first.0) (judgment first.0) rest first.1;
})
expr_formed (of.Not operand span) = expr_told (of.Not operand.0 span) (record {
  path = refl;
  part = λ env ready. taking_decides ((meaning operand.0).typing env) (not_rule env.metas) ((judgment operand.0).part env) (not_judged env.metas) (operand.1.part env ready) (λ p h. rules.not_decides env.metas p);
})
expr_formed (of.Negated operand span) = expr_told (of.Negated operand.0 span) (record {
  path = refl;
  part = λ env ready. taking_decides ((meaning operand.0).typing env) (negated_rule env.metas) ((judgment operand.0).part env) (negated_judged env.metas) (operand.1.part env ready) (λ p h. rules.negated_decides env.metas p);
})
expr_formed (of.Calls part rest span) = expr_told (of.Calls part.0 (map (λ v. v.0) rest) span) (record {
  path = refl;
  part = λ env ready. calls_decide env ready (meaning part.0) (judgment part.0) rest part.1;
})
expr_formed (of.Number value span) = expr_told (of.Number value span) (record { path = refl; part = λ env ready. gives_decides _ })
expr_formed (of.Str value span) = expr_told (of.Str value span) (record { path = refl; part = λ env ready. gives_decides _ })
expr_formed (of.Bool value span) = expr_told (of.Bool value span) (record { path = refl; part = λ env ready. gives_decides _ })
expr_formed (of.Null span) = expr_told (of.Null span) (record { path = refl; part = λ env ready. gives_decides _ })
expr_formed (of.Invalid span) = expr_told (of.Invalid span) (record { path = refl; part = λ env ready. gives_decides _ })
expr_formed (of.Parens inner span) = expr_told (of.Parens inner.0 span) (record { path = refl; part = λ env ready. inner.1.part env ready })
expr_formed (of.If condition one other span) = expr_told (of.If condition.0 one.0 other.0 span) (record {
  path = refl;
  part = λ env ready. if_decides env ready (meaning condition.0) (meaning one.0) (meaning other.0) (judgment condition.0) (judgment one.0) (judgment other.0) condition.1 one.1 other.1;
})
expr_formed (of.Coll kind elements span) = expr_told (of.Coll kind (map (λ v. v.0) elements) span) (record {
  path = refl;
  part = λ env ready. taking_decides (parts_from env [] (map (λ (m : Meaning). m.typing) (map meaning (map (λ v. v.0) elements)))) (literal_rule env.metas kind)
      (each judgment env (map (λ v. v.0) elements)) (collection_judged env.metas kind) (parts_decide env ready elements)
      (λ ps h. rules.collection_decides env.metas ready.well kind ps (parts_over env ready ps (each_parts env ready (map (λ v. v.0) elements) ps h)));
})
expr_formed (of.Call n a span) = expr_told (of.Call n a.0 span) (record {
  path = refl;
  part = λ env ready. query_decides env ready n.text (given a.0) (args_judgment a.0) a.1;
})
expr_formed (of.Named path) = expr_told (of.Named path) (record { path = refl; part = λ env ready. rules.path_decides env path })

link_formed : (y : of.Infix-F HeldArgs HeldExpr HeldCall HeldLink) → LinkOf (roll-Infix (map-Infix HeldArgs HeldExpr HeldCall HeldLink Args Expr Postfix Infix (λ e. e.0) (λ e. e.0) (λ e. e.0) (λ e. e.0) y))
unfolding ExprOf
link_formed y = link_told (map-Infix HeldArgs HeldExpr HeldCall HeldLink Args Expr Postfix Infix (λ e. e.0) (λ e. e.0) (λ e. e.0) (λ e. e.0) y)
    (record { operator = refl; right = λ env ready. y.right.1.part env ready; typed = y.right.1.typed })

-- each expression
pub told : (e : Expr) → ExprOf e
told = ind-Expr ArgsOf ExprOf CallOf LinkOf
    (λ x y is. subst (λ d. ArgsOf (roll-Args d)) is (args_formed y))
    (λ x y is. subst (λ d. ExprOf (roll-Expr d)) is (expr_formed y))
    (λ x y is. subst (λ d. CallOf (roll-Postfix d)) is (call_formed y))
    (λ x y is. subst (λ d. LinkOf (roll-Infix d)) is (link_formed y))

-- what an expression is, by the relation and by the search for the first fault
pub decided : (env : Environment) → IsReady env → (e : Expr) → Decides (part_of env e) ((judgment e).part env)
unfolding part_of ExprOf
decided env ready e = (told e).part env ready

module _ (env : Environment) (order : IsInOrder env) (e : Expr) where
  has_type : (p : TypedPart) → part_of env e ≡ Ok p → HasType env e p
  unfolding HasType
  has_type p is = (decided env (ready env order) e).told p is

  of_type : (p : TypedPart) → HasType env e p → part_of env e ≡ Ok p
  unfolding HasType
  of_type p has = (decided env (ready env order) e).only p has

  fault_stands : (f : TypeFault) → part_of env e ≡ Err f → Stands env e f
  unfolding Stands
  fault_stands f is = (decided env (ready env order) e).fault f is

  -- of what the search for the first fault gives
  pub part_told : (p : TypedPart) → (meaning e).typing env ≡ Ok p → HasType env e p
  unfolding part_of
  part_told p is = has_type p is

  pub part_fault : (f : TypeFault) → (meaning e).typing env ≡ Err f → Stands env e f
  unfolding part_of
  part_fault f is = fault_stands f is

  refused_where : (f : TypeFault) → Stands env e f → (p : TypedPart) → part_of env e ≡ Ok p → ⊥
  unfolding Stands
  refused_where f stands p is = (decided env (ready env order) e).refused f stands p is

  tree_ok : (r : RuleResult TypedPart) (t : Typed) → and_then r (λ p. Ok (tree_of p)) ≡ Ok t → (p : TypedPart) × (r ≡ Ok p) × (t ≡ tree_of p)
  tree_ok (Ok p) t h = (p, refl, ok_ok (Ok t) t (tree_of p) refl (sym h))
  tree_ok (Err f) t h = absurd (ok_err (Err f) t f h refl)

  tree_err : (r : RuleResult TypedPart) (f : TypeFault) → and_then r (λ p. Ok (tree_of p)) ≡ Err f → r ≡ Err f
  tree_err (Ok p) f h = absurd (ok_err (Ok (tree_of p)) (tree_of p) f refl h)
  tree_err (Err g) f h = ap (λ x. Err x) (err_err (Err g) g f refl h)

  err_of : (r : RuleResult TypedPart) → ((p : TypedPart) → r ≡ Ok p → ⊥) → (f : TypeFault) × (and_then r (λ p. Ok (tree_of p)) ≡ Err f)
  err_of (Ok p) none = absurd (none p refl)
  err_of (Err f) none = (f, refl)

  -- a typed tree is answered where the expression has it as its tree
  pub tree_told : (t : Typed) → typed env e ≡ Ok t → HasTree env e t
  unfolding typed
  tree_told t is = let o = tree_ok (part_of env e) t is in (o.0, has_type o.0 o.1, o.2)

  pub tree_only : (t : Typed) → HasTree env e t → typed env e ≡ Ok t
  unfolding typed
  tree_only t has = ap (λ r. and_then r (λ p. Ok (tree_of p))) (of_type has.0 has.1) ∙ ap (λ q. Ok q) (sym has.2)

  pub fault_told : (f : TypeFault) → typed env e ≡ Err f → Stands env e f
  unfolding typed
  fault_told f is = fault_stands f (tree_err (part_of env e) f is)

  pub fault_known : (f : TypeFault) → Stands env e f → (g : TypeFault) × (typed env e ≡ Err g)
  unfolding typed
  fault_known f stands = err_of (part_of env e) (λ p is. refused_where f stands p is)

  pub one_type : (p q : TypedPart) → HasType env e p → HasType env e q → p ≡ q
  one_type p q one other = ok_ok (part_of env e) p q (of_type p one) (of_type q other)
