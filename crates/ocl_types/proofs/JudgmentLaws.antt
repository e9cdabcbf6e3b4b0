-- What is judged of an expression is what the rule of its form says of its parts.
use Rattle.std.proofs.Common.{◌≡◌, true, false, List, [], ◌∷◌, Option, None, Some, map, refl, ap}
use Rattle.qv_syntax.specs.declared.name.Path.{Path}
use Rattle.qv_syntax.specs.declared.expr.Expr.{Expr, roll-Expr, map-Expr, rec-roll-Expr}
use Rattle.qv_syntax.specs.declared.expr.Infix.{Infix, roll-Infix, map-Infix, rec-roll-Infix}
use Rattle.qv_syntax.specs.declared.expr.Postfix.{Postfix, roll-Postfix, map-Postfix, rec-roll-Postfix}
use Rattle.qv_syntax.specs.declared.expr.Args.{Args, roll-Args, map-Args, rec-roll-Args}
use Rattle.qv_syntax.specs.declared.expr.Args.TheOpen as of
use Rattle.ocl_environments.specs.declared.part.TypedPart.{TypedPart}
use Rattle.ocl_environments.specs.declared.part.CallsSoFar.{CallsSoFar}
use Rattle.ocl_environments.specs.declared.part.Chained.{Chained}
use Rattle.ocl_environments.specs.Environments.{Environment}
use Rattle.ocl_environments.specs.Parts.{uncalled}
use Rattle.ocl_types.specs.TypingOperators.{unchained, chain_part}
use Rattle.ocl_types.specs.Typing.{given, called_whole, path_of_extent}
use Rattle.ocl_types.specs.Judged.{Judged, gives, taking, both}
use Rattle.ocl_types.specs.TypeRules.{linked_judged, collection_judged, extent_judged}
use Rattle.ocl_types.specs.HasType.{Judgment, LinkJudgment, CallJudgment, ArgsJudgment, each, linked, called, called_part_judged, first_judged, calls_judged, expr_rule, link_rule_of, call_rule, args_rule, judgment, link_judgment, call_judgment, args_judgment}

abbrev pub State : Type 0
State = TypedPart × Chained

-- ---- the rules see trees through what is judged of them

by_values {ℓ} : {A : Type 0} {B : Type ℓ} (f g : A → B) → ((x : A) → f x ≡ g x) → f ≡ g
by_values f g same = λ i x. same x i

each_mapped : {X : Type 0} (v : X → Expr) (k : Expr → Judgment) (env : Environment) (xs : List X) → each (λ x. k (v x)) env xs ≡ each k env (map v xs)
unfolding each
each_mapped v k env [] = refl
each_mapped v k env (x ∷ xs) = ap (λ (j : Judged (List TypedPart)). taking (both ((k (v x)).part env) j) (λ p. gives (p.0 ∷ p.1))) (each_mapped v k env xs)

linked_mapped : {X : Type 0} (v : X → Infix) (k : Infix → LinkJudgment) (env : Environment) (before : Judged State) (xs : List X)
    → linked (λ x. k (v x)) env before xs ≡ linked k env before (map v xs)
unfolding linked
linked_mapped v k env before [] = refl
linked_mapped v k env before (x ∷ xs) =
    linked_mapped v k env (taking (both before ((k (v x)).right env)) (λ p. taking (linked_judged env.metas p.0.1 (k (v x)).operator p.1) (λ c. gives (p.0.0, c)))) xs

called_mapped : {X : Type 0} (v : X → Postfix) (k : Postfix → CallJudgment) (env : Environment) (c : CallsSoFar) (xs : List X) → called (λ x. k (v x)) env c xs ≡ called k env c (map v xs)
unfolding called
called_mapped v k env c [] = refl
called_mapped v k env c (x ∷ xs) = ap (taking ((k (v x)).after env c)) (by_values _ _ (λ next. called_mapped v k env next xs))

called_part_mapped : {X : Type 0} (v : X → Postfix) (k : Postfix → CallJudgment) (env : Environment) (p : TypedPart) (xs : List X)
    → called_part_judged (λ x. k (v x)) env p xs ≡ called_part_judged k env p (map v xs)
called_part_mapped v k env p [] = refl
called_part_mapped v k env p (x ∷ xs) = ap (λ (j : Judged CallsSoFar). taking j (λ c. gives (called_whole p c))) (called_mapped v k env (uncalled p) (x ∷ xs))

first_mapped : {X : Type 0} (v : X → Postfix) (k : Postfix → CallJudgment) (env : Environment) (part : Judged TypedPart) (x : X) (xs : List X) (o : Option Path)
    → first_judged (λ x. k (v x)) env part x xs o ≡ first_judged k env part (v x) (map v xs) o
first_mapped v k env part x xs (Some path) = ap (taking (extent_judged env path)) (by_values _ _ (λ p. called_part_mapped v k env p xs))
first_mapped v k env part x xs None = ap (taking part) (by_values _ _ (λ p. called_part_mapped v k env p (x ∷ xs)))

calls_mapped : {X : Type 0} (v : X → Postfix) (k : Postfix → CallJudgment) (env : Environment) (part : Judgment) (xs : List X)
    → calls_judged (λ x. k (v x)) env part xs ≡ calls_judged k env part (map v xs)
calls_mapped v k env part [] = refl
calls_mapped v k env part (x ∷ xs) = first_mapped v k env (part.part env) x xs (path_of_extent part.path (k (v x)).is_extent)

judged_so : (Environment → Judged TypedPart) → Judgment
judged_so part = record { path = None; part = part }

module _ (X X' X'' X3 : Type 0) (v : X → Args) (v' : X' → Expr) (v'' : X'' → Postfix) (v3 : X3 → Infix)
    (k : Args → ArgsJudgment) (k' : Expr → Judgment) (k'' : Postfix → CallJudgment) (k3 : Infix → LinkJudgment) where
  args_seen : (x : of.Args-F X X' X'' X3)
      → args_rule (λ y. k (v y)) (λ y. k' (v' y)) (λ y. k'' (v'' y)) (λ y. k3 (v3 y)) x ≡ args_rule k k' k'' k3 (map-Args X X' X'' X3 Args Expr Postfix Infix v v' v'' v3 x)
  args_seen (of.Values []) = ap (λ f. record { class = None; is_empty = true; parts = f }) (by_values _ _ (λ env. each_mapped v' k' env []))
  args_seen (of.Values (x ∷ xs)) = ap (λ f. record { class = None; is_empty = false; parts = f }) (by_values _ _ (λ env. each_mapped v' k' env (x ∷ xs)))
  args_seen (of.Class path) = refl

  call_seen : (x : of.Postfix-F X X' X'' X3)
      → call_rule (λ y. k (v y)) (λ y. k' (v' y)) (λ y. k'' (v'' y)) (λ y. k3 (v3 y)) x ≡ call_rule k k' k'' k3 (map-Postfix X X' X'' X3 Args Expr Postfix Infix v v' v'' v3 x)
  call_seen (of.Property n) = refl
  call_seen (of.Dot n given span) = refl
  call_seen (of.Arrow n given span) = refl
  call_seen (of.Iterator n variable ty body span) = refl

  link_seen : (x : of.Infix-F X X' X'' X3)
      → link_rule_of (λ y. k (v y)) (λ y. k' (v' y)) (λ y. k'' (v'' y)) (λ y. k3 (v3 y)) x ≡ link_rule_of k k' k'' k3 (map-Infix X X' X'' X3 Args Expr Postfix Infix v v' v'' v3 x)
  link_seen x = refl

  expr_seen : (x : of.Expr-F X X' X'' X3)
      → expr_rule (λ y. k (v y)) (λ y. k' (v' y)) (λ y. k'' (v'' y)) (λ y. k3 (v3 y)) x ≡ expr_rule k k' k'' k3 (map-Expr X X' X'' X3 Args Expr Postfix Infix v v' v'' v3 x)
  unfolding judged_so
  expr_seen (of.Let n ty value body span) = refl
  expr_seen (of.Chain first rest span) = ap judged_so (by_values _ _ (λ env. ap (λ (j : Judged State). taking j (λ c. gives (chain_part c.0 c.1)))
      (linked_mapped v3 k3 env (taking ((k' (v' first)).part env) (λ p. gives (p, unchained p))) rest)))
  expr_seen (of.Not operand span) = refl
  expr_seen (of.Negated operand span) = refl
  expr_seen (of.Calls part calls span) = ap judged_so (by_values _ _ (λ env. calls_mapped v'' k'' env (k' (v' part)) calls))
  expr_seen (of.Number value span) = refl
  expr_seen (of.Str value span) = refl
  expr_seen (of.Bool value span) = refl
  expr_seen (of.Null span) = refl
  expr_seen (of.Invalid span) = refl
  expr_seen (of.Parens inner span) = refl
  expr_seen (of.If condition one other span) = refl
  expr_seen (of.Coll kind elements span) = ap judged_so (by_values _ _ (λ env. ap (λ (j : Judged (List TypedPart)). taking j (collection_judged env.metas kind)) (each_mapped v' k' env elements)))
  expr_seen (of.Call n given span) = refl
  expr_seen (of.Named path) = refl

-- ---- what is judged of one layer

pub expr_unrolled : (d : of.Expr-F Args Expr Postfix Infix) → judgment (roll-Expr d) ≡ expr_rule args_judgment judgment call_judgment link_judgment d
expr_unrolled d = rec-roll-Expr ArgsJudgment Judgment CallJudgment LinkJudgment _ _ _ _ expr_seen d

pub link_unrolled : (d : of.Infix-F Args Expr Postfix Infix) → link_judgment (roll-Infix d) ≡ link_rule_of args_judgment judgment call_judgment link_judgment d
link_unrolled d = rec-roll-Infix ArgsJudgment Judgment CallJudgment LinkJudgment _ _ _ _ link_seen d

pub call_unrolled : (d : of.Postfix-F Args Expr Postfix Infix) → call_judgment (roll-Postfix d) ≡ call_rule args_judgment judgment call_judgment link_judgment d
call_unrolled d = rec-roll-Postfix ArgsJudgment Judgment CallJudgment LinkJudgment _ _ _ _ call_seen d

pub args_unrolled : (d : of.Args-F Args Expr Postfix Infix) → args_judgment (roll-Args d) ≡ args_rule args_judgment judgment call_judgment link_judgment d
args_unrolled d = rec-roll-Args ArgsJudgment Judgment CallJudgment LinkJudgment _ _ _ _ args_seen d
