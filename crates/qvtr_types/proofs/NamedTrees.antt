-- The variables in reach that an expression names are those that its typed tree names. By induction on the expression.
use Rattle.std.proofs.Common.{◌≡◌, ℕ, Bool, true, false, ◌&&◌, List, [], ◌∷◌, ◌++◌, Option, None, Some, map, length, refl, sym, ◌∙◌, ap, subst, inl, inr, append_assoc, append-nil, arith}
use Rattle.std.specs.Prelude.{if◌then◌else◌, Contains, is_some, nat_le}
use Rattle.std.specs.List.{flat_map}
use Rattle.std.proofs.lemmas.Bool.{false≢true, lt-leb}
use Rattle.std.proofs.lemmas.Option.{none-some, same_Some}
use Rattle.std.proofs.lemmas.List.{map-append}
use Rattle.qv_syntax.specs.declared.name.Name.{Name}
use Rattle.qv_syntax.specs.declared.name.Path.{Path}
use Rattle.qv_syntax.specs.declared.ty.Ty.{Ty}
use Rattle.qv_syntax.specs.declared.expr.Expr.{Expr, roll-Expr, map-Expr, ind-Expr, fold-roll-Expr}
use Rattle.qv_syntax.specs.declared.expr.Infix.{Infix, roll-Infix, map-Infix, fold-roll-Infix}
use Rattle.qv_syntax.specs.declared.expr.Postfix.{Postfix, roll-Postfix, map-Postfix, fold-roll-Postfix}
use Rattle.qv_syntax.specs.declared.expr.Args.{Args, roll-Args, map-Args, fold-roll-Args}
use Rattle.qv_syntax.specs.declared.expr.Args.TheOpen as of
use Rattle.qv_syntax.specs.declared.typed.Typed.{Typed}
use Rattle.qv_syntax.specs.declared.typed.Node.{Node, out-Node, roll-Node, out-roll-Node}
use Rattle.qv_syntax.specs.declared.typed.Node.TheVariants as nodes
use Rattle.qv_syntax.specs.declared.typed.Call.{Call}
use Rattle.qv_syntax.specs.declared.typed.Call.TheOpen as layers
use Rattle.qv_syntax.specs.declared.typed.TypedInfix.{TypedInfix}
use Rattle.qv_syntax.specs.declared.typed.TypedPostfix.{TypedPostfix}
use Rattle.qv_syntax.specs.Parts.{Names, node_parts, parts_of_call}
use Rattle.ocl_environments.specs.declared.part.TypedPart.{TypedPart}
use Rattle.ocl_environments.specs.declared.part.CallsSoFar.{CallsSoFar}
use Rattle.ocl_environments.specs.declared.part.Chained.{Chained}
use Rattle.ocl_environments.specs.Environments.{Environment, with_variable}
use Rattle.ocl_environments.specs.Naming.{names_of, texts_of}
use Rattle.ocl_environments.specs.Classifiers.{named_literal, named_class}
use Rattle.ocl_environments.specs.Environments as environments
use Rattle.ocl_environments.specs.Parts.{tree_of, trees_of, plain_part, uncalled}
use Rattle.ocl_types.specs.TypingOperators.{unchained, chain_part}
use Rattle.ocl_types.specs.Typing.{called_whole, path_of_extent, short_path, is_all_instances}
use Rattle.ocl_types.specs.TypingScopes.{let_part}
use Rattle.ocl_types.specs.Judged.{Judged, gives, taking, both}
use Rattle.ocl_types.specs.TypeRules.{linked_judged, names_judged, literal_judged, query_judged, arguments_judged, extent_judged}
use Rattle.ocl_types.specs.HasType.{Judgment, LinkJudgment, CallJudgment, ArgsJudgment, each, linked, called, called_part_judged, first_judged, calls_judged, query_args, dot_args, arrow_args, expr_rule, link_rule_of, call_rule, args_rule, judgment, link_judgment, call_judgment, args_judgment, HasType, HasTree}
use Rattle.ocl_types.proofs.JudgmentLaws.{expr_unrolled, link_unrolled, call_unrolled, args_unrolled}
use Rattle.ocl_types.proofs.TypedParts.{finds_has}
use Rattle.std.proofs.lemmas.Bool.{and_parts}
use Rattle.script_scopes.specs.declared.usage.Usage.{Usage}
use Rattle.script_scopes.specs.declared.usage.Usage.TheVariants as usages_of
use Rattle.script_scopes.specs.Usages.{ExprUsages, CallUsages, ArgsUsages, without, variable_in, named_usages, is_extent, calls_usages, expr_step, infix_step, postfix_step, args_step, expr_usages, infix_usages, postfix_usages, args_usages, usages, variables_in}
use Rattle.script_scopes.specs.Usages as usage
use Rattle.qvtr_types.specs.TypedUsages.{NamesThose}
use Rattle.script_scopes.proofs.UsageLemmas.{all_instances_alike}
use Rattle.script_scopes.proofs.MemberLemmas.{from_filter_map, to_filter_map}
use Rattle.ocl_types.proofs.ConformanceLaws.{in_either, later_in}
use Rattle.mof_metamodel.proofs.Facts.{only_one}
use Rattle.qvtr_types.proofs.NamedVariables.{AreSame, is_variable, alone, no_names, beside, by_parts}
use Rattle.qvtr_types.proofs.NamedForms.{variable_named, outside_named, called_parts, CallsMore, property_calls, operation_calls, class_operation_calls, collection_operation_calls, iterator_calls}

-- ---- usages, layer by layer

expr_uses : (d : of.Expr-F Args Expr Postfix Infix) → expr_usages (roll-Expr d)
    ≡ expr_step (map-Expr Args Expr Postfix Infix ArgsUsages ExprUsages CallUsages (List Usage) args_usages expr_usages postfix_usages infix_usages d)
expr_uses d = fold-roll-Expr ArgsUsages ExprUsages CallUsages (List Usage) args_step expr_step postfix_step infix_step d

link_uses : (d : of.Infix-F Args Expr Postfix Infix) → infix_usages (roll-Infix d)
    ≡ infix_step (map-Infix Args Expr Postfix Infix ArgsUsages ExprUsages CallUsages (List Usage) args_usages expr_usages postfix_usages infix_usages d)
link_uses d = fold-roll-Infix ArgsUsages ExprUsages CallUsages (List Usage) args_step expr_step postfix_step infix_step d

call_uses : (d : of.Postfix-F Args Expr Postfix Infix) → postfix_usages (roll-Postfix d)
    ≡ postfix_step (map-Postfix Args Expr Postfix Infix ArgsUsages ExprUsages CallUsages (List Usage) args_usages expr_usages postfix_usages infix_usages d)
call_uses d = fold-roll-Postfix ArgsUsages ExprUsages CallUsages (List Usage) args_step expr_step postfix_step infix_step d

args_use : (d : of.Args-F Args Expr Postfix Infix) → args_usages (roll-Args d)
    ≡ args_step (map-Args Args Expr Postfix Infix ArgsUsages ExprUsages CallUsages (List Usage) args_usages expr_usages postfix_usages infix_usages d)
args_use d = fold-roll-Args ArgsUsages ExprUsages CallUsages (List Usage) args_step expr_step postfix_step infix_step d

-- ---- what is shown of each kind of tree

-- an expression is the path of a class as the typing has it, or uses nothing as one
pub data IsPathAlike (path : Option Path) (u : ExprUsages) : Type 0 where
  alike : is_some path ≡ u.is_class → IsPathAlike path u
  nothing : path ≡ None → u.usages ≡ [] → IsPathAlike path u

pub record ExprNames (j : Judgment) (u : ExprUsages) : Type 0 where
  part : (env : Environment) (p : TypedPart) → (j.part env).has p → AreSame env u.usages (tree_of p ∷ [])
  path : IsPathAlike j.path u

pub LinkNames : LinkJudgment → List Usage → Type 0
LinkNames l us = (env : Environment) (p : TypedPart) → (l.right env).has p → AreSame env us (tree_of p ∷ [])

pub record CallNames (k : CallJudgment) (u : CallUsages) : Type 0 where
  after : (env : Environment) (c d : CallsSoFar) (before : List Usage) → AreSame env before (called_parts c) → (k.after env c).has d → AreSame env (before ++ u.usages) (called_parts d)
  alike : k.is_extent ≡ u.is_extent
  bare : u.is_extent ≡ true → u.usages ≡ []

pub record ArgsNames (a : ArgsJudgment) (u : ArgsUsages) : Type 0 where
  parts : (env : Environment) (ps : List TypedPart) → (a.parts env).has ps → AreSame env u.usages (trees_of ps)
  alike : a.is_empty ≡ u.is_empty
  bare : u.is_empty ≡ true → u.usages ≡ []
  class : (path : Path) → a.class ≡ Some path → u.usages ≡ []

pub NamedExpr : Expr → Type 0
NamedExpr e = ExprNames (judgment e) (expr_usages e)

pub NamedLink : Infix → Type 0
NamedLink l = LinkNames (link_judgment l) (infix_usages l)

pub NamedCall : Postfix → Type 0
NamedCall k = CallNames (call_judgment k) (postfix_usages k)

pub NamedArgs : Args → Type 0
NamedArgs a = ArgsNames (args_judgment a) (args_usages a)

abbrev HeldArgs : Type 0
HeldArgs = (a : Args) × NamedArgs a

abbrev HeldExpr : Type 0
HeldExpr = (e : Expr) × NamedExpr e

abbrev HeldCall : Type 0
HeldCall = (k : Postfix) × NamedCall k

abbrev HeldLink : Type 0
HeldLink = (l : Infix) × NamedLink l

-- ---- lists

module _ (env : Environment) where
  abbrev Same : List Usage → List Typed → Type 0
  Same us ts = AreSame env us ts

  each_named : (vs : List HeldExpr) (ps : List TypedPart) → (each judgment env (map (λ v. v.0) vs)).has ps
      → Same (flat_map (λ (u : ExprUsages). u.usages) (map expr_usages (map (λ v. v.0) vs))) (trees_of ps)
  unfolding each NamedExpr
  each_named [] ps is = subst (λ qs. Same [] (trees_of qs)) (sym is) (no_names env)
  each_named (v ∷ vs) ps is = subst (λ qs. Same (flat_map (λ (u : ExprUsages). u.usages) (map expr_usages (map (λ w. w.0) (v ∷ vs)))) (trees_of qs)) (sym is.2)
      (beside env (expr_usages v.0).usages (flat_map (λ (u : ExprUsages). u.usages) (map expr_usages (map (λ w. w.0) vs))) (tree_of is.0.0 ∷ []) (trees_of is.0.1)
      (v.1.part env is.0.0 is.1.0) (each_named vs is.0.1 is.1.1))

  abbrev State : Type 0
  State = TypedPart × Chained

  -- the trees of a chain so far
  abbrev chained : State → List Typed
  chained s = tree_of s.0 ∷ map (λ l. l.right) s.1.links

  links_named : (vs : List HeldLink) (us : List Usage) (before : Judged State) → ((s : State) → before.has s → Same us (chained s)) → (s : State)
      → (linked link_judgment env before (map (λ v. v.0) vs)).has s → Same (us ++ flat_map (λ (r : List Usage). r) (map infix_usages (map (λ v. v.0) vs))) (chained s)
  unfolding linked NamedLink LinkNames
  links_named [] us before holds s is = subst (λ ws. Same ws (chained s)) (sym (append-nil us)) (holds s is)
  links_named (v ∷ vs) us before holds s is =
      let l : LinkJudgment = link_judgment v.0 in
      let own : List Usage = infix_usages v.0 in
      let rest : List Usage = flat_map (λ (r : List Usage). r) (map infix_usages (map (λ w. w.0) vs)) in
      subst (λ ws. Same ws (chained s)) (append_assoc us own rest)
      (links_named vs (us ++ own) (taking {Y = State} (both before (l.right env)) (λ p. taking (linked_judged env.metas p.0.1 l.operator p.1) (λ c. gives (p.0.0, c)))) one s is)
    where
      one : (s : State) → (taking {Y = State} (both before ((link_judgment v.0).right env)) (λ p. taking (linked_judged env.metas p.0.1 (link_judgment v.0).operator p.1) (λ c. gives (p.0.0, c)))).has s
          → Same (us ++ infix_usages v.0) (chained s)
      one s h =
          let c : Chained = h.0.0.1 in
          let link : TypedInfix = record { operator = (link_judgment v.0).operator; right = tree_of h.0.1; ty = h.2.1.0 } in
          let same : Same (us ++ infix_usages v.0) (chained h.0.0 ++ tree_of h.0.1 ∷ []) =
          beside env us (infix_usages v.0) (chained h.0.0) (tree_of h.0.1 ∷ []) (holds h.0.0 h.1.0) (v.1 env h.0.1 h.1.1) in
          let grown : map (λ (l : TypedInfix). l.right) (c.links ++ link ∷ []) ≡ map (λ l. l.right) c.links ++ tree_of h.0.1 ∷ [] = map-append (λ (l : TypedInfix). l.right) c.links (link ∷ []) in
          subst (λ (t : State). Same (us ++ infix_usages v.0) (chained t)) (sym h.2.2)
          (subst (λ ts. Same (us ++ infix_usages v.0) (tree_of h.0.0.0 ∷ map (λ (l : TypedInfix). l.right) ts)) (sym (ap (λ (x : Chained). x.links) h.2.1.2))
          (subst (λ ts. Same (us ++ infix_usages v.0) (tree_of h.0.0.0 ∷ ts)) (sym grown) same))

  -- nothing but the first part
  begun_named : (first : Environment → Judged TypedPart) (us : List Usage) → ((p : TypedPart) → (first env).has p → Same us (tree_of p ∷ [])) → (s : State)
      → (taking {Y = State} (first env) (λ p. gives (p, unchained p))).has s → Same us (chained s)
  begun_named first us part s h = subst (λ (t : State). Same us (chained t)) (sym h.2) (part h.0 h.1)

  chain_named : (s : State) (us : List Usage) → Same us (chained s) → Same us (tree_of (chain_part s.0 s.1) ∷ [])
  unfolding chain_part
  chain_named s us same = by_parts env us _ (nodes.Chain (tree_of s.0) s.1.links) (layers.Chain (tree_of s.0) s.1.links)
      (ap out-Node (sym (nodes.rolls-Chain (tree_of s.0) s.1.links)) ∙ out-roll-Node (layers.Chain (tree_of s.0) s.1.links)) refl same

  -- ---- calls

  abbrev call_uses_of : List HeldCall → List Usage
  call_uses_of vs = flat_map (λ (u : CallUsages). u.usages) (map postfix_usages (map (λ v. v.0) vs))

  calls_named : (vs : List HeldCall) (c d : CallsSoFar) (before : List Usage) → Same before (called_parts c) → (called call_judgment env c (map (λ v. v.0) vs)).has d
      → Same (before ++ call_uses_of vs) (called_parts d)
  unfolding called NamedCall
  calls_named [] c d before same is = subst (λ e. Same (before ++ []) (called_parts e)) (sym is) (subst (λ us. Same us (called_parts c)) (sym (append-nil before)) same)
  calls_named (v ∷ vs) c d before same is =
      subst (λ us. Same us (called_parts d)) (append_assoc before (postfix_usages v.0).usages (call_uses_of vs))
      (calls_named vs is.0 d (before ++ (postfix_usages v.0).usages) (v.1.after env c is.0 before same is.1) is.2)

  whole_named : (p : TypedPart) (c : CallsSoFar) (us ws : List Usage) → Same us (tree_of p ∷ []) → Same ws (called_parts c) → Same (us ++ ws) (tree_of (called_whole p c) ∷ [])
  unfolding called_whole called_parts
  whole_named p c us ws part same = by_parts env (us ++ ws) c.ty (nodes.Calls (tree_of p) c.calls) (layers.Calls (tree_of p) c.calls)
      (ap out-Node (sym (nodes.rolls-Calls (tree_of p) c.calls)) ∙ out-roll-Node (layers.Calls (tree_of p) c.calls)) refl
      (beside env us ws (tree_of p ∷ []) (flat_map parts_of_call c.calls) part same)

  called_part_named : (vs : List HeldCall) (p q : TypedPart) (us : List Usage) → Same us (tree_of p ∷ []) → (called_part_judged call_judgment env p (map (λ v. v.0) vs)).has q
      → Same (us ++ call_uses_of vs) (tree_of q ∷ [])
  unfolding called_parts
  called_part_named [] p q us part is = subst (λ ws. Same ws (tree_of q ∷ [])) (sym (append-nil us)) (subst (λ r. Same us (tree_of r ∷ [])) (sym is) part)
  called_part_named (v ∷ vs) p q us part is =
      subst (λ r. Same (us ++ call_uses_of (v ∷ vs)) (tree_of r ∷ [])) (sym is.2)
      (whole_named p is.0 us (call_uses_of (v ∷ vs)) part (calls_named (v ∷ vs) (uncalled p) is.0 [] (no_names env) is.1))

  extent_named : (path : Path) (p : TypedPart) → (extent_judged env path).has p → Same [] (tree_of p ∷ [])
  extent_named path p is =
      let class = finds_has (named_class env (names_of path)) _ _ p is in
      let model = finds_has (environments.only_model env.models class.0.0) _ _ p class.2 in
      subst (λ q. Same [] (tree_of q ∷ [])) (sym model.2)
      (by_parts env [] _ (nodes.Extent model.0 class.0.1) (layers.Extent model.0 class.0.1)
      (ap out-Node (sym (nodes.rolls-Extent model.0 class.0.1)) ∙ out-roll-Node (layers.Extent model.0 class.0.1)) refl (no_names env))

  -- a part and the calls behind it, one of which may make it an extent
  behind_named : (j : Judgment) (u : ExprUsages) → ExprNames j u → (vs : List HeldCall) (q : TypedPart) → (calls_judged call_judgment env j (map (λ v. v.0) vs)).has q
      → Same (calls_usages u (map postfix_usages (map (λ v. v.0) vs))) (tree_of q ∷ [])
  unfolding NamedCall
  behind_named j u names [] q is = subst (λ us. Same us (tree_of q ∷ [])) (sym (append-nil u.usages)) (names.part env q is)
  behind_named j u names (v ∷ vs) q is = by (call_judgment v.0).is_extent (v.1.alike) j.path refl is
    where
      k : CallUsages
      k = postfix_usages v.0

      rest : List Usage
      rest = call_uses_of (v ∷ vs)

      plain : (q : TypedPart) → (first_judged call_judgment env (j.part env) v.0 (map (λ v. v.0) vs) None).has q → Same (u.usages ++ rest) (tree_of q ∷ [])
      plain q h = called_part_named (v ∷ vs) h.0 q u.usages (names.part env h.0 h.1) h.2

      extent : (path : Path) → k.is_extent ≡ true → (first_judged call_judgment env (j.part env) v.0 (map (λ v. v.0) vs) (Some path)).has q → Same rest (tree_of q ∷ [])
      extent path is h = subst (λ us. Same (us ++ call_uses_of vs) (tree_of q ∷ [])) (sym (v.1.bare is)) (called_part_named vs h.0 q [] (extent_named path h.0 h.1) h.2)

      by : (b : Bool) → b ≡ k.is_extent → (o : Option Path) → j.path ≡ o → (first_judged call_judgment env (j.part env) v.0 (map (λ v. v.0) vs) (path_of_extent o b)).has q
          → Same ((if u.is_class && k.is_extent then [] else u.usages) ++ rest) (tree_of q ∷ [])
      by false e o at h = subst (λ (c : Bool). Same ((if u.is_class && c then [] else u.usages) ++ rest) (tree_of q ∷ [])) e (none u.is_class (plain q h))
        where
          none : (c : Bool) → Same (u.usages ++ rest) (tree_of q ∷ []) → Same ((if c && false then [] else u.usages) ++ rest) (tree_of q ∷ [])
          none true h = h
          none false h = h
      by true e (Some path) at h = by_class names.path
        where
          by_class : IsPathAlike j.path u → Same ((if u.is_class && k.is_extent then [] else u.usages) ++ rest) (tree_of q ∷ [])
          by_class (IsPathAlike.alike same) = subst (λ (c : Bool). Same ((if c && k.is_extent then [] else u.usages) ++ rest) (tree_of q ∷ [])) (sym (ap is_some at) ∙ same)
              (subst (λ (c : Bool). Same ((if c then [] else u.usages) ++ rest) (tree_of q ∷ [])) e (extent path (sym e) h))
          by_class (IsPathAlike.nothing none uses) = absurd (none-some path (sym none ∙ at))
      by true e None at h = by_class names.path
        where
          by_class : IsPathAlike j.path u → Same ((if u.is_class && k.is_extent then [] else u.usages) ++ rest) (tree_of q ∷ [])
          by_class (IsPathAlike.alike same) = subst (λ (c : Bool). Same ((if c && k.is_extent then [] else u.usages) ++ rest) (tree_of q ∷ [])) (sym (ap is_some at) ∙ same) (plain q h)
          by_class (IsPathAlike.nothing none uses) = either (u.is_class && k.is_extent)
            where
              either : (c : Bool) → Same ((if c then [] else u.usages) ++ rest) (tree_of q ∷ [])
              either true = subst (λ us. Same (us ++ rest) (tree_of q ∷ [])) uses (plain q h)
              either false = plain q h

  -- ---- what stands between parentheses

  pub arguments_rest : (types : List Ty) (args : List TypedPart) (rest : Judged TypedPart) (q : TypedPart) → (arguments_judged env.metas types args rest).has q → rest.has q
  arguments_rest [] args rest q is = is
  arguments_rest (ty ∷ more) [] rest q is = is
  arguments_rest (ty ∷ more) (p ∷ ps) rest q is = arguments_rest more ps rest q is.1

  query_named : (name : List ℕ) (us : List Usage) (args : List TypedPart) (q : TypedPart) → Same us (trees_of args) → (query_judged env name args).has q
      → Same (usages_of.Call name ∷ us) (tree_of q ∷ [])
  query_named name us args q same is =
      let e = arguments_rest is.0.1.params args _ q is.2.1 in
      subst (λ r. Same (usages_of.Call name ∷ us) (tree_of r ∷ [])) (sym e)
      (by_parts env (usages_of.Call name ∷ us) _ (nodes.Query is.0.0 (trees_of args)) (layers.Query is.0.0 (trees_of args))
      (ap out-Node (sym (nodes.rolls-Query is.0.0 (trees_of args))) ∙ out-roll-Node (layers.Query is.0.0 (trees_of args))) refl (behind_call name us (trees_of args) same))
    where
      variable_call : (n m : List ℕ) → usages_of.Call n ≡ usages_of.Variable m → ⊥
      variable_call n m same = none-some m (ap variable_in same)

      behind_call : (n : List ℕ) (ws : List Usage) (ts : List Typed) → Same ws ts → Same (usages_of.Call n ∷ ws) ts
      behind_call n ws ts names = record {
        listed = λ m c. elim (in_either (usages_of.Call n) (usages_of.Variable m) ws c) [
          | inl same ↦ absurd (variable_call n m same)
          | inr later ↦ names.listed m later
        ];
        named = λ number within h. let x = names.named number within h in (x.0, x.1, later_in (usages_of.Call n) (usages_of.Variable x.0) ws x.2);
      }

  -- what was called before and one call more
  more_named : (c d : CallsSoFar) (before us : List Usage) (ts : List Typed) → Same before (called_parts c) → Same us ts → CallsMore c ts d → Same (before ++ us) (called_parts d)
  unfolding CallsMore
  more_named c d before us ts one other more = subst (Same (before ++ us)) (sym more) (beside env before us (called_parts c) ts one other)

  nothing_more : (c d : CallsSoFar) (before us : List Usage) → us ≡ [] → Same before (called_parts c) → CallsMore c [] d → Same (before ++ us) (called_parts d)
  nothing_more c d before us none one more = subst (λ ws. Same (before ++ ws) (called_parts d)) (sym none) (more_named c d before [] [] one (no_names env) more)

  dot_named : (name : List ℕ) (a : ArgsJudgment) (u : ArgsUsages) → ArgsNames a u → (o : Option Path) → a.class ≡ o → (c d : CallsSoFar) (before : List Usage) → Same before (called_parts c)
      → (dot_args env name c a o).has d → Same (before ++ u.usages) (called_parts d)
  dot_named name a u names None at c d before same h = more_named c d before u.usages (trees_of h.0) same (names.parts env h.0 h.1) (operation_calls env.metas name c d h.0 h.2)
  dot_named name a u names (Some path) at c d before same h = nothing_more c d before u.usages (names.class path at) same (class_operation_calls env name path c d h)

  arrow_named : (name : List ℕ) (a : ArgsJudgment) (u : ArgsUsages) → ArgsNames a u → (o : Option Path) → (c d : CallsSoFar) (before : List Usage) → Same before (called_parts c)
      → (arrow_args env name c a o).has d → Same (before ++ u.usages) (called_parts d)
  arrow_named name a u names None c d before same h = more_named c d before u.usages (trees_of h.0) same (names.parts env h.0 h.1) (collection_operation_calls env.metas name c d h.0 h.2)
  arrow_named name a u names (Some path) c d before same h = absurd h

  query_args_named : (name : List ℕ) (a : ArgsJudgment) (u : ArgsUsages) → ArgsNames a u → (o : Option Path) (q : TypedPart) → (query_args env name a o).has q
      → Same (usages_of.Call name ∷ u.usages) (tree_of q ∷ [])
  query_args_named name a u names None q h = query_named name u.usages h.0 q (names.parts env h.0 h.1) h.2
  query_args_named name a u names (Some path) q h = absurd h

  -- ---- leaves

  leaf_named : (p : TypedPart) (ty : Ty) (node : Node) (d : layers.Node-F Call Node Typed TypedInfix TypedPostfix) → p ≡ plain_part ty node → out-Node node ≡ d → (node_parts d ≡ []) → is_variable d ≡ false
      → Same [] (tree_of p ∷ [])
  leaf_named p ty node d is out none other = subst (λ q. Same [] (tree_of q ∷ [])) (sym is) (by_parts env [] ty node d out other (subst (Same []) (sym none) (no_names env)))

  literal_named : (names : List (List ℕ)) (p : TypedPart) → (literal_judged env names).has p → Same [] (tree_of p ∷ [])
  literal_named names p is =
      let l = finds_has (named_literal env names) _ _ p is in
      leaf_named p _ (nodes.EnumLiteral l.0.0 l.0.1 l.0.2) (layers.EnumLiteral l.0.0 l.0.1 l.0.2) l.2
      (ap out-Node (sym (nodes.rolls-EnumLiteral l.0.0 l.0.1 l.0.2)) ∙ out-roll-Node (layers.EnumLiteral l.0.0 l.0.1 l.0.2)) refl refl

  path_named : (names : List Name) (p : TypedPart) → (names_judged env (texts_of names)).has p → Same (named_usages names) (tree_of p ∷ [])
  path_named [] p is = literal_named [] p is
  path_named (n ∷ []) p is = variable_named env n.text p is
  path_named (n ∷ m ∷ ns) p is = literal_named (texts_of (n ∷ m ∷ ns)) p is

path_alike : (path : Path) (names : List Name) → IsPathAlike (short_path path (texts_of names)) (record { usages = named_usages names; is_class = nat_le (length names) 2 })
path_alike path [] = IsPathAlike.nothing refl refl
path_alike path (a ∷ []) = IsPathAlike.alike refl
path_alike path (a ∷ b ∷ []) = IsPathAlike.alike refl
path_alike path (a ∷ b ∷ c ∷ names) = IsPathAlike.alike (sym (lt-leb (length (a ∷ b ∷ c ∷ names)) 2 (omega arith)))

-- ---- one layer of each kind of tree

trees_of_expr : of.Expr-F HeldArgs HeldExpr HeldCall HeldLink → of.Expr-F Args Expr Postfix Infix
trees_of_expr y = map-Expr HeldArgs HeldExpr HeldCall HeldLink Args Expr Postfix Infix (λ e. e.0) (λ e. e.0) (λ e. e.0) (λ e. e.0) y

expr_held : (d : of.Expr-F Args Expr Postfix Infix) → ExprNames (expr_rule args_judgment judgment call_judgment link_judgment d)
    (expr_step (map-Expr Args Expr Postfix Infix ArgsUsages ExprUsages CallUsages (List Usage) args_usages expr_usages postfix_usages infix_usages d)) → NamedExpr (roll-Expr d)
unfolding NamedExpr
expr_held d holds = subst (λ (j : Judgment). ExprNames j (expr_usages (roll-Expr d))) (sym (expr_unrolled d)) (subst (ExprNames (expr_rule args_judgment judgment call_judgment link_judgment d)) (sym (expr_uses d)) holds)

link_held : (d : of.Infix-F Args Expr Postfix Infix) → LinkNames (link_rule_of args_judgment judgment call_judgment link_judgment d)
    (infix_step (map-Infix Args Expr Postfix Infix ArgsUsages ExprUsages CallUsages (List Usage) args_usages expr_usages postfix_usages infix_usages d)) → NamedLink (roll-Infix d)
unfolding NamedLink
link_held d holds = subst (λ (j : LinkJudgment). LinkNames j (infix_usages (roll-Infix d))) (sym (link_unrolled d)) (subst (LinkNames (link_rule_of args_judgment judgment call_judgment link_judgment d)) (sym (link_uses d)) holds)

call_held : (d : of.Postfix-F Args Expr Postfix Infix) → CallNames (call_rule args_judgment judgment call_judgment link_judgment d)
    (postfix_step (map-Postfix Args Expr Postfix Infix ArgsUsages ExprUsages CallUsages (List Usage) args_usages expr_usages postfix_usages infix_usages d)) → NamedCall (roll-Postfix d)
unfolding NamedCall
call_held d holds = subst (λ (j : CallJudgment). CallNames j (postfix_usages (roll-Postfix d))) (sym (call_unrolled d)) (subst (CallNames (call_rule args_judgment judgment call_judgment link_judgment d)) (sym (call_uses d)) holds)

args_held : (d : of.Args-F Args Expr Postfix Infix) → ArgsNames (args_rule args_judgment judgment call_judgment link_judgment d)
    (args_step (map-Args Args Expr Postfix Infix ArgsUsages ExprUsages CallUsages (List Usage) args_usages expr_usages postfix_usages infix_usages d)) → NamedArgs (roll-Args d)
unfolding NamedArgs
args_held d holds = subst (λ (j : ArgsJudgment). ArgsNames j (args_usages (roll-Args d))) (sym (args_unrolled d)) (subst (ArgsNames (args_rule args_judgment judgment call_judgment link_judgment d)) (sym (args_use d)) holds)

args_layer : (y : of.Args-F HeldArgs HeldExpr HeldCall HeldLink)
    → NamedArgs (roll-Args (map-Args HeldArgs HeldExpr HeldCall HeldLink Args Expr Postfix Infix (λ e. e.0) (λ e. e.0) (λ e. e.0) (λ e. e.0) y))
args_layer (of.Values []) = args_held (of.Values []) (record {
  parts = λ env ps h. each_named env [] ps h;
  alike = refl;
  bare = λ is. refl;
  class = λ path is. refl;
})
args_layer (of.Values (v ∷ vs)) = args_held (of.Values (map (λ w. w.0) (v ∷ vs))) (record {
  parts = λ env ps h. each_named env (v ∷ vs) ps h;
  alike = refl;
  bare = λ is. absurd (false≢true is);
  class = λ path is. absurd (none-some path is);
})
args_layer (of.Class path) = args_held (of.Class path) (record {
  parts = λ env ps h. subst (λ qs. AreSame env [] (trees_of qs)) (sym h) (no_names env);
  alike = refl;
  bare = λ is. refl;
  class = λ path is. refl;
})

call_layer : (y : of.Postfix-F HeldArgs HeldExpr HeldCall HeldLink)
    → NamedCall (roll-Postfix (map-Postfix HeldArgs HeldExpr HeldCall HeldLink Args Expr Postfix Infix (λ e. e.0) (λ e. e.0) (λ e. e.0) (λ e. e.0) y))
unfolding NamedArgs NamedExpr
call_layer (of.Property n) = call_held (of.Property n) (record {
  after = λ env c d before same h. nothing_more env c d before [] refl same (property_calls env.metas n.text c d h);
  alike = refl;
  bare = λ is. refl;
})
call_layer (of.Dot n a span) = call_held (of.Dot n a.0 span) (record {
  after = λ env c d before same h. dot_named env n.text (args_judgment a.0) (args_usages a.0) a.1 (args_judgment a.0).class refl c d before same h;
  alike = ap (λ b. is_all_instances n.text && b) a.1.alike ∙ ap (λ b. b && (args_usages a.0).is_empty) (all_instances_alike n.text);
  bare = λ is. a.1.bare (and_parts (usage.is_all_instances n.text) (args_usages a.0).is_empty is).1;
})
call_layer (of.Arrow n a span) = call_held (of.Arrow n a.0 span) (record {
  after = λ env c d before same h. arrow_named env n.text (args_judgment a.0) (args_usages a.0) a.1 (args_judgment a.0).class c d before same h;
  alike = refl;
  bare = λ is. absurd (false≢true is);
})
call_layer (of.Iterator n variable ty body span) = call_held (of.Iterator n variable ty body.0 span) (record {
  after = λ env c d before same h.
      more_named env c d before (without variable.text (expr_usages body.0).usages) (tree_of h.2.0 ∷ []) same
      (outside_named env variable.text h.0 h.1.0 (expr_usages body.0).usages (tree_of h.2.0 ∷ []) (body.1.part (with_variable env variable.text h.0) h.2.0 h.2.1))
      (iterator_calls env.metas n.text (length env.variables) c d h.2.0 h.2.2);
  alike = refl;
  bare = λ is. absurd (false≢true is);
})

link_layer : (y : of.Infix-F HeldArgs HeldExpr HeldCall HeldLink)
    → NamedLink (roll-Infix (map-Infix HeldArgs HeldExpr HeldCall HeldLink Args Expr Postfix Infix (λ e. e.0) (λ e. e.0) (λ e. e.0) (λ e. e.0) y))
unfolding NamedExpr LinkNames
link_layer y = link_held (map-Infix HeldArgs HeldExpr HeldCall HeldLink Args Expr Postfix Infix (λ e. e.0) (λ e. e.0) (λ e. e.0) (λ e. e.0) y) y.right.1.part

-- a node without parts, that uses nothing
bare_layer : (env : Environment) (p : TypedPart) (ty : Ty) (node : Node) (d : layers.Node-F Call Node Typed TypedInfix TypedPostfix) → p ≡ plain_part ty node → roll-Node d ≡ node → (node_parts d ≡ []) → is_variable d ≡ false
    → AreSame env [] (tree_of p ∷ [])
bare_layer env p ty node d is rolls none other = leaf_named env p ty node d is (ap out-Node (sym rolls) ∙ out-roll-Node d) none other

expr_layer : (y : of.Expr-F HeldArgs HeldExpr HeldCall HeldLink) → NamedExpr (roll-Expr (trees_of_expr y))
unfolding trees_of_expr NamedExpr NamedArgs NamedLink let_part
expr_layer (of.Let n ty value body span) = expr_held (of.Let n ty value.0 body.0 span) (record {
  part = λ env p h.
      let us = (expr_usages value.0).usages in
      let ws = (expr_usages body.0).usages in
      let v : TypedPart = h.0.1 in
      let b : TypedPart = h.2.2.0 in
      let inner : AreSame env (without n.text ws) (tree_of b ∷ []) = outside_named env n.text h.2.0 h.1.0.0 ws (tree_of b ∷ []) (body.1.part (with_variable env n.text h.2.0) b h.2.2.1) in
      let number : ℕ = length env.variables in
      subst (λ (q : TypedPart). AreSame env (us ++ without n.text ws) (tree_of q ∷ [])) (sym h.2.2.2)
      (by_parts env (us ++ without n.text ws) b.ty (nodes.Let number (tree_of v) (tree_of b)) (layers.Let number (tree_of v) (tree_of b))
      (ap out-Node (sym (nodes.rolls-Let number (tree_of v) (tree_of b))) ∙ out-roll-Node (layers.Let number (tree_of v) (tree_of b))) refl
      (beside env us (without n.text ws) (tree_of v ∷ []) (tree_of b ∷ []) (value.1.part env v h.1.1) inner));
  path = IsPathAlike.alike refl;
})
expr_layer (of.Chain first rest span) = expr_held (of.Chain first.0 (map (λ v. v.0) rest) span) (record {
  part = λ env p h.
      let us = (expr_usages first.0).usages in
      let ws = us ++ flat_map (λ (r : List Usage). r) (map infix_usages (map (λ v. v.0) rest)) in
      subst (λ (q : TypedPart). AreSame env ws (tree_of q ∷ [])) (sym h.2)
      (chain_named env h.0 ws (links_named env rest us (taking ((judgment first.0).part env) (λ p. gives (p, unchained p)))
      (begun_named env (judgment first.0).part us (first.1.part env)) h.0 h.1));
  path = IsPathAlike.alike refl;
})
expr_layer (of.Not operand span) = expr_held (of.Not operand.0 span) (record {
  part = λ env p h. subst (λ (q : TypedPart). AreSame env (expr_usages operand.0).usages (tree_of q ∷ [])) (sym h.2.1)
      (by_parts env (expr_usages operand.0).usages _ (nodes.Not (tree_of h.0)) (layers.Not (tree_of h.0))
      (ap out-Node (sym (nodes.rolls-Not (tree_of h.0))) ∙ out-roll-Node (layers.Not (tree_of h.0))) refl (operand.1.part env h.0 h.1));
  path = IsPathAlike.alike refl;
})
expr_layer (of.Negated operand span) = expr_held (of.Negated operand.0 span) (record {
  part = λ env p h. subst (λ (q : TypedPart). AreSame env (expr_usages operand.0).usages (tree_of q ∷ [])) (sym h.2.1)
      (by_parts env (expr_usages operand.0).usages _ (nodes.Negated (tree_of h.0)) (layers.Negated (tree_of h.0))
      (ap out-Node (sym (nodes.rolls-Negated (tree_of h.0))) ∙ out-roll-Node (layers.Negated (tree_of h.0))) refl (operand.1.part env h.0 h.1));
  path = IsPathAlike.alike refl;
})
expr_layer (of.Calls part rest span) = expr_held (of.Calls part.0 (map (λ v. v.0) rest) span) (record {
  part = λ env p h. behind_named env (judgment part.0) (expr_usages part.0) part.1 rest p h;
  path = IsPathAlike.alike refl;
})
expr_layer (of.Number value span) = expr_held (of.Number value span) (record {
  part = λ env p h. bare_layer env p _ _ (layers.Number value) h (nodes.rolls-Number value) refl refl;
  path = IsPathAlike.alike refl;
})
expr_layer (of.Str value span) = expr_held (of.Str value span) (record {
  part = λ env p h. bare_layer env p _ _ (layers.Str value) h (nodes.rolls-Str value) refl refl;
  path = IsPathAlike.alike refl;
})
expr_layer (of.Bool value span) = expr_held (of.Bool value span) (record {
  part = λ env p h. bare_layer env p _ _ (layers.Bool value) h (nodes.rolls-Bool value) refl refl;
  path = IsPathAlike.alike refl;
})
expr_layer (of.Null span) = expr_held (of.Null span) (record {
  part = λ env p h. bare_layer env p _ _ layers.Null h nodes.rolls-Null refl refl;
  path = IsPathAlike.alike refl;
})
expr_layer (of.Invalid span) = expr_held (of.Invalid span) (record {
  part = λ env p h. bare_layer env p _ _ layers.Invalid h nodes.rolls-Invalid refl refl;
  path = IsPathAlike.alike refl;
})
expr_layer (of.Parens inner span) = expr_held (of.Parens inner.0 span) (record { part = inner.1.part; path = IsPathAlike.alike refl })
expr_layer (of.If condition one other span) = expr_held (of.If condition.0 one.0 other.0 span) (record {
  part = λ env p h.
      let c : TypedPart = h.0.0 in
      let a : TypedPart = h.0.1.0 in
      let b : TypedPart = h.0.1.1 in
      let us = (expr_usages condition.0).usages in
      let vs = (expr_usages one.0).usages in
      let ws = (expr_usages other.0).usages in
      subst (λ (q : TypedPart). AreSame env (us ++ vs ++ ws) (tree_of q ∷ [])) (sym h.2.1.2)
      (by_parts env (us ++ vs ++ ws) _ (nodes.If (tree_of c) (tree_of a) (tree_of b)) (layers.If (tree_of c) (tree_of a) (tree_of b))
      (ap out-Node (sym (nodes.rolls-If (tree_of c) (tree_of a) (tree_of b))) ∙ out-roll-Node (layers.If (tree_of c) (tree_of a) (tree_of b))) refl
      (beside env (us ++ vs) ws (tree_of c ∷ tree_of a ∷ []) (tree_of b ∷ [])
      (beside env us vs (tree_of c ∷ []) (tree_of a ∷ []) (condition.1.part env c h.1.0) (one.1.part env a h.1.1.0)) (other.1.part env b h.1.1.1)));
  path = IsPathAlike.alike refl;
})
expr_layer (of.Coll kind elements span) = expr_held (of.Coll kind (map (λ v. v.0) elements) span) (record {
  part = λ env p h.
      let us = flat_map (λ (u : ExprUsages). u.usages) (map expr_usages (map (λ v. v.0) elements)) in
      subst (λ (q : TypedPart). AreSame env us (tree_of q ∷ [])) (sym h.2.2)
      (by_parts env us _ (nodes.Coll kind (trees_of h.0)) (layers.Coll kind (trees_of h.0))
      (ap out-Node (sym (nodes.rolls-Coll kind (trees_of h.0))) ∙ out-roll-Node (layers.Coll kind (trees_of h.0))) refl (each_named env elements h.0 h.1));
  path = IsPathAlike.alike refl;
})
expr_layer (of.Call n a span) = expr_held (of.Call n a.0 span) (record {
  part = λ env p h. query_args_named env n.text (args_judgment a.0) (args_usages a.0) a.1 (args_judgment a.0).class p h;
  path = IsPathAlike.alike refl;
})
expr_layer (of.Named path) = expr_held (of.Named path) (record { part = λ env p h. path_named env path.names p h; path = path_alike path path.names })

all_named : (e : Expr) → NamedExpr e
unfolding trees_of_expr
all_named = ind-Expr NamedArgs NamedExpr NamedCall NamedLink
    (λ x y is. subst (λ d. NamedArgs (roll-Args d)) is (args_layer y))
    (λ x y is. subst (λ d. NamedExpr (roll-Expr d)) is (expr_layer y))
    (λ x y is. subst (λ d. NamedCall (roll-Postfix d)) is (call_layer y))
    (λ x y is. subst (λ d. NamedLink (roll-Infix d)) is (link_layer y))

-- ---- the law

pub variables_told : (env : Environment) (e : Expr) (t : Typed) → HasTree env e t → NamesThose env (variables_in e) t
unfolding NamedExpr HasType
variables_told env e t (p, has, is) = subst (NamesThose env (variables_in e)) (sym is) (record {
  listed = λ name c.
      let u = from_filter_map variable_in (usages e) name c in
      let h = same.listed name (subst (Contains (usages e)) (variable_is u.0 name u.2) u.1) in
      (h.0, h.1, subst (λ x. Names x h.0) (sym (only_one (tree_of p) h.2.0 h.2.1)) h.2.2);
  named = λ number within names.
      let n = same.named number within (tree_of p, alone (tree_of p), names) in
      (n.0, n.1, to_filter_map variable_in (usages e) (usages_of.Variable n.0) n.0 n.2 refl);
})
  where
    same : AreSame env (usages e) (tree_of p ∷ [])
    same = (all_named e).part env p has

    variable_is : (u : Usage) (name : List ℕ) → variable_in u ≡ Some name → u ≡ usages_of.Variable name
    variable_is (usages_of.Variable n) name at = ap usages_of.Variable (same_Some n name at)
    variable_is (usages_of.Call n) name at = absurd (none-some name at)
