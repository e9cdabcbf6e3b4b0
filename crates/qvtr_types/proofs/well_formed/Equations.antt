-- Conjuncts `v = e` and their typed trees, and what conjuncts of each form name.
use Rattle.std.proofs.Common.{◌≡◌, ℕ, List, [], ◌∷◌, ◌++◌, Bool, false, refl, sym, ◌∙◌, ap, subst, arith, inl, inr, append-nil}
use Rattle.std.specs.Prelude.{Option, Some, None, Contains, ◌⊎◌}
use Rattle.std.specs.List.{flat_map, filter_map}
use Rattle.std.proofs.lemmas.Option.{same_Some, none-some}
use Rattle.std.proofs.lemmas.List.Folds.{flat_map-map}
use Rattle.std.proofs.lemmas.List.Elements.{Contains-append_right}
use Rattle.mof_metamodel.specs.declared.span.Span.{Span}
use Rattle.mof_metamodel.proofs.PropLemmas.{to_flat_map, from_flat_map}
use Rattle.qv_syntax.specs.declared.name.Name.{Name}
use Rattle.qv_syntax.specs.declared.ty.Ty.{Ty}
use Rattle.qv_syntax.specs.declared.ty.Ty.TheVariants as types
use Rattle.qv_syntax.specs.declared.expr.Expr.{Expr, out-Expr, roll-Expr, roll-out-Expr, map-Expr, ind-Expr, fold-roll-Expr}
use Rattle.qv_syntax.specs.declared.expr.Infix.{Infix, fold-roll-Infix}
use Rattle.qv_syntax.specs.declared.expr.Postfix.{Postfix}
use Rattle.qv_syntax.specs.declared.expr.Args.{Args, out-Args, roll-Args, roll-out-Args, fold-roll-Args}
use Rattle.qv_syntax.specs.declared.expr.Args.TheOpen as of
use Rattle.qv_syntax.specs.declared.operator.Operator.{Operator}
use Rattle.qv_syntax.specs.declared.operator.Operator.TheVariants as operators
use Rattle.qv_syntax.specs.declared.typed.Typed.{Typed}
use Rattle.qv_syntax.specs.declared.typed.Node.TheVariants as nodes
use Rattle.qv_syntax.specs.declared.typed.TypedInfix.{TypedInfix}
use Rattle.qv_syntax.specs.TypeRules.{AreComparable}
use Rattle.ocl_environments.specs.declared.part.TypedPart.{TypedPart}
use Rattle.ocl_environments.specs.declared.part.Chained.{Chained}
use Rattle.ocl_environments.specs.declared.variable.Variable.{Variable}
use Rattle.ocl_environments.specs.Environments.{Environment}
use Rattle.ocl_types.specs.TypeRules.{IsFirstNamed, linked_judged, names_judged}
use Rattle.ocl_types.specs.Judged.{Judged, gives, taking, both}
use Rattle.ocl_environments.specs.Parts.{tree_of}
use Rattle.ocl_environments.specs.Naming.{texts_of}
use Rattle.ocl_types.specs.TypingOperators.{unchained, and_linked, chain_part}
use Rattle.ocl_types.specs.HasType.{Judgment, LinkJudgment, linked, judgment, link_judgment, HasType}
use Rattle.ocl_types.proofs.JudgmentLaws.{expr_unrolled, link_unrolled}
use Rattle.script_scopes.specs.declared.usage.Usage.{Usage}
use Rattle.script_scopes.specs.declared.usage.Usage.TheVariants as usages_of
use Rattle.script_scopes.specs.Usages.{ExprUsages, CallUsages, ArgsUsages, variable_in, expr_step, infix_step, postfix_step, args_step, expr_usages, infix_usages, postfix_usages, args_usages, usages, variables_in}
use Rattle.script_scopes.specs.Conjuncts.{one_name, alone_step, name_alone, equal_to, variable_with, equation_in, equation_of, called_with, call_in, call_of, null_step, is_null}
use Rattle.script_scopes.proofs.MemberLemmas.{from_filter_map, to_filter_map}
use Rattle.ocl_types.proofs.ConformanceLaws.{in_either}

abbrev Layer : Type 0
Layer = of.Expr-F Args Expr Postfix Infix

-- ---- a variable alone

abbrev alone_by : Layer → Option (List ℕ)
alone_by (of.Parens inner span) = name_alone inner
alone_by (of.Calls inner [] span) = name_alone inner
alone_by (of.Named path) = one_name path.names
alone_by d = None

pub alone_of : (d : Layer) → name_alone (roll-Expr d) ≡ alone_by d
alone_of (of.Parens inner span) = fold-roll-Expr (Unit {0}) (Option (List ℕ)) (Unit {0}) (Unit {0}) (λ a. tt) alone_step (λ p. tt) (λ i. tt) (of.Parens inner span)
alone_of (of.Named path) = fold-roll-Expr (Unit {0}) (Option (List ℕ)) (Unit {0}) (Unit {0}) (λ a. tt) alone_step (λ p. tt) (λ i. tt) (of.Named path)
alone_of (of.Calls inner [] span) = fold-roll-Expr (Unit {0}) (Option (List ℕ)) (Unit {0}) (Unit {0}) (λ a. tt) alone_step (λ p. tt) (λ i. tt) (of.Calls inner [] span)
alone_of d = fold-roll-Expr (Unit {0}) (Option (List ℕ)) (Unit {0}) (Unit {0}) (λ a. tt) alone_step (λ p. tt) (λ i. tt) d

null_of : (d : Layer) → is_null (roll-Expr d) ≡ null_step (map-Expr Args Expr Postfix Infix (Unit {0}) Bool (Unit {0}) (Unit {0}) (λ a. tt) is_null (λ p. tt) (λ i. tt) d)
null_of d = fold-roll-Expr (Unit {0}) Bool (Unit {0}) (Unit {0}) (λ a. tt) null_step (λ p. tt) (λ i. tt) d

pub uses_of : (d : Layer) → expr_usages (roll-Expr d)
    ≡ expr_step (map-Expr Args Expr Postfix Infix ArgsUsages ExprUsages CallUsages (List Usage) args_usages expr_usages postfix_usages infix_usages d)
uses_of d = fold-roll-Expr ArgsUsages ExprUsages CallUsages (List Usage) args_step expr_step postfix_step infix_step d

-- a part that is the variable of this name
pub record IsVariablePart (env : Environment) (v : List ℕ) (p : TypedPart) : Type 0 where
  pub number : ℕ
  pub variable : Variable
  pub named : IsFirstNamed Variable env.variables v (number, variable)
  pub is : p ≡ record { ty = variable.ty; model = variable.model; node = nodes.Variable number }

pub record IsToldAlone (e : Expr) (v : List ℕ) : Type 0 where
  pub uses : usages e ≡ usages_of.Variable v ∷ []
  pub null : is_null e ≡ false
  pub typed : (env : Environment) (p : TypedPart) → HasType env e p → IsVariablePart env v p

ToldAlone : Expr → Type 0
ToldAlone e = (v : List ℕ) → name_alone e ≡ Some v → IsToldAlone e v

abbrev HeldExpr : Type 0
HeldExpr = (e : Expr) × ToldAlone e

abbrev HeldArgs : Type 0
HeldArgs = (a : Args) × Unit {0}

abbrev HeldCall : Type 0
HeldCall = (k : Postfix) × Unit {0}

abbrev HeldLink : Type 0
HeldLink = (l : Infix) × Unit {0}

abbrev plain : of.Expr-F HeldArgs HeldExpr HeldCall HeldLink → Layer
plain y = map-Expr HeldArgs HeldExpr HeldCall HeldLink Args Expr Postfix Infix (λ e. e.0) (λ e. e.0) (λ e. e.0) (λ e. e.0) y

named_alone : (names : List Name) (v : List ℕ) → one_name names ≡ Some v → (n : Name) × (names ≡ n ∷ []) × (n.text ≡ v)
named_alone [] v is = absurd (none-some v is)
named_alone (n ∷ []) v is = (n, refl, same_Some n.text v is)
named_alone (n ∷ m ∷ names) v is = absurd (none-some v is)

alone_layer : (y : of.Expr-F HeldArgs HeldExpr HeldCall HeldLink) → ToldAlone (roll-Expr (plain y))
unfolding ToldAlone HasType
alone_layer (of.Parens inner span) v is =
    let told : IsToldAlone inner.0 v = inner.1 v (sym (alone_of (of.Parens inner.0 span)) ∙ is) in
    record {
      uses = ap (λ (u : ExprUsages). u.usages) (uses_of (of.Parens inner.0 span)) ∙ told.uses;
      null = null_of (of.Parens inner.0 span) ∙ told.null;
      typed = λ env p has. told.typed env p (subst (λ (j : Judgment). (j.part env).has p) (expr_unrolled (of.Parens inner.0 span)) has);
    }
alone_layer (of.Calls inner [] span) v is =
    let told : IsToldAlone inner.0 v = inner.1 v (sym (alone_of (of.Calls inner.0 [] span)) ∙ is) in
    record {
      uses = ap (λ (u : ExprUsages). u.usages) (uses_of (of.Calls inner.0 [] span)) ∙ append-nil (usages inner.0) ∙ told.uses;
      null = null_of (of.Calls inner.0 [] span);
      typed = λ env p has. told.typed env p (subst (λ (j : Judgment). (j.part env).has p) (expr_unrolled (of.Calls inner.0 [] span)) has);
    }
alone_layer (of.Named path) v is =
    let named = named_alone path.names v (sym (alone_of (of.Named path)) ∙ is) in
    record {
      uses = ap (λ (u : ExprUsages). u.usages) (uses_of (of.Named path)) ∙ ap (λ (ns : List Name). (expr_step (of.Named (record path { names = ns }))).usages) named.1 ∙ ap (λ (n : List ℕ). usages_of.Variable n ∷ []) named.2;
      null = null_of (of.Named path);
      typed = λ env p has.
          let there : (names_judged env (texts_of path.names)).has p = subst (λ (j : Judgment). (j.part env).has p) (expr_unrolled (of.Named path)) has in
          let here : (names_judged env (v ∷ [])).has p = subst (λ (ns : List (List ℕ)). (names_judged env ns).has p) (ap texts_of named.1 ∙ ap (λ (n : List ℕ). n ∷ []) named.2) there in
          record { number = here.0.0; variable = here.0.1; named = here.1; is = here.2 };
    }
alone_layer y v is = absurd (none-some v (sym (alone_of (plain y)) ∙ is))

pub told_alone : (e : Expr) (v : List ℕ) → name_alone e ≡ Some v → IsToldAlone e v
unfolding ToldAlone
told_alone = ind-Expr (λ a. Unit {0}) ToldAlone (λ k. Unit {0}) (λ l. Unit {0})
    (λ x y is. tt) (λ x y is. subst (λ d. ToldAlone (roll-Expr d)) is (alone_layer y)) (λ x y is. tt) (λ x y is. tt)

-- ---- equations

-- the form of a conjunct `v = e`
pub record IsEquationForm (c : Expr) (v : List ℕ) (e : Expr) : Type 0 where
  pub first : Expr
  pub link : Infix
  pub span : Span
  pub is : roll-Expr (of.Chain first (link ∷ []) span) ≡ c
  pub subject : name_alone first ≡ Some v
  pub equal : link.operator ≡ operators.Equal
  pub right : link.right ≡ e

pub equation_form : (c : Expr) (v : List ℕ) (e : Expr) → equation_of c ≡ Some (v, e) → IsEquationForm c v e
equation_form c v e is = by (out-Expr c) (roll-out-Expr c) is
  where
    with_link : (first : Expr) (l : Infix) (span : Span) → roll-Expr (of.Chain first (l ∷ []) span) ≡ c → (n : Option (List ℕ)) → name_alone first ≡ n → (o : Operator) → l.operator ≡ o
        → variable_with n (equal_to o l.right) ≡ Some (v, e) → IsEquationForm c v e
    with_link first l span rolls (Some n) named operators.Equal at h =
        let same : (n, l.right) ≡ (v, e) = same_Some (n, l.right) (v, e) h in
        record { first = first; link = l; span = span; is = rolls; subject = named ∙ ap (λ (p : List ℕ × Expr). Some p.0) same; equal = at; right = ap (λ (p : List ℕ × Expr). p.1) same }
    with_link first l span rolls (Some n) named o at h = absurd (none-some (v, e) h)
    with_link first l span rolls None named o at h = absurd (none-some (v, e) h)

    without : (n : Option (List ℕ)) → variable_with n None ≡ Some (v, e) → ⊥
    without None h = none-some (v, e) h
    without (Some n) h = none-some (v, e) h

    by : (d : Layer) → roll-Expr d ≡ c → equation_in d ≡ Some (v, e) → IsEquationForm c v e
    by (of.Chain first (l ∷ []) span) rolls h = with_link first l span rolls (name_alone first) refl l.operator refl h
    by (of.Chain first [] span) rolls h = absurd (without (name_alone first) h)
    by (of.Chain first (l ∷ k ∷ more) span) rolls h = absurd (without (name_alone first) h)
    by d rolls h = absurd (none-some (v, e) h)

-- `= e` behind a part
abbrev pub equals : Typed → Ty → List TypedInfix
equals e link = record { operator = operators.Equal; right = e; ty = link } ∷ []

-- what the typed tree of an equation is
pub record IsEquationTold (env : Environment) (v : List ℕ) (e : Expr) (p : TypedPart) : Type 0 where
  pub number : ℕ
  pub variable : Variable
  pub named : IsFirstNamed Variable env.variables v (number, variable)
  pub right : TypedPart
  pub has : HasType env e right
  pub compared : AreComparable env.metas variable.ty right.ty
  pub tree : tree_of p ≡ record { ty = types.Bool; node = nodes.Chain (record { ty = variable.ty; node = nodes.Variable number }) (equals (tree_of right) types.Bool) }

module _ (env : Environment) where
  abbrev State : Type 0
  State = TypedPart × Chained

  abbrev begun : Expr → Judged State
  begun first = taking ((judgment first).part env) (λ p. gives (p, unchained p))

  abbrev joined : Expr → (Environment → Judged TypedPart) → Operator → Judged State
  joined first right operator = taking (both (begun first) (right env)) (λ p. taking (linked_judged env.metas p.0.1 operator p.1) (λ c. gives (p.0.0, c)))

  pub equation_told : (c : Expr) (v : List ℕ) (e : Expr) → equation_of c ≡ Some (v, e) → (p : TypedPart) → HasType env c p → IsEquationTold env v e p
  unfolding HasType linked chain_part
  equation_told c v e is p has =
      let form = equation_form c v e is in
      let whole : (taking (linked link_judgment env (begun form.first) (form.link ∷ [])) (λ (s : State). gives (chain_part s.0 s.1))).has p =
      subst (λ (j : Judgment). (j.part env).has p) (expr_unrolled (of.Chain form.first (form.link ∷ []) form.span)) (subst (λ (x : Expr). HasType env x p) (sym form.is) has) in
      let here : (joined form.first (judgment e).part operators.Equal).has whole.0 =
      subst (λ (x : Expr). (joined form.first (judgment x).part operators.Equal).has whole.0) form.right
      (subst (λ (o : Operator). (joined form.first (judgment form.link.right).part o).has whole.0) form.equal
      (subst (λ (j : LinkJudgment). (joined form.first j.right j.operator).has whole.0) (link_unrolled (record { operator = form.link.operator; right = form.link.right })) whole.1)) in
      let a : TypedPart = here.1.0.0 in
      let first = (told_alone form.first v form.subject).typed env a here.1.0.1 in
      let b : TypedPart = here.0.1 in
      let start : here.0.0 ≡ (a, unchained a) = here.1.0.2 in
      let linked_to : here.2.0 ≡ and_linked here.0.0.1 operators.Equal b here.2.1.0 = here.2.1.2 in
      let bool : here.2.1.0 ≡ types.Bool = here.2.1.1.1 in
      let variable = first.variable in
      let left : a.ty ≡ variable.ty = ap (λ (q : TypedPart). q.ty) first.is in
      let chain : here.2.0 ≡ and_linked (unchained a) operators.Equal b types.Bool =
      linked_to ∙ ap (λ (s : State). and_linked s.1 operators.Equal b here.2.1.0) start ∙ ap (λ (t : Ty). and_linked (unchained a) operators.Equal b t) bool in
      let state : whole.0 ≡ (a, and_linked (unchained a) operators.Equal b types.Bool) =
      here.2.2 ∙ ap (λ (s : State). (s.0, here.2.0)) start ∙ ap (λ (k : Chained). (a, k)) chain in
      record {
        number = first.number;
        variable = variable;
        named = first.named;
        right = b;
        has = here.1.1;
        compared = subst (λ (t : Ty). AreComparable env.metas t b.ty) (ap (λ (s : State). s.1.ty) start ∙ left) here.2.1.1.0;
        tree = ap tree_of (whole.2 ∙ ap (λ (s : State). chain_part s.0 s.1) state)
            ∙ ap (λ (t : Typed). record { ty = types.Bool; node = nodes.Chain t (equals (tree_of b) types.Bool) }) (ap tree_of first.is);
      }

-- ---- what conjuncts name

pub in_uses : (us : List Usage) (v : List ℕ) → Contains us (usages_of.Variable v) → Contains (filter_map variable_in us) v
in_uses us v c = to_filter_map variable_in us (usages_of.Variable v) v c refl

pub uses_in : (us : List Usage) (v : List ℕ) → Contains (filter_map variable_in us) v → Contains us (usages_of.Variable v)
uses_in us v c = let u = from_filter_map variable_in us v c in subst (Contains us) (by u.0 u.2) u.1
  where
    by : (u : Usage) → variable_in u ≡ Some v → u ≡ usages_of.Variable v
    by (usages_of.Variable n) at = ap usages_of.Variable (same_Some n v at)
    by (usages_of.Call n) at = absurd (none-some v at)

link_uses : (l : Infix) → infix_usages l ≡ usages l.right
link_uses l = fold-roll-Infix ArgsUsages ExprUsages CallUsages (List Usage) args_step expr_step postfix_step infix_step (record { operator = l.operator; right = l.right })

-- an equation names its variable, and what its expression names
pub equation_uses : (c : Expr) (v : List ℕ) (e : Expr) → equation_of c ≡ Some (v, e) → usages c ≡ usages_of.Variable v ∷ usages e
equation_uses c v e is =
    let form = equation_form c v e is in
    ap usages (sym form.is) ∙ ap (λ (u : ExprUsages). u.usages) (uses_of (of.Chain form.first (form.link ∷ []) form.span))
    ∙ ap (λ (us : List Usage). us ++ (infix_usages form.link ++ [])) (told_alone form.first v form.subject).uses
    ∙ ap (λ (us : List Usage). usages_of.Variable v ∷ us) (append-nil (infix_usages form.link) ∙ link_uses form.link ∙ ap usages form.right)

pub equation_subject : (c : Expr) (v : List ℕ) (e : Expr) → equation_of c ≡ Some (v, e) → Contains (variables_in c) v
equation_subject c v e is = in_uses (usages c) v (subst (λ (us : List Usage). Contains us (usages_of.Variable v)) (sym (equation_uses c v e is)) (0, omega arith, refl))

pub equation_part : (c : Expr) (v : List ℕ) (e : Expr) → equation_of c ≡ Some (v, e) → (w : List ℕ) → Contains (variables_in e) w → Contains (variables_in c) w
equation_part c v e is w has = in_uses (usages c) w (subst (λ (us : List Usage). Contains us (usages_of.Variable w)) (sym (equation_uses c v e is))
    (Contains-append_right (usages_of.Variable v ∷ []) (usages e) (usages_of.Variable w) (uses_in (usages e) w has)))

pub equation_names : (c : Expr) (v : List ℕ) (e : Expr) → equation_of c ≡ Some (v, e) → (w : List ℕ) → Contains (variables_in c) w → (v ≡ w) ⊎ Contains (variables_in e) w
equation_names c v e is w has =
    elim (in_either (usages_of.Variable v) (usages_of.Variable w) (usages e) (subst (λ (us : List Usage). Contains us (usages_of.Variable w)) (equation_uses c v e is) (uses_in (usages c) w has))) [
      | inl same ↦ inl (same_Some v w (ap variable_in same))
      | inr more ↦ inr (in_uses (usages e) w more)
    ]

-- a call names what its arguments name
pub call_uses : (c : Expr) (name : List ℕ) (args : List Expr) → call_of c ≡ Some (name, args) → usages c ≡ usages_of.Call name ∷ flat_map usages args
call_uses c name args is = by (out-Expr c) (roll-out-Expr c) is
  where
    values : (n : Name) (given : Args) (span : Span) → roll-Expr (of.Call n given span) ≡ c → (d : of.Args-F Args Expr Postfix Infix) → roll-Args d ≡ given
        → called_with n.text d ≡ Some (name, args) → usages c ≡ usages_of.Call name ∷ flat_map usages args
    values n given span rolls (of.Values vs) inside h =
        let same : (n.text, vs) ≡ (name, args) = same_Some (n.text, vs) (name, args) h in
        ap usages (sym rolls) ∙ ap (λ (u : ExprUsages). u.usages) (uses_of (of.Call n given span))
        ∙ ap (λ (u : ArgsUsages). usages_of.Call n.text ∷ u.usages) (ap args_usages (sym inside) ∙ fold-roll-Args ArgsUsages ExprUsages CallUsages (List Usage) args_step expr_step postfix_step infix_step (of.Values vs))
        ∙ ap (λ (us : List Usage). usages_of.Call n.text ∷ us) (flat_map-map (λ (u : ExprUsages). u.usages) expr_usages vs)
        ∙ ap (λ (p : List ℕ × List Expr). usages_of.Call p.0 ∷ flat_map usages p.1) same
    values n given span rolls (of.Class path) inside h = absurd (none-some (name, args) h)

    by : (d : Layer) → roll-Expr d ≡ c → call_in d ≡ Some (name, args) → usages c ≡ usages_of.Call name ∷ flat_map usages args
    by (of.Call n given span) rolls h = values n given span rolls (out-Args given) (roll-out-Args given) h
    by d rolls h = absurd (none-some (name, args) h)

pub call_part : (c : Expr) (name : List ℕ) (args : List Expr) → call_of c ≡ Some (name, args) → (a : Expr) (w : List ℕ) → Contains args a → Contains (variables_in a) w → Contains (variables_in c) w
call_part c name args is a w among has = in_uses (usages c) w (subst (λ (us : List Usage). Contains us (usages_of.Variable w)) (sym (call_uses c name args is))
    (Contains-append_right (usages_of.Call name ∷ []) (flat_map usages args) (usages_of.Variable w) (to_flat_map usages args a (usages_of.Variable w) among (uses_in (usages a) w has))))

pub call_names : (c : Expr) (name : List ℕ) (args : List Expr) → call_of c ≡ Some (name, args) → (w : List ℕ) → Contains (variables_in c) w → (a : Expr) × Contains args a × Contains (variables_in a) w
call_names c name args is w has =
    elim (in_either (usages_of.Call name) (usages_of.Variable w) (flat_map usages args) (subst (λ (us : List Usage). Contains us (usages_of.Variable w)) (call_uses c name args is) (uses_in (usages c) w has))) [
      | inl same ↦ absurd (none-some w (ap variable_in same))
      | inr more ↦ let a = from_flat_map usages args (usages_of.Variable w) more in (a.0, a.1, in_uses (usages a.0) w a.2)
    ]
