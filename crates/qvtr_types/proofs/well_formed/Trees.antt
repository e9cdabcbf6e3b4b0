-- From the typed tree of a conjunct to its form: a tree that is a variable is that of a variable alone, and one that is `v = e` that of an
-- equation.
use Rattle.std.proofs.Common.{◌≡◌, ℕ, List, [], ◌∷◌, ◌++◌, Bool, true, false, ◌≤◌, ◌+◌, length, length-append, refl, sym, ◌∙◌, ap, subst, map, arith, inl, inr, true≢false}
use Rattle.std.specs.Prelude.{if◌then◌else◌, Option, Some, None, Contains}
use Rattle.std.specs.List.{flat_map, list_all}
use Rattle.std.proofs.lemmas.List.Elements.{Contains-append_cases}
use Rattle.mof_metamodel.specs.declared.span.Span.{Span}
use Rattle.mof_metamodel.proofs.PropLemmas.{from_flat_map}
use Rattle.qv_syntax.specs.declared.name.Name.{Name}
use Rattle.qv_syntax.specs.declared.name.Path.{Path}
use Rattle.qv_syntax.specs.declared.ty.Ty.{Ty}
use Rattle.qv_syntax.specs.declared.expr.Expr.{Expr, out-Expr, roll-Expr, roll-out-Expr, out-roll-Expr, map-Expr, ind-Expr}
use Rattle.qv_syntax.specs.declared.expr.Infix.{Infix, roll-Infix, map-Infix}
use Rattle.qv_syntax.specs.declared.expr.Postfix.{Postfix}
use Rattle.qv_syntax.specs.declared.expr.Args.{Args}
use Rattle.qv_syntax.specs.declared.expr.Args.TheOpen as of
use Rattle.qv_syntax.specs.declared.operator.Operator.{Operator}
use Rattle.qv_syntax.specs.declared.operator.Operator.TheVariants as operators
use Rattle.qv_syntax.specs.declared.typed.Typed.{Typed}
use Rattle.qv_syntax.specs.declared.typed.Node.{Node, out-Node, roll-Node, out-roll-Node}
use Rattle.qv_syntax.specs.declared.typed.Node.TheVariants as nodes
use Rattle.qv_syntax.specs.declared.typed.Call.{Call}
use Rattle.qv_syntax.specs.declared.typed.Call.TheOpen as layers
use Rattle.qv_syntax.specs.declared.typed.TypedInfix.{TypedInfix}
use Rattle.qv_syntax.specs.declared.typed.TypedPostfix.{TypedPostfix}
use Rattle.ocl_environments.specs.declared.part.TypedPart.{TypedPart}
use Rattle.ocl_environments.specs.declared.part.CallsSoFar.{CallsSoFar}
use Rattle.ocl_environments.specs.declared.part.Chained.{Chained}
use Rattle.ocl_environments.specs.Environments.{Environment}
use Rattle.ocl_environments.specs.Environments as environments
use Rattle.ocl_environments.specs.Classifiers.{named_literal, named_class}
use Rattle.ocl_types.specs.Judged.{Judged, gives, taking, both}
use Rattle.ocl_environments.specs.Parts.{tree_of, trees_of}
use Rattle.ocl_environments.specs.Naming.{names_of, texts_of}
use Rattle.ocl_types.specs.Typing.{called_whole, path_of_extent}
use Rattle.ocl_types.specs.TypingScopes.{let_part}
use Rattle.ocl_types.specs.TypingOperators.{unchained, and_linked, chain_part}
use Rattle.ocl_types.specs.TypeRules.{linked_judged, names_judged, literal_judged, extent_judged}
use Rattle.ocl_types.specs.HasType.{Judgment, LinkJudgment, ArgsJudgment, linked, first_judged, query_args, expr_rule, judgment, link_judgment, call_judgment, args_judgment, HasType, HasTree}
use Rattle.ocl_types.proofs.JudgmentLaws.{expr_unrolled, link_unrolled}
use Rattle.ocl_types.proofs.TypedParts.{finds_has}
use Rattle.script_scopes.specs.Conjuncts.{one_name, name_alone, equal_to, clause_conjuncts, behind_equals, variable_with, equation_in, equation_of, behind, conjuncts}
use Rattle.qv_syntax.specs.declared.script.BlockTree.{BlockTree}
use Rattle.ocl_environments.specs.declared.variable.Variable.{Variable}
use Rattle.ocl_types.specs.TypeRules.{IsFirstNamed}
use Rattle.qvtr_types.specs.TypedUsages.{HasNumber}
use Rattle.script_scopes.proofs.ConjunctLemmas.{by_layer, conjuncts_behind}
use Rattle.mof_metamodel.proofs.Facts.{nothing_in}
use Rattle.mof_metamodel.proofs.Facts.{only_one}
use Rattle.qvtr_types.proofs.NamedVariables.{out_variable, variable_number}
use Rattle.qvtr_types.proofs.NamedTrees.{arguments_rest}
use Rattle.qvtr_types.proofs.well_formed.Equations.{alone_of, IsVariablePart, equals}

abbrev Form : Type 0
Form = of.Expr-F Args Expr Postfix Infix

abbrev Layer : Type 0
Layer = layers.Node-F Call Node Typed TypedInfix TypedPostfix

-- a variable or a chain
abbrev is_special : Layer → Bool
is_special (layers.Variable number) = true
is_special (layers.Chain first rest) = true
is_special d = false

-- what the form of an expression says of its node
pub data HasNode (env : Environment) (p : TypedPart) : Form → Type 0 where
  parens : (inner : Expr) (span : Span) → HasType env inner p → HasNode env p (of.Parens inner span)
  bare_calls : (part : Expr) (span : Span) → HasType env part p → HasNode env p (of.Calls part [] span)
  variable : (path : Path) (name : Name) → path.names ≡ name ∷ [] → IsVariablePart env name.text p → HasNode env p (of.Named path)
  chain : (first : Expr) (rest : List Infix) (span : Span) → (s : TypedPart × Chained)
      → (linked link_judgment env (taking ((judgment first).part env) (λ q. gives (q, unchained q))) rest).has s → p ≡ chain_part s.0 s.1 → HasNode env p (of.Chain first rest span)
  other : (d : Form) → is_special (out-Node p.node) ≡ false → HasNode env p d

module _ (env : Environment) (p : TypedPart) (d : Form) where
  plain_node : (q : TypedPart) (node : Node) (layer : Layer) → p ≡ q → q.node ≡ node → roll-Node layer ≡ node → is_special layer ≡ false → HasNode env p d
  plain_node q node layer is at rolls plain =
      HasNode.other d (ap is_special (ap (λ (x : TypedPart). out-Node x.node) is ∙ ap out-Node at ∙ ap out-Node (sym rolls) ∙ out-roll-Node layer) ∙ plain)

  called_node : (q : TypedPart) (c : CallsSoFar) → p ≡ called_whole q c → HasNode env p d
  unfolding called_whole
  called_node q c is = plain_node (called_whole q c) (nodes.Calls (tree_of q) c.calls) (layers.Calls (tree_of q) c.calls) is refl (nodes.rolls-Calls (tree_of q) c.calls) refl

  extent_node : (path : Path) (q : TypedPart) → (extent_judged env path).has q → p ≡ q → HasNode env p d
  extent_node path q h is =
      let class = finds_has (named_class env (names_of path)) _ _ q h in
      let model = finds_has (environments.only_model env.models class.0.0) _ _ q class.2 in
      plain_node _ (nodes.Extent model.0 class.0.1) (layers.Extent model.0 class.0.1) (is ∙ model.2) refl (nodes.rolls-Extent model.0 class.0.1) refl

  behind_node : (j : Environment → Judged TypedPart) (k : Postfix) (ks : List Postfix) (o : Option Path) → (first_judged call_judgment env (j env) k ks o).has p → HasNode env p d
  behind_node j k ks None h = called_node h.0 h.2.0 h.2.2
  behind_node j k [] (Some path) h = extent_node path h.0 h.1 h.2
  behind_node j k (l ∷ ks) (Some path) h = called_node h.0 h.2.0 h.2.2

  literal_node : (names : List (List ℕ)) → (literal_judged env names).has p → HasNode env p d
  literal_node names h =
      let l = finds_has (named_literal env names) _ _ p h in
      plain_node _ (nodes.EnumLiteral l.0.0 l.0.1 l.0.2) (layers.EnumLiteral l.0.0 l.0.1 l.0.2) l.2 refl (nodes.rolls-EnumLiteral l.0.0 l.0.1 l.0.2) refl

  query_node : (name : List ℕ) (args : ArgsJudgment) (o : Option Path) → (query_args env name args o).has p → HasNode env p d
  query_node name args None h =
      let e = arguments_rest env h.2.0.1.params h.0 _ p h.2.2.1 in
      plain_node _ (nodes.Query h.2.0.0 (trees_of h.0)) (layers.Query h.2.0.0 (trees_of h.0)) e refl (nodes.rolls-Query h.2.0.0 (trees_of h.0)) refl
  query_node name args (Some path) h = absurd h

form_node : (env : Environment) (p : TypedPart) (d : Form) → ((expr_rule args_judgment judgment call_judgment link_judgment d).part env).has p → HasNode env p d
unfolding HasType let_part
form_node env p (of.Let n ty value body span) h =
    plain_node env p (of.Let n ty value body span) _ (nodes.Let (length env.variables) (tree_of h.0.1) (tree_of h.2.2.0)) (layers.Let (length env.variables) (tree_of h.0.1) (tree_of h.2.2.0)) h.2.2.2 refl
    (nodes.rolls-Let (length env.variables) (tree_of h.0.1) (tree_of h.2.2.0)) refl
form_node env p (of.Chain first rest span) h = HasNode.chain first rest span h.0 h.1 h.2
form_node env p (of.Not operand span) h = plain_node env p (of.Not operand span) _ (nodes.Not (tree_of h.0)) (layers.Not (tree_of h.0)) h.2.1 refl (nodes.rolls-Not (tree_of h.0)) refl
form_node env p (of.Negated operand span) h = plain_node env p (of.Negated operand span) _ (nodes.Negated (tree_of h.0)) (layers.Negated (tree_of h.0)) h.2.1 refl (nodes.rolls-Negated (tree_of h.0)) refl
form_node env p (of.Calls part [] span) h = HasNode.bare_calls part span h
form_node env p (of.Calls part (k ∷ ks) span) h = behind_node env p (of.Calls part (k ∷ ks) span) (judgment part).part k ks (path_of_extent (judgment part).path (call_judgment k).is_extent) h
form_node env p (of.Number value span) h = plain_node env p (of.Number value span) _ (nodes.Number value) (layers.Number value) h refl (nodes.rolls-Number value) refl
form_node env p (of.Str value span) h = plain_node env p (of.Str value span) _ (nodes.Str value) (layers.Str value) h refl (nodes.rolls-Str value) refl
form_node env p (of.Bool value span) h = plain_node env p (of.Bool value span) _ (nodes.Bool value) (layers.Bool value) h refl (nodes.rolls-Bool value) refl
form_node env p (of.Null span) h = plain_node env p (of.Null span) _ nodes.Null layers.Null h refl nodes.rolls-Null refl
form_node env p (of.Invalid span) h = plain_node env p (of.Invalid span) _ nodes.Invalid layers.Invalid h refl nodes.rolls-Invalid refl
form_node env p (of.Parens inner span) h = HasNode.parens inner span h
form_node env p (of.If condition one second span) h =
    plain_node env p (of.If condition one second span) _ (nodes.If (tree_of h.0.0) (tree_of h.0.1.0) (tree_of h.0.1.1)) (layers.If (tree_of h.0.0) (tree_of h.0.1.0) (tree_of h.0.1.1)) h.2.1.2 refl
    (nodes.rolls-If (tree_of h.0.0) (tree_of h.0.1.0) (tree_of h.0.1.1)) refl
form_node env p (of.Coll kind elements span) h =
    plain_node env p (of.Coll kind elements span) _ (nodes.Coll kind (trees_of h.0)) (layers.Coll kind (trees_of h.0)) h.2.2 refl (nodes.rolls-Coll kind (trees_of h.0)) refl
form_node env p (of.Call n given span) h = query_node env p (of.Call n given span) n.text (args_judgment given) (args_judgment given).class h
form_node env p (of.Named path) h = by path.names refl h
  where
    by : (names : List Name) → path.names ≡ names → (names_judged env (texts_of names)).has p → HasNode env p (of.Named path)
    by [] at g = literal_node env p (of.Named path) [] g
    by (n ∷ []) at g = HasNode.variable path n at (record { number = g.0.0; variable = g.0.1; named = g.1; is = g.2 })
    by (n ∷ m ∷ names) at g = literal_node env p (of.Named path) (texts_of (n ∷ m ∷ names)) g

pub node_of : (env : Environment) (p : TypedPart) (e : Expr) → HasType env e p → HasNode env p (out-Expr e)
unfolding HasType
node_of env p e has = form_node env p (out-Expr e)
    (subst (λ (j : Judgment). (j.part env).has p) (expr_unrolled (out-Expr e)) (subst (λ (x : Expr). HasType env x p) (sym (roll-out-Expr e)) has))

-- ---- a variable

IsAloneFrom : Expr → Type 0
IsAloneFrom e = (env : Environment) (p : TypedPart) (n : ℕ) → HasType env e p → p.node ≡ nodes.Variable n → (v : List ℕ) × (name_alone e ≡ Some v) × IsVariablePart env v p

variable_special : (n : ℕ) → is_special (out-Node (nodes.Variable n)) ≡ true
variable_special n = ap (λ (x : Node). is_special (out-Node x)) (sym (nodes.rolls-Variable n)) ∙ ap is_special (out-roll-Node (layers.Variable n))

abbrev HeldExpr : Type 0
HeldExpr = (e : Expr) × IsAloneFrom e

abbrev HeldArgs : Type 0
HeldArgs = (a : Args) × Unit {0}

abbrev HeldCall : Type 0
HeldCall = (k : Postfix) × Unit {0}

abbrev HeldLink : Type 0
HeldLink = (l : Infix) × Unit {0}

abbrev bare : of.Expr-F HeldArgs HeldExpr HeldCall HeldLink → Form
bare y = map-Expr HeldArgs HeldExpr HeldCall HeldLink Args Expr Postfix Infix (λ e. e.0) (λ e. e.0) (λ e. e.0) (λ e. e.0) y

unrolled : (env : Environment) (p : TypedPart) (d : Form) → HasType env (roll-Expr d) p → ((expr_rule args_judgment judgment call_judgment link_judgment d).part env).has p
unfolding HasType
unrolled env p d has = subst (λ (j : Judgment). (j.part env).has p) (expr_unrolled d) has

-- a form behind which another stands, or a name
abbrev is_open : Form → Bool
is_open (of.Parens inner span) = true
is_open (of.Calls part [] span) = true
is_open (of.Named path) = true
is_open d = false

-- a form behind which another stands
abbrev is_through : Form → Bool
is_through (of.Parens inner span) = true
is_through (of.Calls part [] span) = true
is_through d = false

chain_layer : (s : TypedPart × Chained) → out-Node (chain_part s.0 s.1).node ≡ layers.Chain (tree_of s.0) s.1.links
unfolding chain_part
chain_layer s = ap out-Node (sym (nodes.rolls-Chain (tree_of s.0) s.1.links)) ∙ out-roll-Node (layers.Chain (tree_of s.0) s.1.links)

chain_out : (first : Typed) (rest : List TypedInfix) → out-Node (nodes.Chain first rest) ≡ layers.Chain first rest
chain_out first rest = ap out-Node (sym (nodes.rolls-Chain first rest)) ∙ out-roll-Node (layers.Chain first rest)

no_variable : (env : Environment) (p : TypedPart) (d : Form) → HasNode env p d → is_open d ≡ false → (n : ℕ) → p.node ≡ nodes.Variable n → ⊥
no_variable env p _ (HasNode.parens inner span has) closed n is = true≢false closed
no_variable env p _ (HasNode.bare_calls part span has) closed n is = true≢false closed
no_variable env p _ (HasNode.variable path name at part) closed n is = true≢false closed
no_variable env p _ (HasNode.chain first rest span s linked whole) closed n is =
    let e : ◌≡◌ {A = Layer} (layers.Chain (tree_of s.0) s.1.links) (layers.Variable n) =
    sym (chain_layer s) ∙ ap (λ (q : TypedPart). out-Node q.node) (sym whole) ∙ ap out-Node is ∙ out_variable n in cc
no_variable env p _ (HasNode.other d plain) closed n is = true≢false (sym (ap (λ (x : Node). is_special (out-Node x)) is ∙ variable_special n) ∙ plain)

alone_layer : (y : of.Expr-F HeldArgs HeldExpr HeldCall HeldLink) → IsAloneFrom (roll-Expr (bare y))
unfolding IsAloneFrom HasType
alone_layer (of.Parens inner span) env p n has is =
    let told = inner.1 env p n (unrolled env p (of.Parens inner.0 span) has) is in
    (told.0, alone_of (of.Parens inner.0 span) ∙ told.1, told.2)
alone_layer (of.Calls inner [] span) env p n has is =
    let told = inner.1 env p n (unrolled env p (of.Calls inner.0 [] span) has) is in
    (told.0, alone_of (of.Calls inner.0 [] span) ∙ told.1, told.2)
alone_layer (of.Named path) env p n has is = by path.names refl (unrolled env p (of.Named path) has)
  where
    no_literal : (names : List (List ℕ)) → (literal_judged env names).has p → ⊥
    no_literal names h =
        let l = finds_has (named_literal env names) _ _ p h in
        let e : ◌≡◌ {A = Layer} (layers.EnumLiteral l.0.0 l.0.1 l.0.2) (layers.Variable n) =
        sym (ap out-Node (sym (nodes.rolls-EnumLiteral l.0.0 l.0.1 l.0.2)) ∙ out-roll-Node (layers.EnumLiteral l.0.0 l.0.1 l.0.2))
        ∙ ap (λ (q : TypedPart). out-Node q.node) (sym l.2) ∙ ap out-Node is ∙ out_variable n in cc

    by : (names : List Name) → path.names ≡ names → (names_judged env (texts_of names)).has p → (v : List ℕ) × (name_alone (roll-Expr (of.Named path)) ≡ Some v) × IsVariablePart env v p
    by [] at h = absurd (no_literal [] h)
    by (m ∷ []) at h = (m.text, alone_of (of.Named path) ∙ ap one_name at, record { number = h.0.0; variable = h.0.1; named = h.1; is = h.2 })
    by (m ∷ o ∷ names) at h = absurd (no_literal (texts_of (m ∷ o ∷ names)) h)
alone_layer y env p n has is = absurd (no_variable env p (bare y) (form_node env p (bare y) (unrolled env p (bare y) has)) refl n is)

pub alone_from : (e : Expr) (env : Environment) (p : TypedPart) (n : ℕ) → HasType env e p → p.node ≡ nodes.Variable n → (v : List ℕ) × (name_alone e ≡ Some v) × IsVariablePart env v p
unfolding IsAloneFrom
alone_from = ind-Expr (λ a. Unit {0}) IsAloneFrom (λ k. Unit {0}) (λ l. Unit {0})
    (λ x y is. tt) (λ x y is. subst (λ d. IsAloneFrom (roll-Expr d)) is (alone_layer y)) (λ x y is. tt) (λ x y is. tt)

-- ---- conjuncts are no forms behind which another stands

IsClosed : Expr → Type 0
IsClosed e = (c : Expr) → Contains (conjuncts e) c → is_through (out-Expr c) ≡ false

IsLinkClosed : Infix → Type 0
IsLinkClosed l = (c : Expr) → Contains (behind l).conjuncts c → is_through (out-Expr c) ≡ false

abbrev ClosedExpr : Type 0
ClosedExpr = (e : Expr) × IsClosed e

abbrev ClosedLink : Type 0
ClosedLink = (l : Infix) × IsLinkClosed l

abbrev shut : of.Expr-F HeldArgs ClosedExpr HeldCall ClosedLink → Form
shut y = map-Expr HeldArgs ClosedExpr HeldCall ClosedLink Args Expr Postfix Infix (λ e. e.0) (λ e. e.0) (λ e. e.0) (λ e. e.0) y

own_closed : (d : Form) (c : Expr) → is_through d ≡ false → conjuncts (roll-Expr d) ≡ roll-Expr d ∷ [] → Contains (conjuncts (roll-Expr d)) c → is_through (out-Expr c) ≡ false
own_closed d c closed is among =
    let same : roll-Expr d ≡ c = only_one (roll-Expr d) c (subst (λ (es : List Expr). Contains es c) is among) in
    ap (λ (x : Expr). is_through (out-Expr x)) (sym same) ∙ ap is_through (out-roll-Expr d) ∙ closed

in_links_of : (ls : List ClosedLink) (c : Expr) → Contains (flat_map (λ (l : Infix). (behind l).conjuncts) (map (λ l. l.0) ls)) c → is_through (out-Expr c) ≡ false
unfolding IsLinkClosed
in_links_of [] c has = absurd (nothing_in c has)
in_links_of (l ∷ ls) c has = elim (Contains-append_cases (behind l.0).conjuncts (flat_map (λ (k : Infix). (behind k).conjuncts) (map (λ k. k.0) ls)) c has) [
  | inl here ↦ l.1 c here
  | inr more ↦ in_links_of ls c more
]

closed_layer : (y : of.Expr-F HeldArgs ClosedExpr HeldCall ClosedLink) → IsClosed (roll-Expr (shut y))
unfolding IsClosed
closed_layer (of.Parens inner span) c among = inner.1 c (subst (λ (es : List Expr). Contains es c) (by_layer (of.Parens inner.0 span) (roll-Expr (of.Parens inner.0 span)) refl) among)
closed_layer (of.Calls inner [] span) c among = inner.1 c (subst (λ (es : List Expr). Contains es c) (by_layer (of.Calls inner.0 [] span) (roll-Expr (of.Calls inner.0 [] span)) refl) among)
closed_layer (of.Chain first rest span) c among = by (list_all (λ l. (behind l).is_and) (map (λ l. l.0) rest)) refl
  where
    split : Bool → List Expr
    split b = if b then conjuncts first.0 ++ flat_map (λ (l : Infix). (behind l).conjuncts) (map (λ l. l.0) rest) else roll-Expr (of.Chain first.0 (map (λ l. l.0) rest) span) ∷ []

    parts : conjuncts (roll-Expr (of.Chain first.0 (map (λ l. l.0) rest) span)) ≡ split (list_all (λ l. (behind l).is_and) (map (λ l. l.0) rest))
    parts = by_layer (of.Chain first.0 (map (λ l. l.0) rest) span) (roll-Expr (of.Chain first.0 (map (λ l. l.0) rest) span)) refl

    by : (b : Bool) → list_all (λ l. (behind l).is_and) (map (λ l. l.0) rest) ≡ b → is_through (out-Expr c) ≡ false
    by true at = elim (Contains-append_cases (conjuncts first.0) (flat_map (λ (l : Infix). (behind l).conjuncts) (map (λ l. l.0) rest)) c (subst (λ (es : List Expr). Contains es c) (parts ∙ ap split at) among)) [
      | inl left ↦ first.1 c left
      | inr right ↦ in_links_of rest c right
    ]
    by false at = own_closed (of.Chain first.0 (map (λ l. l.0) rest) span) c refl (parts ∙ ap split at) among
closed_layer y c among = own_closed (shut y) c refl (by_layer (shut y) (roll-Expr (shut y)) refl) among

closed_link : (y : of.Infix-F HeldArgs ClosedExpr HeldCall ClosedLink)
    → IsLinkClosed (roll-Infix (map-Infix HeldArgs ClosedExpr HeldCall ClosedLink Args Expr Postfix Infix (λ e. e.0) (λ e. e.0) (λ e. e.0) (λ e. e.0) y))
unfolding IsClosed IsLinkClosed
closed_link y c among =
    let l : Infix = record { operator = y.operator; right = y.right.0 } in
    y.right.1 c (subst (λ (es : List Expr). Contains es c) (conjuncts_behind l) among)

pub conjunct_closed : (e c : Expr) → Contains (conjuncts e) c → is_through (out-Expr c) ≡ false
unfolding IsClosed
conjunct_closed = ind-Expr (λ a. Unit {0}) IsClosed (λ k. Unit {0}) IsLinkClosed
    (λ x y is. tt) (λ x y is. subst (λ d. IsClosed (roll-Expr d)) is (closed_layer y)) (λ x y is. tt) (λ x y is. subst (λ d. IsLinkClosed (roll-Infix d)) is (closed_link y))

pub clause_closed : (clause : Option BlockTree) (c : Expr) → Contains (clause_conjuncts clause) c → is_through (out-Expr c) ≡ false
clause_closed (Some block) c among = let e = from_flat_map conjuncts block.exprs c among in conjunct_closed e.0 c e.2
clause_closed None c among = absurd (nothing_in c among)

-- ---- equations

abbrev State : Type 0
State = TypedPart × Chained

module _ (env : Environment) where
  abbrev begun : Expr → Judged State
  begun first = taking ((judgment first).part env) (λ p. gives (p, unchained p))

  abbrev joined : Judged State → LinkJudgment → Judged State
  joined before l = taking (both before (l.right env)) (λ p. taking (linked_judged env.metas p.0.1 l.operator p.1) (λ c. gives (p.0.0, c)))

  -- each operator adds a link
  links_grow : (ls : List Infix) (n : ℕ) (before : Judged State) → ((s : State) → before.has s → n ≤ length s.1.links) → (s : State) → (linked link_judgment env before ls).has s → n + length ls ≤ length s.1.links
  unfolding linked
  links_grow [] n before holds s has = let h = holds s has in omega (arith, h)
  links_grow (l ∷ ls) n before holds s has =
      let h = links_grow ls (n + 1) (joined before (link_judgment l)) one s has in
      omega (arith, h)
    where
      one : (s : State) → (joined before (link_judgment l)).has s → n + 1 ≤ length s.1.links
      one s h =
          let c : Chained = h.0.0.1 in
          let old = holds h.0.0 h.1.0 in
          let grown : length s.1.links ≡ length (c.links ++ (record { operator = (link_judgment l).operator; right = tree_of h.0.1; ty = h.2.1.0 }) ∷ []) =
          ap (λ (t : State). length t.1.links) h.2.2 ∙ ap (λ (k : Chained). length k.links) h.2.1.2 in
          omega (arith, old, grown, length-append c.links ((record { operator = (link_judgment l).operator; right = tree_of h.0.1; ty = h.2.1.0 }) ∷ []))

  -- a chain whose tree is `v = e` is written so
  pub record IsEquationFrom (c : Expr) (n : ℕ) (e : Typed) : Type 0 where
    pub v : List ℕ
    pub right : Expr
    pub is : equation_of c ≡ Some (v, right)
    pub named : HasNumber env v n
    pub has : HasTree env right e

  chain_equation : (first : Expr) (rest : List Infix) (s : State) → (linked link_judgment env (begun first) rest).has s → (n : ℕ) (own link : Ty) (e : Typed)
      → tree_of s.0 ≡ record { ty = own; node = nodes.Variable n } → s.1.links ≡ equals e link
      → (v : List ℕ) × (right : Expr) × (variable_with (name_alone first) (behind_equals rest) ≡ Some (v, right)) × HasNumber env v n × HasTree env right e
  unfolding linked HasType
  chain_equation first [] s has n own link e head links =
      let none : length s.1.links ≡ 0 = ap (λ (t : State). length t.1.links) has.2 in
      let one : length s.1.links ≡ 1 = ap length links in
      absurd (omega (arith, none, one))
  chain_equation first (l ∷ k ∷ more) s has n own link e head links =
      let many = links_grow (l ∷ k ∷ more) 0 (begun first) (λ t h. omega arith) s has in
      let one : length s.1.links ≡ 1 = ap length links in
      absurd (omega (arith, many, one))
  chain_equation first (l ∷ []) s has n own link e head links =
      let a : TypedPart = has.1.0.0 in
      let start : has.0.0 ≡ (a, unchained a) = has.1.0.2 in
      let b : TypedPart = has.0.1 in
      let j : LinkJudgment = link_judgment l in
      let state : s ≡ (has.0.0.0, has.2.0) = has.2.2 in
      let linked_to : has.2.0 ≡ and_linked has.0.0.1 j.operator b has.2.1.0 = has.2.1.2 in
      let is_a : s.0 ≡ a = ap (λ (t : State). t.0) state ∙ ap (λ (t : State). t.0) start in
      let node : a.node ≡ nodes.Variable n = ap (λ (q : TypedPart). q.node) (sym is_a) ∙ ap (λ (t : Typed). t.node) head in
      let alone = alone_from first env a n has.1.0.1 node in
      let number : alone.2.number ≡ n = variable_number alone.2.number n (ap (λ (q : TypedPart). q.node) (sym alone.2.is) ∙ node) in
      let all : equals e link ≡ (record { operator = j.operator; right = tree_of b; ty = has.2.1.0 }) ∷ [] =
      sym links ∙ ap (λ (t : State). t.1.links) state ∙ ap (λ (c : Chained). c.links) (linked_to ∙ ap (λ (t : State). and_linked t.1 j.operator b has.2.1.0) start) in
      let one : ◌≡◌ {A = TypedInfix} (record { operator = operators.Equal; right = e; ty = link }) (record { operator = j.operator; right = tree_of b; ty = has.2.1.0 }) = cc in
      let unrolls : j ≡ record { operator = l.operator; right = (judgment l.right).part } = link_unrolled (record { operator = l.operator; right = l.right }) in
      let equal : l.operator ≡ operators.Equal = sym (ap (λ (k : LinkJudgment). k.operator) unrolls) ∙ ap (λ (i : TypedInfix). i.operator) (sym one) in (
        alone.0,
        l.right,
        ap (λ (m : Option (List ℕ)). variable_with m (equal_to l.operator l.right)) alone.1 ∙ ap (λ (o : Operator). variable_with (Some alone.0) (equal_to o l.right)) equal,
        (alone.2.variable, subst (λ (m : ℕ). IsFirstNamed Variable env.variables alone.0 (m, alone.2.variable)) number alone.2.named),
        (b, subst (λ (k : LinkJudgment). (k.right env).has b) unrolls has.1.1, ap (λ (i : TypedInfix). i.right) one),
      )

  from_node : (c : Expr) (p : TypedPart) (d : Form) → HasNode env p d → is_through d ≡ false → (n : ℕ) (ty own link : Ty) (e : Typed)
      → tree_of p ≡ record { ty = ty; node = nodes.Chain (record { ty = own; node = nodes.Variable n }) (equals e link) }
      → (v : List ℕ) × (right : Expr) × (equation_in d ≡ Some (v, right)) × HasNumber env v n × HasTree env right e
  from_node c p _ (HasNode.parens inner span has) closed n ty own link e tree = absurd (true≢false closed)
  from_node c p _ (HasNode.bare_calls part span has) closed n ty own link e tree = absurd (true≢false closed)
  from_node c p _ (HasNode.variable path name at part) closed n ty own link e tree =
      let x : ◌≡◌ {A = Layer} (layers.Variable part.number) (layers.Chain (record { ty = own; node = nodes.Variable n }) (equals e link)) =
      sym (out_variable part.number) ∙ ap (λ (q : TypedPart). out-Node q.node) (sym part.is) ∙ ap (λ (t : Typed). out-Node t.node) tree
      ∙ chain_out (record { ty = own; node = nodes.Variable n }) (equals e link) in
      absurd cc
  from_node c p _ (HasNode.other d plain) closed n ty own link e tree =
      absurd (true≢false (sym (ap (λ (t : Typed). is_special (out-Node t.node)) tree ∙ ap is_special (chain_out (record { ty = own; node = nodes.Variable n }) (equals e link))) ∙ plain))
  from_node c p _ (HasNode.chain first rest span s has whole) closed n ty own link e tree =
      let x : ◌≡◌ {A = Layer} (layers.Chain (tree_of s.0) s.1.links) (layers.Chain (record { ty = own; node = nodes.Variable n }) (equals e link)) =
      sym (chain_layer s) ∙ ap (λ (q : TypedPart). out-Node q.node) (sym whole) ∙ ap (λ (t : Typed). out-Node t.node) tree
      ∙ chain_out (record { ty = own; node = nodes.Variable n }) (equals e link) in
      let head : tree_of s.0 ≡ record { ty = own; node = nodes.Variable n } = cc in
      let links : s.1.links ≡ equals e link = cc in
      chain_equation first rest s has n own link e head links

  pub equation_from : (c : Expr) → is_through (out-Expr c) ≡ false → (t : Typed) → HasTree env c t → (n : ℕ) (ty own link : Ty) (e : Typed)
      → t ≡ record { ty = ty; node = nodes.Chain (record { ty = own; node = nodes.Variable n }) (equals e link) } → IsEquationFrom c n e
  equation_from c closed t (p, has, is) n ty own link e tree =
      let f = from_node c p (out-Expr c) (node_of env p c has) closed n ty own link e (sym is ∙ tree) in
      record { v = f.0; right = f.1; is = f.2; named = f.3; has = f.4 }
