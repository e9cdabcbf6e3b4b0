-- A variable alone has the type and the model that the variable has where it is in reach.
use Rattle.std.specs.Prelude.{◌≡◌, ℕ, [], Option, None, Some, slice_get, Contains}
use Rattle.std.proofs.Common.{refl, sym, ap, subst, ◌∙◌, arith}
use Rattle.qv_syntax.specs.declared.ty.Ty.{Ty}
use Rattle.qv_syntax.specs.declared.typed.Typed.{Typed}
use Rattle.qv_syntax.specs.declared.typed.Node.{Node, out-Node, roll-Node, out-roll-Node, roll-out-Node}
use Rattle.qv_syntax.specs.declared.typed.Node.TheVariants as nodes
use Rattle.qv_syntax.specs.declared.typed.Call.{Call}
use Rattle.qv_syntax.specs.declared.typed.Call.TheOpen as of
use Rattle.qv_syntax.specs.declared.typed.TypedInfix.{TypedInfix}
use Rattle.qv_syntax.specs.declared.typed.TypedPostfix.{TypedPostfix}
use Rattle.qv_syntax.specs.Parts.{IsWithin, Names, node_parts}
use Rattle.qv_syntax.specs.TypedTrees.{Context, Typing, Variables, IsTyped}

-- the variable that a node is
abbrev variable_in : of.Node-F Call Node Typed TypedInfix TypedPostfix → Option ℕ
variable_in (of.Variable n) = Some n
variable_in d = None

pub is_in : Node → Option ℕ
is_in node = variable_in (out-Node node)

rolled : (d : of.Node-F Call Node Typed TypedInfix TypedPostfix) (node : Node) → roll-Node d ≡ node → is_in node ≡ variable_in d
unfolding is_in
rolled d node is = ap (λ n. variable_in (out-Node n)) (sym is) ∙ ap variable_in (out-roll-Node d)

pub none_some : (node : Node) (v : ℕ) → is_in node ≡ None → is_in node ≡ Some v → ⊥
none_some node v h k = cc

some_layer : (d : of.Node-F Call Node Typed TypedInfix TypedPostfix) (v : ℕ) → variable_in d ≡ Some v → d ≡ of.Variable v
some_layer (of.Number value) v h = absurd (cc)
some_layer (of.Str value) v h = absurd (cc)
some_layer (of.Bool value) v h = absurd (cc)
some_layer of.Null v h = absurd (cc)
some_layer of.Invalid v h = absurd (cc)
some_layer (of.EnumLiteral m e l) v h = absurd (cc)
some_layer (of.Variable n) v h = let is : n ≡ v = cc in ap of.Variable is
some_layer (of.Let n value body) v h = absurd (cc)
some_layer (of.Chain first rest) v h = absurd (cc)
some_layer (of.Not operand) v h = absurd (cc)
some_layer (of.Negated operand) v h = absurd (cc)
some_layer (of.Calls part calls) v h = absurd (cc)
some_layer (of.If condition one other) v h = absurd (cc)
some_layer (of.Coll kind elements) v h = absurd (cc)
some_layer (of.Extent m class) v h = absurd (cc)
some_layer (of.Query n args) v h = absurd (cc)

pub variable_from : (node : Node) (v : ℕ) → is_in node ≡ Some v → node ≡ nodes.Variable v
unfolding is_in
variable_from node v h = sym (roll-out-Node node) ∙ ap roll-Node (some_layer (out-Node node) v h) ∙ nodes.rolls-Variable v

pub variable_is_in : (v : ℕ) → is_in (nodes.Variable v) ≡ Some v
variable_is_in v = rolled (of.Variable v) (nodes.Variable v) (nodes.rolls-Variable v)

-- nothing else stands within a variable alone
within_alone : (e inner : Typed) (v : ℕ) → IsWithin e inner → is_in e.node ≡ Some v → e ≡ inner
unfolding is_in
within_alone e inner v (IsWithin.whole _) h = refl
within_alone e inner v (IsWithin.inside _ part _ among within) h = absurd (nothing (subst (λ d. Contains (node_parts d) part) (some_layer (out-Node e.node) v h) among))
  where
    nothing : Contains [] part → ⊥
    nothing (k, below, is) = omega (arith, below)

-- a variable alone names itself
pub alone_names : (e : Typed) (v : ℕ) → ((ty : Ty) × (w : ℕ) × (e ≡ record { ty = ty; node = nodes.Variable w })) → Names e v → is_in e.node ≡ Some v
alone_names e v alone names =
    let own : is_in e.node ≡ Some alone.1 = ap (λ (x : Typed). is_in x.node) alone.2 ∙ variable_is_in alone.1 in
    ap (λ (x : Typed). is_in x.node) (within_alone e (record { ty = names.0; node = nodes.Variable v }) alone.1 names.1 own) ∙ variable_is_in v

module _ (context : Context) where
  pub typed_alone : (vars : Variables) (e : Typed) (p : Typing) (v : ℕ) → IsTyped context vars e p → is_in e.node ≡ Some v → slice_get vars v ≡ Some p
  typed_alone vars e p v (IsTyped.number _ value) h = absurd (none_some e.node v (rolled (of.Number value) e.node (nodes.rolls-Number value)) h)
  typed_alone vars e p v (IsTyped.string _ text) h = absurd (none_some e.node v (rolled (of.Str text) e.node (nodes.rolls-Str text)) h)
  typed_alone vars e p v (IsTyped.boolean _ value) h = absurd (none_some e.node v (rolled (of.Bool value) e.node (nodes.rolls-Bool value)) h)
  typed_alone vars e p v (IsTyped.null _) h = absurd (none_some e.node v (rolled of.Null e.node nodes.rolls-Null) h)
  typed_alone vars e p v (IsTyped.invalid _) h = absurd (none_some e.node v (rolled of.Invalid e.node nodes.rolls-Invalid) h)
  typed_alone vars e p v (IsTyped.enum_literal _ m enumeration literal there) h =
      absurd (none_some e.node v (rolled (of.EnumLiteral m enumeration literal) e.node (nodes.rolls-EnumLiteral m enumeration literal)) h)
  typed_alone vars e p v (IsTyped.variable _ number _ at) h =
      let same : Some number ≡ Some v = sym (rolled (of.Variable number) e.node (nodes.rolls-Variable number)) ∙ h in
      found number same at
    where
      found : (number : ℕ) → Some number ≡ Some v → slice_get vars number ≡ Some p → slice_get vars v ≡ Some p
      found number same at = cc
  typed_alone vars e p v (IsTyped.let_in _ ty value body w _ written given conforms inside) h = absurd (none_some e.node v (rolled (of.Let _ value body) e.node (nodes.rolls-Let _ value body)) h)
  typed_alone vars e p v (IsTyped.chain _ first rest a t one links) h = absurd (none_some e.node v (rolled (of.Chain first rest) e.node (nodes.rolls-Chain first rest)) h)
  typed_alone vars e p v (IsTyped.negation _ operand a one is) h = absurd (none_some e.node v (rolled (of.Not operand) e.node (nodes.rolls-Not operand)) h)
  typed_alone vars e p v (IsTyped.negated _ operand a one is) h = absurd (none_some e.node v (rolled (of.Negated operand) e.node (nodes.rolls-Negated operand)) h)
  typed_alone vars e p v (IsTyped.called _ part steps a _ one calls) h = absurd (none_some e.node v (rolled (of.Calls part steps) e.node (nodes.rolls-Calls part steps)) h)
  typed_alone vars e p v (IsTyped.branches _ condition one other c a b t model first is second third goes join) h =
      absurd (none_some e.node v (rolled (of.If condition one other) e.node (nodes.rolls-If condition one other)) h)
  typed_alone vars e p v (IsTyped.literal _ kind elements parts t model each goes join) h = absurd (none_some e.node v (rolled (of.Coll kind elements) e.node (nodes.rolls-Coll kind elements)) h)
  typed_alone vars e p v (IsTyped.extent _ m model class only) h = absurd (none_some e.node v (rolled (of.Extent model class) e.node (nodes.rolls-Extent model class)) h)
  typed_alone vars e p v (IsTyped.query _ number args parts q at each conform) h = absurd (none_some e.node v (rolled (of.Query number args) e.node (nodes.rolls-Query number args)) h)

  pub variable_typing : (vars : Variables) (ty : Ty) (v : ℕ) (p : Typing) → IsTyped context vars (record { ty = ty; node = nodes.Variable v }) p → slice_get vars v ≡ Some p
  variable_typing vars ty v p typed = typed_alone vars (record { ty = ty; node = nodes.Variable v }) p v typed (rolled (of.Variable v) (nodes.Variable v) (nodes.rolls-Variable v))
