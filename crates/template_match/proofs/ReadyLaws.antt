-- An expression is ready if each variable of the relation that it names is known.
use Rattle.std.specs.Prelude.{◌≡◌, ℕ, Bool, true, ◌&&◌, List, [], ◌∷◌, ◌++◌, map, Contains}
use Rattle.std.specs.List.{flat_map}
use Rattle.std.proofs.Common.{refl, ap, subst, ◌∙◌}
use Rattle.std.proofs.lemmas.Bool.{and_from}
use Rattle.qv_syntax.specs.declared.ty.Ty.{Ty}
use Rattle.qv_syntax.specs.declared.typed.Typed.{Typed, roll-Typed, map-Typed, ind-Typed, fold-roll-Typed}
use Rattle.qv_syntax.specs.declared.typed.Node.{Node, roll-Node, map-Node, fold-roll-Node, out-roll-Node}
use Rattle.qv_syntax.specs.declared.typed.Node.TheVariants as nodes
use Rattle.qv_syntax.specs.declared.typed.Call.{Call, roll-Call, map-Call, fold-roll-Call, out-Call, out-roll-Call}
use Rattle.qv_syntax.specs.declared.typed.Call.TheOpen as of
use Rattle.qv_syntax.specs.declared.typed.TypedInfix.{TypedInfix, roll-TypedInfix, map-TypedInfix, fold-roll-TypedInfix}
use Rattle.qv_syntax.specs.declared.typed.TypedPostfix.{TypedPostfix, roll-TypedPostfix, map-TypedPostfix, fold-roll-TypedPostfix}
use Rattle.qv_syntax.specs.Parts.{IsWithin, Names, parts_of, node_parts, call_parts, parts_of_call}
use Rattle.qvtr_semantics.specs.Templates.{Values}
use Rattle.template_match.proofs.ListLaws.{contains_later, contains_left, contains_right}
use Rattle.mof_metamodel.proofs.Facts.{contains_first}
use Rattle.template_match.specs.Ready.{is_known, all_true, node_ready, call_ready, typed_ready, infix_ready, postfix_ready, is_ready, is_node_ready, is_call_ready, is_infix_ready, is_postfix_ready}

module _ (a : Values) where
  -- each variable that the expression names is known
  Known : Typed → Type 0
  Known e = (n : ℕ) → Names e n → is_known a n ≡ true

  AllKnown : List Typed → Type 0
  AllKnown es = (part : Typed) → Contains es part → Known part

  parts_known : (e : Typed) → Known e → AllKnown (parts_of e)
  unfolding Known AllKnown
  parts_known e known part c n names = known n (names.0, IsWithin.inside e part _ c names.1)

  first_known : (e : Typed) (es : List Typed) → AllKnown (e ∷ es) → Known e
  unfolding AllKnown
  first_known e es known = known e (contains_first e es)

  others_known : (e : Typed) (es : List Typed) → AllKnown (e ∷ es) → AllKnown es
  unfolding AllKnown
  others_known e es known part c = known part (contains_later part e es c)

  left_known : (es fs : List Typed) → AllKnown (es ++ fs) → AllKnown es
  unfolding AllKnown
  left_known es fs known part c = known part (contains_left part es fs c)

  right_known : (es fs : List Typed) → AllKnown (es ++ fs) → AllKnown fs
  unfolding AllKnown
  right_known es fs known part c = known part (contains_right part es fs c)

  TypedKnown : Typed → Type 0
  TypedKnown e = Known e → is_ready a e ≡ true

  NodeKnown : Node → Type 0
  NodeKnown node = (ty : Ty) → Known (record { ty = ty; node = node }) → is_node_ready a node ≡ true

  CallKnown : Call → Type 0
  CallKnown call = AllKnown (call_parts (out-Call call)) → is_call_ready a call ≡ true

  InfixKnown : TypedInfix → Type 0
  InfixKnown link = Known link.right → is_infix_ready a link ≡ true

  PostfixKnown : TypedPostfix → Type 0
  PostfixKnown step = AllKnown (parts_of_call step) → is_postfix_ready a step ≡ true

  abbrev T : Type 0
  T = (e : Typed) × TypedKnown e

  abbrev N : Type 0
  N = (n : Node) × NodeKnown n

  abbrev C : Type 0
  C = (c : Call) × CallKnown c

  abbrev I : Type 0
  I = (i : TypedInfix) × InfixKnown i

  abbrev P : Type 0
  P = (p : TypedPostfix) × PostfixKnown p

  abbrev expressions : List T → List Typed
  expressions es = map (λ e. e.0) es

  typed_all : (es : List T) → AllKnown (expressions es) → all_true (map (is_ready a) (expressions es)) ≡ true
  unfolding TypedKnown
  typed_all [] known = refl
  typed_all (e ∷ es) known =
      and_from (is_ready a e.0) (all_true (map (is_ready a) (expressions es))) (e.1 (first_known e.0 (expressions es) known)) (typed_all es (others_known e.0 (expressions es) known))

  abbrev links : List I → List TypedInfix
  links ls = map (λ l. l.0) ls

  abbrev rights : List I → List Typed
  rights ls = map (λ k. k.right) (links ls)

  links_all : (ls : List I) → AllKnown (rights ls) → all_true (map (is_infix_ready a) (links ls)) ≡ true
  unfolding InfixKnown
  links_all [] known = refl
  links_all (l ∷ ls) known =
      and_from (is_infix_ready a l.0) (all_true (map (is_infix_ready a) (links ls))) (l.1 (first_known l.0.right (rights ls) known)) (links_all ls (others_known l.0.right (rights ls) known))

  abbrev steps : List P → List TypedPostfix
  steps ps = map (λ p. p.0) ps

  steps_all : (ps : List P) → AllKnown (flat_map parts_of_call (steps ps)) → all_true (map (is_postfix_ready a) (steps ps)) ≡ true
  unfolding PostfixKnown
  steps_all [] known = refl
  steps_all (p ∷ ps) known =
      and_from (is_postfix_ready a p.0) (all_true (map (is_postfix_ready a) (steps ps))) (p.1 (left_known (parts_of_call p.0) (flat_map parts_of_call (steps ps)) known))
      (steps_all ps (right_known (parts_of_call p.0) (flat_map parts_of_call (steps ps)) known))

  -- ---- nodes

  abbrev node_layer_ready : of.Node-F Call Node Typed TypedInfix TypedPostfix → Bool
  node_layer_ready d = node_ready a (map-Node Call Node Typed TypedInfix TypedPostfix Bool Bool Bool Bool Bool (is_call_ready a) (is_node_ready a) (is_ready a) (is_infix_ready a) (is_postfix_ready a) d)

  node_by : (d : of.Node-F Call Node Typed TypedInfix TypedPostfix)
      → (AllKnown (node_parts d) → ((n : ℕ) → d ≡ of.Variable n → is_known a n ≡ true) → node_layer_ready d ≡ true) → NodeKnown (roll-Node d)
  unfolding NodeKnown AllKnown Known
  node_by d h ty known =
      let e : Typed = record { ty = ty; node = roll-Node d } in
      fold-roll-Node Bool Bool Bool Bool Bool call_ready (node_ready a) typed_ready infix_ready postfix_ready d
      ∙ h (subst (λ x. AllKnown (node_parts x)) (out-roll-Node d) (parts_known e known))
      (λ n is. known n (ty, subst (λ x. IsWithin e (record { ty = ty; node = x })) (ap roll-Node is ∙ nodes.rolls-Variable n) (IsWithin.whole e)))

  abbrev plain : of.Node-F C N T I P → of.Node-F Call Node Typed TypedInfix TypedPostfix
  plain y = map-Node C N T I P Call Node Typed TypedInfix TypedPostfix (λ x. x.0) (λ x. x.0) (λ x. x.0) (λ x. x.0) (λ x. x.0) y

  node_layer : (y : of.Node-F C N T I P) → NodeKnown (roll-Node (plain y))
  unfolding TypedKnown
  node_layer (of.Number value) = node_by (of.Number value) (λ parts own. refl)
  node_layer (of.Str value) = node_by (of.Str value) (λ parts own. refl)
  node_layer (of.Bool value) = node_by (of.Bool value) (λ parts own. refl)
  node_layer of.Null = node_by of.Null (λ parts own. refl)
  node_layer of.Invalid = node_by of.Invalid (λ parts own. refl)
  node_layer (of.EnumLiteral m e l) = node_by (of.EnumLiteral m e l) (λ parts own. refl)
  node_layer (of.Variable n) = node_by (of.Variable n) (λ parts own. own n refl)
  node_layer (of.Let n value body) = node_by (of.Let n value.0 body.0) (λ parts own.
      and_from (is_ready a value.0) (is_ready a body.0) (value.1 (first_known value.0 (body.0 ∷ []) parts))
      (body.1 (first_known body.0 [] (others_known value.0 (body.0 ∷ []) parts))))
  node_layer (of.Chain first rest) = node_by (of.Chain first.0 (links rest)) (λ parts own.
      and_from (is_ready a first.0) (all_true (map (is_infix_ready a) (links rest))) (first.1 (first_known first.0 (rights rest) parts))
      (links_all rest (others_known first.0 (rights rest) parts)))
  node_layer (of.Not operand) = node_by (of.Not operand.0) (λ parts own. operand.1 (first_known operand.0 [] parts))
  node_layer (of.Negated operand) = node_by (of.Negated operand.0) (λ parts own. operand.1 (first_known operand.0 [] parts))
  node_layer (of.Calls part calls) = node_by (of.Calls part.0 (steps calls)) (λ parts own.
      and_from (is_ready a part.0) (all_true (map (is_postfix_ready a) (steps calls))) (part.1 (first_known part.0 (flat_map parts_of_call (steps calls)) parts))
      (steps_all calls (others_known part.0 (flat_map parts_of_call (steps calls)) parts)))
  node_layer (of.If condition one other) = node_by (of.If condition.0 one.0 other.0) (λ parts own.
      let more = others_known condition.0 (one.0 ∷ other.0 ∷ []) parts in
      and_from (is_ready a condition.0) (is_ready a one.0 && is_ready a other.0) (condition.1 (first_known condition.0 (one.0 ∷ other.0 ∷ []) parts))
      (and_from (is_ready a one.0) (is_ready a other.0) (one.1 (first_known one.0 (other.0 ∷ []) more)) (other.1 (first_known other.0 [] (others_known one.0 (other.0 ∷ []) more)))))
  node_layer (of.Coll kind elements) = node_by (of.Coll kind (expressions elements)) (λ parts own. typed_all elements parts)
  node_layer (of.Extent m c) = node_by (of.Extent m c) (λ parts own. refl)
  node_layer (of.Query n args) = node_by (of.Query n (expressions args)) (λ parts own. typed_all args parts)

  -- ---- calls

  abbrev call_layer_ready : of.Call-F Call Node Typed TypedInfix TypedPostfix → Bool
  call_layer_ready d = call_ready (map-Call Call Node Typed TypedInfix TypedPostfix Bool Bool Bool Bool Bool (is_call_ready a) (is_node_ready a) (is_ready a) (is_infix_ready a) (is_postfix_ready a) d)

  call_by : (d : of.Call-F Call Node Typed TypedInfix TypedPostfix) → (AllKnown (call_parts d) → call_layer_ready d ≡ true) → CallKnown (roll-Call d)
  unfolding CallKnown
  call_by d h known =
      fold-roll-Call Bool Bool Bool Bool Bool call_ready (node_ready a) typed_ready infix_ready postfix_ready d
      ∙ h (subst (λ x. AllKnown (call_parts x)) (out-roll-Call d) known)

  call_layer : (y : of.Call-F C N T I P) → CallKnown (roll-Call (map-Call C N T I P Call Node Typed TypedInfix TypedPostfix (λ x. x.0) (λ x. x.0) (λ x. x.0) (λ x. x.0) (λ x. x.0) y))
  unfolding TypedKnown
  call_layer (of.Property p v) = call_by (of.Property p v) (λ parts. refl)
  call_layer (of.CollectProperty p v) = call_by (of.CollectProperty p v) (λ parts. refl)
  call_layer (of.Operation o args) = call_by (of.Operation o (expressions args)) (λ parts. typed_all args parts)
  call_layer (of.Class o c) = call_by (of.Class o c) (λ parts. refl)
  call_layer (of.Collection o args) = call_by (of.Collection o (expressions args)) (λ parts. typed_all args parts)
  call_layer (of.Iterator i n body) = call_by (of.Iterator i n body.0) (λ parts. body.1 (first_known body.0 [] parts))

  -- ---- expressions, operators and steps

  typed_layer : (y : of.Typed-F C N T I P) → TypedKnown (roll-Typed (map-Typed C N T I P Call Node Typed TypedInfix TypedPostfix (λ x. x.0) (λ x. x.0) (λ x. x.0) (λ x. x.0) (λ x. x.0) y))
  unfolding TypedKnown NodeKnown
  typed_layer z known =
      fold-roll-Typed Bool Bool Bool Bool Bool call_ready (node_ready a) typed_ready infix_ready postfix_ready (record { ty = z.ty; node = z.node.0 })
      ∙ z.node.1 z.ty known

  infix_layer : (y : of.TypedInfix-F C N T I P) → InfixKnown (roll-TypedInfix (map-TypedInfix C N T I P Call Node Typed TypedInfix TypedPostfix (λ x. x.0) (λ x. x.0) (λ x. x.0) (λ x. x.0) (λ x. x.0) y))
  unfolding InfixKnown TypedKnown
  infix_layer z known =
      fold-roll-TypedInfix Bool Bool Bool Bool Bool call_ready (node_ready a) typed_ready infix_ready postfix_ready (map-TypedInfix C N T I P Call Node Typed TypedInfix TypedPostfix (λ x. x.0) (λ x. x.0) (λ x. x.0) (λ x. x.0) (λ x. x.0) z)
      ∙ z.right.1 known

  postfix_layer : (y : of.TypedPostfix-F C N T I P) → PostfixKnown (roll-TypedPostfix (map-TypedPostfix C N T I P Call Node Typed TypedInfix TypedPostfix (λ x. x.0) (λ x. x.0) (λ x. x.0) (λ x. x.0) (λ x. x.0) y))
  unfolding PostfixKnown CallKnown
  postfix_layer z known =
      fold-roll-TypedPostfix Bool Bool Bool Bool Bool call_ready (node_ready a) typed_ready infix_ready postfix_ready (map-TypedPostfix C N T I P Call Node Typed TypedInfix TypedPostfix (λ x. x.0) (λ x. x.0) (λ x. x.0) (λ x. x.0) (λ x. x.0) z)
      ∙ z.call.1 known

  ready_by : (e : Typed) → TypedKnown e
  ready_by = ind-Typed CallKnown NodeKnown TypedKnown InfixKnown PostfixKnown
      (λ x y is. subst (λ z. CallKnown (roll-Call z)) is (call_layer y))
      (λ x y is. subst (λ z. NodeKnown (roll-Node z)) is (node_layer y))
      (λ x y is. subst (λ z. TypedKnown (roll-Typed z)) is (typed_layer y))
      (λ x y is. subst (λ z. InfixKnown (roll-TypedInfix z)) is (infix_layer y))
      (λ x y is. subst (λ z. PostfixKnown (roll-TypedPostfix z)) is (postfix_layer y))

  pub ready_from_known : (e : Typed) → ((n : ℕ) → Names e n → is_known a n ≡ true) → is_ready a e ≡ true
  unfolding TypedKnown Known
  ready_from_known e known = ready_by e known
