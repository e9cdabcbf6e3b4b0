-- The value of an expression asks of queries only what the expression calls: where two sorts of values of queries agree on these, it is one.
use Rattle.std.specs.Prelude.{◌≡◌, ℕ, suc, List, [], ◌∷◌, ◌++◌, map, Contains}
use Rattle.std.specs.List.{flat_map}
use Rattle.std.proofs.Common.{refl, sym, ap, subst, ◌∙◌, zero, arith}
use mathlib.Core.Path.{fun_ext}
use Rattle.qv_syntax.specs.declared.ty.Ty.{Ty}
use Rattle.qv_syntax.specs.declared.typed.Typed.{Typed, roll-Typed, map-Typed, ind-Typed, fold-roll-Typed}
use Rattle.qv_syntax.specs.declared.typed.Node.{Node, roll-Node, map-Node, fold-roll-Node, out-roll-Node}
use Rattle.qv_syntax.specs.declared.typed.Node.TheVariants as nodes
use Rattle.qv_syntax.specs.declared.typed.Call.{Call, roll-Call, map-Call, fold-Call, fold-roll-Call, out-Call, out-roll-Call}
use Rattle.qv_syntax.specs.declared.typed.Call.TheOpen as of
use Rattle.qv_syntax.specs.declared.typed.TypedInfix.{TypedInfix, roll-TypedInfix, map-TypedInfix, fold-TypedInfix, fold-roll-TypedInfix}
use Rattle.qv_syntax.specs.declared.typed.TypedPostfix.{TypedPostfix, roll-TypedPostfix, map-TypedPostfix, fold-TypedPostfix, fold-roll-TypedPostfix}
use Rattle.qv_syntax.specs.Parts.{IsWithin, CallsQuery, parts_of, node_parts, call_parts, parts_of_call}
use Rattle.qvtr_semantics.specs.declared.out.Out.{Out}
use Rattle.qvtr_semantics.specs.Objects.{Setting}
use Rattle.qvtr_semantics.specs.Expressions.{Meaning, Operated, Called, Queries, node_meaning, typed_meaning, infix_meaning, call_meaning, postfix_meaning, meaning}
use Rattle.qvtr_semantics.proofs.ExpressionLaws.{node_of}
use Rattle.mof_metamodel.proofs.Facts.{contains_first}

contains_later : {X : Type 0} (x y : X) (ys : List X) → Contains ys x → Contains (y ∷ ys) x
contains_later x y ys c = let (k, within, is) = c in (suc k, omega arith, is)

contains_left : {X : Type 0} (x : X) (xs ys : List X) → Contains xs x → Contains (xs ++ ys) x
contains_left x [] ys c = let (k, within, is) = c in absurd (omega arith)
contains_left x (z ∷ xs) ys (zero, within, is) = (0, omega arith, is)
contains_left x (z ∷ xs) ys (suc k, within, is) = contains_later x z (xs ++ ys) (contains_left x xs ys (k, omega arith, is))

contains_right : {X : Type 0} (x : X) (xs ys : List X) → Contains ys x → Contains (xs ++ ys) x
contains_right x [] ys c = c
contains_right x (z ∷ xs) ys c = contains_later x z (xs ++ ys) (contains_right x xs ys c)

-- ---- agreement

-- the values agree on the queries that the expression calls
Agree : Queries → Queries → Typed → Type 0
Agree q r e = (n : ℕ) → CallsQuery e n → (args : List Out) → q n args ≡ r n args

AllAgree : Queries → Queries → List Typed → Type 0
AllAgree q r es = (part : Typed) → Contains es part → Agree q r part

parts_agree : (q r : Queries) (e : Typed) → Agree q r e → AllAgree q r (parts_of e)
unfolding Agree AllAgree
parts_agree q r e agree part c n calls args =
    agree n (calls.0, calls.1, IsWithin.inside e part _ c calls.2) args

first_agrees : (q r : Queries) (e : Typed) (es : List Typed) → AllAgree q r (e ∷ es) → Agree q r e
unfolding AllAgree
first_agrees q r e es agree = agree e (contains_first e es)

others_agree : (q r : Queries) (e : Typed) (es : List Typed) → AllAgree q r (e ∷ es) → AllAgree q r es
unfolding AllAgree
others_agree q r e es agree part c = agree part (contains_later part e es c)

left_agree : (q r : Queries) (es fs : List Typed) → AllAgree q r (es ++ fs) → AllAgree q r es
unfolding AllAgree
left_agree q r es fs agree part c = agree part (contains_left part es fs c)

right_agree : (q r : Queries) (es fs : List Typed) → AllAgree q r (es ++ fs) → AllAgree q r fs
unfolding AllAgree
right_agree q r es fs agree part c = agree part (contains_right part es fs c)

module _ (s : Setting) where
  -- ---- what the parts of an expression are

  abbrev call_of : Queries → Call → Called
  call_of q = fold-Call Called Meaning Meaning Operated Called (call_meaning s) (node_meaning s q) typed_meaning infix_meaning postfix_meaning

  abbrev infix_of : Queries → TypedInfix → Operated
  infix_of q = fold-TypedInfix Called Meaning Meaning Operated Called (call_meaning s) (node_meaning s q) typed_meaning infix_meaning postfix_meaning

  abbrev postfix_of : Queries → TypedPostfix → Called
  postfix_of q = fold-TypedPostfix Called Meaning Meaning Operated Called (call_meaning s) (node_meaning s q) typed_meaning infix_meaning postfix_meaning

  TypedSame : Typed → Type 0
  TypedSame e = (q r : Queries) → Agree q r e → meaning s q e ≡ meaning s r e

  NodeSame : Node → Type 0
  NodeSame node = (ty : Ty) (q r : Queries) → Agree q r (record { ty = ty; node = node }) → node_of s q node ≡ node_of s r node

  CallSame : Call → Type 0
  CallSame call = (q r : Queries) → AllAgree q r (call_parts (out-Call call)) → call_of q call ≡ call_of r call

  InfixSame : TypedInfix → Type 0
  InfixSame link = (q r : Queries) → Agree q r link.right → infix_of q link ≡ infix_of r link

  PostfixSame : TypedPostfix → Type 0
  PostfixSame step = (q r : Queries) → AllAgree q r (parts_of_call step) → postfix_of q step ≡ postfix_of r step

  abbrev T : Type 0
  T = (e : Typed) × TypedSame e

  abbrev N : Type 0
  N = (n : Node) × NodeSame n

  abbrev C : Type 0
  C = (c : Call) × CallSame c

  abbrev I : Type 0
  I = (i : TypedInfix) × InfixSame i

  abbrev P : Type 0
  P = (p : TypedPostfix) × PostfixSame p

  abbrev expressions : List T → List Typed
  expressions es = map (λ e. e.0) es

  typed_values : (q r : Queries) (es : List T) → AllAgree q r (expressions es) → map (meaning s q) (expressions es) ≡ map (meaning s r) (expressions es)
  unfolding TypedSame
  typed_values q r [] agree = refl
  typed_values q r (e ∷ es) agree =
      ap (λ m. m ∷ map (meaning s q) (expressions es)) (e.1 q r (first_agrees q r e.0 (expressions es) agree))
      ∙ ap (λ ms. meaning s r e.0 ∷ ms) (typed_values q r es (others_agree q r e.0 (expressions es) agree))

  abbrev links : List I → List TypedInfix
  links ls = map (λ l. l.0) ls

  link_values : (q r : Queries) (ls : List I) → AllAgree q r (map (λ l. l.right) (links ls)) → map (infix_of q) (links ls) ≡ map (infix_of r) (links ls)
  unfolding InfixSame
  link_values q r [] agree = refl
  link_values q r (l ∷ ls) agree =
      ap (λ m. m ∷ map (infix_of q) (links ls)) (l.1 q r (first_agrees q r l.0.right (map (λ k. k.right) (links ls)) agree))
      ∙ ap (λ ms. infix_of r l.0 ∷ ms) (link_values q r ls (others_agree q r l.0.right (map (λ k. k.right) (links ls)) agree))

  abbrev steps : List P → List TypedPostfix
  steps ps = map (λ p. p.0) ps

  step_values : (q r : Queries) (ps : List P) → AllAgree q r (flat_map parts_of_call (steps ps)) → map (postfix_of q) (steps ps) ≡ map (postfix_of r) (steps ps)
  unfolding PostfixSame
  step_values q r [] agree = refl
  step_values q r (p ∷ ps) agree =
      ap (λ m. m ∷ map (postfix_of q) (steps ps)) (p.1 q r (left_agree q r (parts_of_call p.0) (flat_map parts_of_call (steps ps)) agree))
      ∙ ap (λ ms. postfix_of r p.0 ∷ ms) (step_values q r ps (right_agree q r (parts_of_call p.0) (flat_map parts_of_call (steps ps)) agree))

  -- ---- nodes

  abbrev node_layer_of : Queries → of.Node-F Call Node Typed TypedInfix TypedPostfix → Meaning
  node_layer_of q d = node_meaning s q (map-Node Call Node Typed TypedInfix TypedPostfix Called Meaning Meaning Operated Called (call_of q) (node_of s q) (meaning s q) (infix_of q) (postfix_of q) d)

  node_by : (d : of.Node-F Call Node Typed TypedInfix TypedPostfix)
      → ((q r : Queries) → AllAgree q r (node_parts d) → ((n : ℕ) (args : List Typed) → d ≡ of.Query n args → (outs : List Out) → q n outs ≡ r n outs) → node_layer_of q d ≡ node_layer_of r d)
      → NodeSame (roll-Node d)
  unfolding NodeSame AllAgree Agree
  node_by d h ty q r agree =
      let e : Typed = record { ty = ty; node = roll-Node d } in
      let parts = subst (λ x. AllAgree q r (node_parts x)) (out-roll-Node d) (parts_agree q r e agree) in
      fold-roll-Node Called Meaning Meaning Operated Called (call_meaning s) (node_meaning s q) typed_meaning infix_meaning postfix_meaning d
      ∙ h q r parts (λ n args is outs. agree n (ty, args, subst (λ x. IsWithin e (record { ty = ty; node = x })) (ap roll-Node is ∙ nodes.rolls-Query n args) (IsWithin.whole e)) outs)
      ∙ sym (fold-roll-Node Called Meaning Meaning Operated Called (call_meaning s) (node_meaning s r) typed_meaning infix_meaning postfix_meaning d)

  two : {A B D : Type 0} (f : A → B → D) (a b : A) (c d : B) → a ≡ b → c ≡ d → f a c ≡ f b d
  two f a b c d h k = ap (λ x. f x c) h ∙ ap (f b) k

  abbrev plain : of.Node-F C N T I P → of.Node-F Call Node Typed TypedInfix TypedPostfix
  plain y = map-Node C N T I P Call Node Typed TypedInfix TypedPostfix (λ x. x.0) (λ x. x.0) (λ x. x.0) (λ x. x.0) (λ x. x.0) y

  node_layer : (y : of.Node-F C N T I P) → NodeSame (roll-Node (plain y))
  unfolding TypedSame
  node_layer (of.Number value) = node_by (of.Number value) (λ q r parts own. refl)
  node_layer (of.Str value) = node_by (of.Str value) (λ q r parts own. refl)
  node_layer (of.Bool value) = node_by (of.Bool value) (λ q r parts own. refl)
  node_layer of.Null = node_by of.Null (λ q r parts own. refl)
  node_layer of.Invalid = node_by of.Invalid (λ q r parts own. refl)
  node_layer (of.EnumLiteral m e l) = node_by (of.EnumLiteral m e l) (λ q r parts own. refl)
  node_layer (of.Variable n) = node_by (of.Variable n) (λ q r parts own. refl)
  node_layer (of.Let n value body) = node_by (of.Let n value.0 body.0) (λ q r parts own.
      two (λ v b. node_meaning s r (of.Let n v b)) (meaning s q value.0) (meaning s r value.0) (meaning s q body.0) (meaning s r body.0)
      (value.1 q r (first_agrees q r value.0 (body.0 ∷ []) parts))
      (body.1 q r (first_agrees q r body.0 [] (others_agree q r value.0 (body.0 ∷ []) parts))))
  node_layer (of.Chain first rest) = node_by (of.Chain first.0 (links rest)) (λ q r parts own.
      two (λ f ls. node_meaning s r (of.Chain f ls)) (meaning s q first.0) (meaning s r first.0) (map (infix_of q) (links rest)) (map (infix_of r) (links rest))
      (first.1 q r (first_agrees q r first.0 (map (λ l. l.right) (links rest)) parts))
      (link_values q r rest (others_agree q r first.0 (map (λ l. l.right) (links rest)) parts)))
  node_layer (of.Not operand) = node_by (of.Not operand.0) (λ q r parts own.
      ap (λ m. node_meaning s r (of.Not m)) (operand.1 q r (first_agrees q r operand.0 [] parts)))
  node_layer (of.Negated operand) = node_by (of.Negated operand.0) (λ q r parts own.
      ap (λ m. node_meaning s r (of.Negated m)) (operand.1 q r (first_agrees q r operand.0 [] parts)))
  node_layer (of.Calls part calls) = node_by (of.Calls part.0 (steps calls)) (λ q r parts own.
      two (λ m cs. node_meaning s r (of.Calls m cs)) (meaning s q part.0) (meaning s r part.0) (map (postfix_of q) (steps calls)) (map (postfix_of r) (steps calls))
      (part.1 q r (first_agrees q r part.0 (flat_map parts_of_call (steps calls)) parts))
      (step_values q r calls (others_agree q r part.0 (flat_map parts_of_call (steps calls)) parts)))
  node_layer (of.If condition one other) = node_by (of.If condition.0 one.0 other.0) (λ q r parts own.
      let more = others_agree q r condition.0 (one.0 ∷ other.0 ∷ []) parts in
      ap (λ m. node_meaning s r (of.If m (meaning s q one.0) (meaning s q other.0))) (condition.1 q r (first_agrees q r condition.0 (one.0 ∷ other.0 ∷ []) parts))
      ∙ two (λ a b. node_meaning s r (of.If (meaning s r condition.0) a b)) (meaning s q one.0) (meaning s r one.0) (meaning s q other.0) (meaning s r other.0)
      (one.1 q r (first_agrees q r one.0 (other.0 ∷ []) more)) (other.1 q r (first_agrees q r other.0 [] (others_agree q r one.0 (other.0 ∷ []) more))))
  node_layer (of.Coll kind elements) = node_by (of.Coll kind (expressions elements)) (λ q r parts own.
      ap (λ ms. node_meaning s r (of.Coll kind ms)) (typed_values q r elements parts))
  node_layer (of.Extent m c) = node_by (of.Extent m c) (λ q r parts own. refl)
  node_layer (of.Query n args) = node_by (of.Query n (expressions args)) (λ q r parts own.
      ap (λ ms. node_meaning s q (of.Query n ms)) (typed_values q r args parts)
      ∙ fun_ext (λ scope. own n (expressions args) refl (map (λ m. m scope) (map (meaning s r) (expressions args)))))

  -- ---- calls

  abbrev call_layer_of : Queries → of.Call-F Call Node Typed TypedInfix TypedPostfix → Called
  call_layer_of q d = call_meaning s (map-Call Call Node Typed TypedInfix TypedPostfix Called Meaning Meaning Operated Called (call_of q) (node_of s q) (meaning s q) (infix_of q) (postfix_of q) d)

  call_by : (d : of.Call-F Call Node Typed TypedInfix TypedPostfix) → ((q r : Queries) → AllAgree q r (call_parts d) → call_layer_of q d ≡ call_layer_of r d) → CallSame (roll-Call d)
  unfolding CallSame
  call_by d h q r agree =
      fold-roll-Call Called Meaning Meaning Operated Called (call_meaning s) (node_meaning s q) typed_meaning infix_meaning postfix_meaning d
      ∙ h q r (subst (λ x. AllAgree q r (call_parts x)) (out-roll-Call d) agree)
      ∙ sym (fold-roll-Call Called Meaning Meaning Operated Called (call_meaning s) (node_meaning s r) typed_meaning infix_meaning postfix_meaning d)

  call_layer : (y : of.Call-F C N T I P) → CallSame (roll-Call (map-Call C N T I P Call Node Typed TypedInfix TypedPostfix (λ x. x.0) (λ x. x.0) (λ x. x.0) (λ x. x.0) (λ x. x.0) y))
  unfolding TypedSame
  call_layer (of.Property p v) = call_by (of.Property p v) (λ q r agree. refl)
  call_layer (of.CollectProperty p v) = call_by (of.CollectProperty p v) (λ q r agree. refl)
  call_layer (of.Operation o args) = call_by (of.Operation o (expressions args)) (λ q r agree. ap (λ ms. call_meaning s (of.Operation o ms)) (typed_values q r args agree))
  call_layer (of.Class o c) = call_by (of.Class o c) (λ q r agree. refl)
  call_layer (of.Collection o args) = call_by (of.Collection o (expressions args)) (λ q r agree. ap (λ ms. call_meaning s (of.Collection o ms)) (typed_values q r args agree))
  call_layer (of.Iterator i n body) = call_by (of.Iterator i n body.0) (λ q r agree.
      ap (λ m. call_meaning s (of.Iterator i n m)) (body.1 q r (first_agrees q r body.0 [] agree)))

  -- ---- expressions, operators and steps

  typed_layer : (y : of.Typed-F C N T I P) → TypedSame (roll-Typed (map-Typed C N T I P Call Node Typed TypedInfix TypedPostfix (λ x. x.0) (λ x. x.0) (λ x. x.0) (λ x. x.0) (λ x. x.0) y))
  unfolding TypedSame NodeSame
  typed_layer y q r agree =
      fold-roll-Typed Called Meaning Meaning Operated Called (call_meaning s) (node_meaning s q) typed_meaning infix_meaning postfix_meaning (record { ty = y.ty; node = y.node.0 })
      ∙ y.node.1 y.ty q r agree
      ∙ sym (fold-roll-Typed Called Meaning Meaning Operated Called (call_meaning s) (node_meaning s r) typed_meaning infix_meaning postfix_meaning (record { ty = y.ty; node = y.node.0 }))

  infix_layer : (y : of.TypedInfix-F C N T I P) → InfixSame (roll-TypedInfix (map-TypedInfix C N T I P Call Node Typed TypedInfix TypedPostfix (λ x. x.0) (λ x. x.0) (λ x. x.0) (λ x. x.0) (λ x. x.0) y))
  unfolding InfixSame TypedSame
  infix_layer y q r agree =
      let d = map-TypedInfix C N T I P Call Node Typed TypedInfix TypedPostfix (λ x. x.0) (λ x. x.0) (λ x. x.0) (λ x. x.0) (λ x. x.0) y in
      fold-roll-TypedInfix Called Meaning Meaning Operated Called (call_meaning s) (node_meaning s q) typed_meaning infix_meaning postfix_meaning d
      ∙ ap (λ m. record { operator = y.operator; right = m }) (y.right.1 q r agree)
      ∙ sym (fold-roll-TypedInfix Called Meaning Meaning Operated Called (call_meaning s) (node_meaning s r) typed_meaning infix_meaning postfix_meaning d)

  postfix_layer : (y : of.TypedPostfix-F C N T I P) → PostfixSame (roll-TypedPostfix (map-TypedPostfix C N T I P Call Node Typed TypedInfix TypedPostfix (λ x. x.0) (λ x. x.0) (λ x. x.0) (λ x. x.0) (λ x. x.0) y))
  unfolding PostfixSame CallSame
  postfix_layer y q r agree =
      let d = map-TypedPostfix C N T I P Call Node Typed TypedInfix TypedPostfix (λ x. x.0) (λ x. x.0) (λ x. x.0) (λ x. x.0) (λ x. x.0) y in
      fold-roll-TypedPostfix Called Meaning Meaning Operated Called (call_meaning s) (node_meaning s q) typed_meaning infix_meaning postfix_meaning d
      ∙ y.call.1 q r agree
      ∙ sym (fold-roll-TypedPostfix Called Meaning Meaning Operated Called (call_meaning s) (node_meaning s r) typed_meaning infix_meaning postfix_meaning d)

  same_meaning_by : (e : Typed) → TypedSame e
  same_meaning_by = ind-Typed CallSame NodeSame TypedSame InfixSame PostfixSame
      (λ x y is. subst (λ z. CallSame (roll-Call z)) is (call_layer y))
      (λ x y is. subst (λ z. NodeSame (roll-Node z)) is (node_layer y))
      (λ x y is. subst (λ z. TypedSame (roll-Typed z)) is (typed_layer y))
      (λ x y is. subst (λ z. InfixSame (roll-TypedInfix z)) is (infix_layer y))
      (λ x y is. subst (λ z. PostfixSame (roll-TypedPostfix z)) is (postfix_layer y))

  pub same_meaning : (e : Typed) (q r : Queries) → ((n : ℕ) → CallsQuery e n → (args : List Out) → q n args ≡ r n args) → meaning s q e ≡ meaning s r e
  unfolding TypedSame Agree
  same_meaning e q r agree = same_meaning_by e q r agree
