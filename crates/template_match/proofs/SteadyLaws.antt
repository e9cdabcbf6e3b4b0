-- The value of an expression that is ready is one in scopes that agree on the variables that are known.
use Rattle.std.specs.Prelude.{◌≡◌, ℕ, suc, zero, Bool, true, ◌&&◌, List, [], ◌∷◌, ◌++◌, map, length, take}
use Rattle.std.proofs.Common.{refl, sym, ap, subst, ◌∙◌, arith}
use Rattle.std.proofs.lemmas.Bool.{and_parts}
use mathlib.Core.Path.{fun_ext}
use Rattle.qv_syntax.specs.declared.typed.Typed.{Typed, roll-Typed, map-Typed, ind-Typed, fold-roll-Typed}
use Rattle.qv_syntax.specs.declared.typed.Node.{Node, roll-Node, map-Node, fold-roll-Node}
use Rattle.qv_syntax.specs.declared.typed.Call.{Call, roll-Call, map-Call, fold-Call, fold-roll-Call}
use Rattle.qv_syntax.specs.declared.typed.Call.TheOpen as of
use Rattle.qv_syntax.specs.declared.typed.TypedInfix.{TypedInfix, roll-TypedInfix, map-TypedInfix, fold-TypedInfix, fold-roll-TypedInfix}
use Rattle.qv_syntax.specs.declared.typed.TypedPostfix.{TypedPostfix, roll-TypedPostfix, map-TypedPostfix, fold-TypedPostfix, fold-roll-TypedPostfix}
use Rattle.qvtr_semantics.specs.declared.datum.Datum.{Datum}
use Rattle.qvtr_semantics.specs.declared.out.Out.{Out}
use Rattle.qvtr_semantics.specs.declared.out.Out.TheVariants.{One}
use Rattle.qvtr_semantics.specs.Outs.{boolean_of}
use Rattle.qvtr_semantics.specs.Objects.{Setting}
use Rattle.qvtr_semantics.specs.Expressions.{Scope, Meaning, Operated, Called, Queries, variable, with_variable, operated, all_operated, all_called, in_scope, each, negation, negated, chosen, literal, operation, with_collection, on_collection, node_meaning, typed_meaning, infix_meaning, call_meaning, postfix_meaning, meaning}
use Rattle.qvtr_semantics.specs.Iterators.{iterated}
use Rattle.qvtr_semantics.specs.Templates.{Values}
use Rattle.qvtr_semantics.proofs.ExpressionLaws.{node_of}
use Rattle.template_match.specs.Ready.{is_known, all_true, node_ready, call_ready, typed_ready, infix_ready, postfix_ready, is_ready, is_node_ready, is_call_ready, is_infix_ready, is_postfix_ready}

-- ---- scopes with one more variable

within_alike : (k : ℕ) (x y : Scope) (v : Out) (m : ℕ) → length x ≡ length y → variable x m ≡ variable y m → variable (take k x ++ v ∷ []) m ≡ variable (take k y ++ v ∷ []) m
within_alike zero x y v m long h = refl
within_alike (suc k) [] [] v m long h = refl
within_alike (suc k) [] (q ∷ y) v m long h = absurd (omega (arith, long))
within_alike (suc k) (p ∷ x) [] v m long h = absurd (omega (arith, long))
within_alike (suc k) (p ∷ x) (q ∷ y) v zero long h = h
within_alike (suc k) (p ∷ x) (q ∷ y) v (suc m) long h = let short : length x ≡ length y = omega (arith, long) in within_alike k x y v m short h

within_long : (k : ℕ) (x y : Scope) (v : Out) → length x ≡ length y → length (take k x ++ v ∷ []) ≡ length (take k y ++ v ∷ [])
within_long zero x y v long = refl
within_long (suc k) [] [] v long = refl
within_long (suc k) [] (q ∷ y) v long = absurd (omega (arith, long))
within_long (suc k) (p ∷ x) [] v long = absurd (omega (arith, long))
within_long (suc k) (p ∷ x) (q ∷ y) v long = let short : length x ≡ length y = omega (arith, long) in ap suc (within_long k x y v short)

module _ (s : Setting) (q : Queries) (a : Values) where
  -- scopes of one length that agree on what is known
  record Alike (x y : Scope) : Type 0 where
    long : length x ≡ length y
    known : (n : ℕ) → is_known a n ≡ true → variable x n ≡ variable y n

  one_more : (k : ℕ) (x y : Scope) (v : Out) → Alike x y → Alike (with_variable x k v) (with_variable y k v)
  one_more k x y v same = record { long = within_long k x y v same.long; known = λ n is. within_alike k x y v n same.long (same.known n is) }

  abbrev call_of : Call → Called
  call_of = fold-Call Called Meaning Meaning Operated Called (call_meaning s) (node_meaning s q) typed_meaning infix_meaning postfix_meaning

  abbrev infix_of : TypedInfix → Operated
  infix_of = fold-TypedInfix Called Meaning Meaning Operated Called (call_meaning s) (node_meaning s q) typed_meaning infix_meaning postfix_meaning

  abbrev postfix_of : TypedPostfix → Called
  postfix_of = fold-TypedPostfix Called Meaning Meaning Operated Called (call_meaning s) (node_meaning s q) typed_meaning infix_meaning postfix_meaning

  TypedSame : Typed → Type 0
  TypedSame e = is_ready a e ≡ true → (x y : Scope) → Alike x y → meaning s q e x ≡ meaning s q e y

  NodeSame : Node → Type 0
  NodeSame node = is_node_ready a node ≡ true → (x y : Scope) → Alike x y → node_of s q node x ≡ node_of s q node y

  CallSame : Call → Type 0
  CallSame call = is_call_ready a call ≡ true → (x y : Scope) → Alike x y → (o : Out) → call_of call x o ≡ call_of call y o

  InfixSame : TypedInfix → Type 0
  InfixSame link = is_infix_ready a link ≡ true → (x y : Scope) → Alike x y → (infix_of link).right x ≡ (infix_of link).right y

  PostfixSame : TypedPostfix → Type 0
  PostfixSame step = is_postfix_ready a step ≡ true → (x y : Scope) → Alike x y → (o : Out) → postfix_of step x o ≡ postfix_of step y o

  abbrev T : Type 0
  T = (e : Typed) × TypedSame e

  abbrev N : Type 0
  N = (n : Node) × NodeSame n

  abbrev C : Type 0
  C = (c : Call) × CallSame c

  abbrev I : Type 0
  I = (i : TypedInfix) × InfixSame i

  abbrev P : Type 0
  P = (p : TypedPostfix) × PostfixSame p

  abbrev expressions : List T → List Typed
  expressions es = map (λ e. e.0) es

  abbrev values_in : Scope → List T → List Out
  values_in x es = in_scope x (map (meaning s q) (expressions es))

  typed_values : (es : List T) → all_true (map (is_ready a) (expressions es)) ≡ true → (x y : Scope) → Alike x y → values_in x es ≡ values_in y es
  unfolding TypedSame
  typed_values [] ready x y same = refl
  typed_values (e ∷ es) ready x y same =
      let both = and_parts (is_ready a e.0) (all_true (map (is_ready a) (expressions es))) ready in
      ap (λ o. o ∷ values_in x es) (e.1 both.0 x y same) ∙ ap (λ os. meaning s q e.0 y ∷ os) (typed_values es both.1 x y same)

  abbrev links : List I → List TypedInfix
  links ls = map (λ l. l.0) ls

  link_values : (ls : List I) → all_true (map (is_infix_ready a) (links ls)) ≡ true → (x y : Scope) → Alike x y → (o : Out)
      → all_operated x o (map infix_of (links ls)) ≡ all_operated y o (map infix_of (links ls))
  unfolding InfixSame
  link_values [] ready x y same o = refl
  link_values (l ∷ ls) ready x y same o =
      let both = and_parts (is_infix_ready a l.0) (all_true (map (is_infix_ready a) (links ls))) ready in
      ap (λ r. all_operated x (operated (infix_of l.0).operator o r) (map infix_of (links ls))) (l.1 both.0 x y same)
      ∙ link_values ls both.1 x y same (operated (infix_of l.0).operator o ((infix_of l.0).right y))

  abbrev steps : List P → List TypedPostfix
  steps ps = map (λ p. p.0) ps

  step_values : (ps : List P) → all_true (map (is_postfix_ready a) (steps ps)) ≡ true → (x y : Scope) → Alike x y → (o : Out)
      → all_called x o (map postfix_of (steps ps)) ≡ all_called y o (map postfix_of (steps ps))
  unfolding PostfixSame
  step_values [] ready x y same o = refl
  step_values (p ∷ ps) ready x y same o =
      let both = and_parts (is_postfix_ready a p.0) (all_true (map (is_postfix_ready a) (steps ps))) ready in
      ap (λ r. all_called x r (map postfix_of (steps ps))) (p.1 both.0 x y same o)
      ∙ step_values ps both.1 x y same (postfix_of p.0 y o)

  -- ---- nodes

  abbrev node_layer_of : of.Node-F Call Node Typed TypedInfix TypedPostfix → Meaning
  node_layer_of d = node_meaning s q (map-Node Call Node Typed TypedInfix TypedPostfix Called Meaning Meaning Operated Called call_of (node_of s q) (meaning s q) infix_of postfix_of d)

  abbrev node_layer_ready : of.Node-F Call Node Typed TypedInfix TypedPostfix → Bool
  node_layer_ready d = node_ready a (map-Node Call Node Typed TypedInfix TypedPostfix Bool Bool Bool Bool Bool (is_call_ready a) (is_node_ready a) (is_ready a) (is_infix_ready a) (is_postfix_ready a) d)

  node_by : (d : of.Node-F Call Node Typed TypedInfix TypedPostfix)
      → (node_layer_ready d ≡ true → (x y : Scope) → Alike x y → node_layer_of d x ≡ node_layer_of d y) → NodeSame (roll-Node d)
  unfolding NodeSame
  node_by d h ready x y same =
      ap (λ (m : Meaning). m x) (fold-roll-Node Called Meaning Meaning Operated Called (call_meaning s) (node_meaning s q) typed_meaning infix_meaning postfix_meaning d)
      ∙ h (sym (fold-roll-Node Bool Bool Bool Bool Bool call_ready (node_ready a) typed_ready infix_ready postfix_ready d) ∙ ready) x y same
      ∙ sym (ap (λ (m : Meaning). m y) (fold-roll-Node Called Meaning Meaning Operated Called (call_meaning s) (node_meaning s q) typed_meaning infix_meaning postfix_meaning d))

  abbrev plain : of.Node-F C N T I P → of.Node-F Call Node Typed TypedInfix TypedPostfix
  plain y = map-Node C N T I P Call Node Typed TypedInfix TypedPostfix (λ x. x.0) (λ x. x.0) (λ x. x.0) (λ x. x.0) (λ x. x.0) y

  node_layer : (y : of.Node-F C N T I P) → NodeSame (roll-Node (plain y))
  unfolding TypedSame
  node_layer (of.Number value) = node_by (of.Number value) (λ ready x y same. refl)
  node_layer (of.Str value) = node_by (of.Str value) (λ ready x y same. refl)
  node_layer (of.Bool value) = node_by (of.Bool value) (λ ready x y same. refl)
  node_layer of.Null = node_by of.Null (λ ready x y same. refl)
  node_layer of.Invalid = node_by of.Invalid (λ ready x y same. refl)
  node_layer (of.EnumLiteral m e l) = node_by (of.EnumLiteral m e l) (λ ready x y same. refl)
  node_layer (of.Variable n) = node_by (of.Variable n) (λ ready x y same. same.known n ready)
  node_layer (of.Let n value body) = node_by (of.Let n value.0 body.0) (λ ready x y same.
      let both = and_parts (is_ready a value.0) (is_ready a body.0) ready in
      ap (λ v. meaning s q body.0 (with_variable x n v)) (value.1 both.0 x y same)
      ∙ body.1 both.1 (with_variable x n (meaning s q value.0 y)) (with_variable y n (meaning s q value.0 y)) (one_more n x y (meaning s q value.0 y) same))
  node_layer (of.Chain first rest) = node_by (of.Chain first.0 (links rest)) (λ ready x y same.
      let both = and_parts (is_ready a first.0) (all_true (map (is_infix_ready a) (links rest))) ready in
      ap (λ o. all_operated x o (map infix_of (links rest))) (first.1 both.0 x y same) ∙ link_values rest both.1 x y same (meaning s q first.0 y))
  node_layer (of.Not operand) = node_by (of.Not operand.0) (λ ready x y same. ap negation (operand.1 ready x y same))
  node_layer (of.Negated operand) = node_by (of.Negated operand.0) (λ ready x y same. ap negated (operand.1 ready x y same))
  node_layer (of.Calls part calls) = node_by (of.Calls part.0 (steps calls)) (λ ready x y same.
      let both = and_parts (is_ready a part.0) (all_true (map (is_postfix_ready a) (steps calls))) ready in
      ap (λ o. all_called x o (map postfix_of (steps calls))) (part.1 both.0 x y same) ∙ step_values calls both.1 x y same (meaning s q part.0 y))
  node_layer (of.If condition one other) = node_by (of.If condition.0 one.0 other.0) (λ ready x y same.
      let both = and_parts (is_ready a condition.0) (is_ready a one.0 && is_ready a other.0) ready in
      let more = and_parts (is_ready a one.0) (is_ready a other.0) both.1 in
      ap (λ o. chosen (boolean_of o) (meaning s q one.0 x) (meaning s q other.0 x)) (condition.1 both.0 x y same)
      ∙ ap (λ o. chosen (boolean_of (meaning s q condition.0 y)) o (meaning s q other.0 x)) (one.1 more.0 x y same)
      ∙ ap (λ o. chosen (boolean_of (meaning s q condition.0 y)) (meaning s q one.0 y) o) (other.1 more.1 x y same))
  node_layer (of.Coll kind elements) = node_by (of.Coll kind (expressions elements)) (λ ready x y same. ap (literal kind) (typed_values elements ready x y same))
  node_layer (of.Extent m c) = node_by (of.Extent m c) (λ ready x y same. refl)
  node_layer (of.Query n args) = node_by (of.Query n (expressions args)) (λ ready x y same. ap (q n) (typed_values args ready x y same))

  -- ---- calls

  abbrev call_layer_of : of.Call-F Call Node Typed TypedInfix TypedPostfix → Called
  call_layer_of d = call_meaning s (map-Call Call Node Typed TypedInfix TypedPostfix Called Meaning Meaning Operated Called call_of (node_of s q) (meaning s q) infix_of postfix_of d)

  abbrev call_layer_ready : of.Call-F Call Node Typed TypedInfix TypedPostfix → Bool
  call_layer_ready d = call_ready (map-Call Call Node Typed TypedInfix TypedPostfix Bool Bool Bool Bool Bool (is_call_ready a) (is_node_ready a) (is_ready a) (is_infix_ready a) (is_postfix_ready a) d)

  call_by : (d : of.Call-F Call Node Typed TypedInfix TypedPostfix)
      → (call_layer_ready d ≡ true → (x y : Scope) → Alike x y → (o : Out) → call_layer_of d x o ≡ call_layer_of d y o) → CallSame (roll-Call d)
  unfolding CallSame
  call_by d h ready x y same o =
      ap (λ (m : Called). m x o) (fold-roll-Call Called Meaning Meaning Operated Called (call_meaning s) (node_meaning s q) typed_meaning infix_meaning postfix_meaning d)
      ∙ h (sym (fold-roll-Call Bool Bool Bool Bool Bool call_ready (node_ready a) typed_ready infix_ready postfix_ready d) ∙ ready) x y same o
      ∙ sym (ap (λ (m : Called). m y o) (fold-roll-Call Called Meaning Meaning Operated Called (call_meaning s) (node_meaning s q) typed_meaning infix_meaning postfix_meaning d))

  each_same : (n : ℕ) (body : T) → is_ready a body.0 ≡ true → (x y : Scope) → Alike x y → (ds : List Datum) → each x n (meaning s q body.0) ds ≡ each y n (meaning s q body.0) ds
  unfolding TypedSame
  each_same n body ready x y same [] = refl
  each_same n body ready x y same (d ∷ ds) =
      ap (λ o. o ∷ each x n (meaning s q body.0) ds) (body.1 ready (with_variable x n (One d)) (with_variable y n (One d)) (one_more n x y (One d) same))
      ∙ ap (λ os. meaning s q body.0 (with_variable y n (One d)) ∷ os) (each_same n body ready x y same ds)

  call_layer : (y : of.Call-F C N T I P) → CallSame (roll-Call (map-Call C N T I P Call Node Typed TypedInfix TypedPostfix (λ x. x.0) (λ x. x.0) (λ x. x.0) (λ x. x.0) (λ x. x.0) y))
  unfolding TypedSame
  call_layer (of.Property p v) = call_by (of.Property p v) (λ ready x y same o. refl)
  call_layer (of.CollectProperty p v) = call_by (of.CollectProperty p v) (λ ready x y same o. refl)
  call_layer (of.Operation op args) = call_by (of.Operation op (expressions args)) (λ ready x y same o. ap (operation op o) (typed_values args ready x y same))
  call_layer (of.Class op c) = call_by (of.Class op c) (λ ready x y same o. refl)
  call_layer (of.Collection op args) = call_by (of.Collection op (expressions args)) (λ ready x y same o.
      ap (λ vs. with_collection o (λ c. on_collection op c vs)) (typed_values args ready x y same))
  call_layer (of.Iterator i n body) = call_by (of.Iterator i n body.0) (λ ready x y same o.
      ap (with_collection o) (fun_ext (λ c. ap (iterated i c) (each_same n body ready x y same c.elements))))

  -- ---- expressions, operators and steps

  typed_layer : (y : of.Typed-F C N T I P) → TypedSame (roll-Typed (map-Typed C N T I P Call Node Typed TypedInfix TypedPostfix (λ x. x.0) (λ x. x.0) (λ x. x.0) (λ x. x.0) (λ x. x.0) y))
  unfolding TypedSame NodeSame
  typed_layer z ready x y same =
      let d = map-Typed C N T I P Call Node Typed TypedInfix TypedPostfix (λ x. x.0) (λ x. x.0) (λ x. x.0) (λ x. x.0) (λ x. x.0) z in
      ap (λ (m : Meaning). m x) (fold-roll-Typed Called Meaning Meaning Operated Called (call_meaning s) (node_meaning s q) typed_meaning infix_meaning postfix_meaning d)
      ∙ z.node.1 (sym (fold-roll-Typed Bool Bool Bool Bool Bool call_ready (node_ready a) typed_ready infix_ready postfix_ready d) ∙ ready) x y same
      ∙ sym (ap (λ (m : Meaning). m y) (fold-roll-Typed Called Meaning Meaning Operated Called (call_meaning s) (node_meaning s q) typed_meaning infix_meaning postfix_meaning d))

  infix_layer : (y : of.TypedInfix-F C N T I P) → InfixSame (roll-TypedInfix (map-TypedInfix C N T I P Call Node Typed TypedInfix TypedPostfix (λ x. x.0) (λ x. x.0) (λ x. x.0) (λ x. x.0) (λ x. x.0) y))
  unfolding InfixSame TypedSame
  infix_layer z ready x y same =
      let d = map-TypedInfix C N T I P Call Node Typed TypedInfix TypedPostfix (λ x. x.0) (λ x. x.0) (λ x. x.0) (λ x. x.0) (λ x. x.0) z in
      ap (λ (m : Operated). m.right x) (fold-roll-TypedInfix Called Meaning Meaning Operated Called (call_meaning s) (node_meaning s q) typed_meaning infix_meaning postfix_meaning d)
      ∙ z.right.1 (sym (fold-roll-TypedInfix Bool Bool Bool Bool Bool call_ready (node_ready a) typed_ready infix_ready postfix_ready d) ∙ ready) x y same
      ∙ sym (ap (λ (m : Operated). m.right y) (fold-roll-TypedInfix Called Meaning Meaning Operated Called (call_meaning s) (node_meaning s q) typed_meaning infix_meaning postfix_meaning d))

  postfix_layer : (y : of.TypedPostfix-F C N T I P) → PostfixSame (roll-TypedPostfix (map-TypedPostfix C N T I P Call Node Typed TypedInfix TypedPostfix (λ x. x.0) (λ x. x.0) (λ x. x.0) (λ x. x.0) (λ x. x.0) y))
  unfolding PostfixSame CallSame
  postfix_layer z ready x y same o =
      let d = map-TypedPostfix C N T I P Call Node Typed TypedInfix TypedPostfix (λ x. x.0) (λ x. x.0) (λ x. x.0) (λ x. x.0) (λ x. x.0) z in
      ap (λ (m : Called). m x o) (fold-roll-TypedPostfix Called Meaning Meaning Operated Called (call_meaning s) (node_meaning s q) typed_meaning infix_meaning postfix_meaning d)
      ∙ z.call.1 (sym (fold-roll-TypedPostfix Bool Bool Bool Bool Bool call_ready (node_ready a) typed_ready infix_ready postfix_ready d) ∙ ready) x y same o
      ∙ sym (ap (λ (m : Called). m y o) (fold-roll-TypedPostfix Called Meaning Meaning Operated Called (call_meaning s) (node_meaning s q) typed_meaning infix_meaning postfix_meaning d))

  steady_by : (e : Typed) → TypedSame e
  steady_by = ind-Typed CallSame NodeSame TypedSame InfixSame PostfixSame
      (λ x y is. subst (λ z. CallSame (roll-Call z)) is (call_layer y))
      (λ x y is. subst (λ z. NodeSame (roll-Node z)) is (node_layer y))
      (λ x y is. subst (λ z. TypedSame (roll-Typed z)) is (typed_layer y))
      (λ x y is. subst (λ z. InfixSame (roll-TypedInfix z)) is (infix_layer y))
      (λ x y is. subst (λ z. PostfixSame (roll-TypedPostfix z)) is (postfix_layer y))

  pub steady : (e : Typed) → is_ready a e ≡ true → (x y : Scope) → length x ≡ length y → ((n : ℕ) → is_known a n ≡ true → variable x n ≡ variable y n)
      → meaning s q e x ≡ meaning s q e y
  unfolding TypedSame
  steady e ready x y long known = steady_by e ready x y (record { long = long; known = known })
