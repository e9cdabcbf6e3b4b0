-- The value of an expression that speaks of sources is one over models that agree but for the target, and has no object of the target: by
-- recursion on the tree, a form at a time.
use Rattle.std.specs.Prelude.{◌≡◌, ◌≢◌, ℕ, zero, suc, List, [], ◌∷◌, ◌++◌, map, take, length, Contains}
use Rattle.std.specs.List.{flat_map}
use Rattle.std.proofs.Common.{refl, sym, ap, subst, ◌∙◌, arith}
use Rattle.object_tables.specs.Models.{ModelData}
use Rattle.qv_syntax.specs.declared.query.ModelSlot.{ModelSlot}
use Rattle.qv_syntax.specs.declared.ty.Ty.{Ty}
use Rattle.qv_syntax.specs.declared.typed.Typed.{Typed, roll-Typed, map-Typed, ind-Typed, fold-roll-Typed}
use Rattle.qv_syntax.specs.declared.typed.Node.{Node, roll-Node, map-Node, fold-roll-Node, out-roll-Node}
use Rattle.qv_syntax.specs.declared.typed.Node.TheVariants as nodes
use Rattle.qv_syntax.specs.declared.typed.Call.{Call, roll-Call, map-Call, fold-Call, fold-roll-Call, out-Call, out-roll-Call}
use Rattle.qv_syntax.specs.declared.typed.Call.TheOpen as of
use Rattle.qv_syntax.specs.declared.typed.Values.{Values}
use Rattle.qv_syntax.specs.declared.typed.TypedInfix.{TypedInfix, roll-TypedInfix, map-TypedInfix, fold-TypedInfix, fold-roll-TypedInfix}
use Rattle.qv_syntax.specs.declared.typed.TypedPostfix.{TypedPostfix, roll-TypedPostfix, map-TypedPostfix, fold-TypedPostfix, fold-roll-TypedPostfix}
use Rattle.qv_syntax.specs.Parts.{IsWithin, Names, CallsQuery, parts_of, node_parts, call_parts, parts_of_call}
use Rattle.qvtr_semantics.specs.declared.datum.Datum.{Datum}
use Rattle.qvtr_semantics.specs.declared.out.Out.{Out}
use Rattle.qvtr_semantics.specs.declared.out.Out.TheVariants as outs
use Rattle.qvtr_semantics.specs.Outs.{Collection, boolean_of}
use Rattle.qvtr_semantics.specs.Objects.{Setting, property}
use Rattle.qvtr_semantics.specs.Iterators.{iterated, collect}
use Rattle.qvtr_semantics.specs.Expressions.{Scope, Meaning, Operated, Called, Queries, variable, with_variable, operated, all_operated, all_called, in_scope, each, negation, negated, chosen, literal, operation, with_datum, with_collection, on_collection, node_meaning, typed_meaning, infix_meaning, call_meaning, postfix_meaning, meaning}
use Rattle.qvtr_semantics.proofs.ExpressionLaws.{node_of}
use Rattle.source_laws.specs.Agreement.{AgreeBut}
use Rattle.source_laws.specs.SourceValues.{IsOfSources, HasNoTarget}
use Rattle.source_laws.specs.SourceExpressions.{AsksNoTargetExtent}
use Rattle.template_match.proofs.ListLaws.{contains_later, contains_left, contains_right}
use Rattle.mof_metamodel.proofs.Facts.{contains_first}
use Rattle.source_laws.proofs.DataLaws.{AllOfSources}
use Rattle.source_laws.proofs.OperationLaws.{AllApart, integer_apart, operated_apart, negation_apart, negated_apart, chosen_apart, literal_apart, operation_apart, on_collection_apart, collect_apart, iterated_apart}
use Rattle.source_laws.proofs.SettingLaws.{property_same, property_apart, class_operation_same, class_operation_apart, extent_same, extent_apart}

module _ (t : ℕ) (slots : List ModelSlot) (ms ns : List ModelData) (agree : AgreeBut t ms ns) (q r : Queries) (Free : ℕ → Type 0) where
  abbrev s : Setting
  s = record { slots = slots; models = ms }

  abbrev u : Setting
  u = record { slots = slots; models = ns }

  -- the first is the second, and has no object of the target
  abbrev Alike : Out → Out → Type 0
  Alike x y = (x ≡ y) × HasNoTarget t x

  abbrev QueryAlike : ℕ → Type 0
  QueryAlike n = (args : List Out) → AllApart t args → Alike (q n args) (r n args)

  -- ---- what is asked of an expression, and of a scope

  -- no extent is of the target, the variables that are named are free of its objects, and so are the queries that are called
  record Fine (e : Typed) : Type 0 where
    extents : AsksNoTargetExtent t e
    names : (v : ℕ) → Names e v → Free v
    queries : (n : ℕ) → CallsQuery e n → QueryAlike n

  AllFine : List Typed → Type 0
  AllFine es = (part : Typed) → Contains es part → Fine part

  -- scopes of one length that agree on the free variables, which have no objects of the target
  record FineScope (x y : Scope) : Type 0 where
    long : length x ≡ length y
    alike : (n : ℕ) → Free n → Alike (variable x n) (variable y n)

  parts_fine : (e : Typed) → Fine e → AllFine (parts_of e)
  unfolding AllFine
  parts_fine e fine part c = record {
    extents = λ ty m class within. fine.extents ty m class (IsWithin.inside e part _ c within);
    names = λ v names. fine.names v (names.0, IsWithin.inside e part _ c names.1);
    queries = λ n calls. fine.queries n (calls.0, calls.1, IsWithin.inside e part _ c calls.2);
  }

  first_fine : (e : Typed) (es : List Typed) → AllFine (e ∷ es) → Fine e
  unfolding AllFine
  first_fine e es fine = fine e (contains_first e es)

  others_fine : (e : Typed) (es : List Typed) → AllFine (e ∷ es) → AllFine es
  unfolding AllFine
  others_fine e es fine part c = fine part (contains_later part e es c)

  left_fine : (es fs : List Typed) → AllFine (es ++ fs) → AllFine es
  unfolding AllFine
  left_fine es fs fine part c = fine part (contains_left part es fs c)

  right_fine : (es fs : List Typed) → AllFine (es ++ fs) → AllFine fs
  unfolding AllFine
  right_fine es fs fine part c = fine part (contains_right part es fs c)

  -- ---- scopes with one more variable

  within_alike : (k : ℕ) (x y : Scope) (v w : Out) (n : ℕ) → length x ≡ length y → Alike (variable x n) (variable y n) → Alike v w
      → Alike (variable (take k x ++ v ∷ []) n) (variable (take k y ++ w ∷ []) n)
  within_alike zero x y v w zero long p a = a
  within_alike zero x y v w (suc n) long p a = (refl, tt)
  within_alike (suc k) [] [] v w zero long p a = a
  within_alike (suc k) [] [] v w (suc n) long p a = (refl, tt)
  within_alike (suc k) [] (e ∷ y) v w n long p a = absurd (omega (arith, long))
  within_alike (suc k) (d ∷ x) [] v w n long p a = absurd (omega (arith, long))
  within_alike (suc k) (d ∷ x) (e ∷ y) v w zero long p a = p
  within_alike (suc k) (d ∷ x) (e ∷ y) v w (suc n) long p a = let short : length x ≡ length y = omega (arith, long) in within_alike k x y v w n short p a

  within_long : (k : ℕ) (x y : Scope) (v w : Out) → length x ≡ length y → length (take k x ++ v ∷ []) ≡ length (take k y ++ w ∷ [])
  within_long zero x y v w long = refl
  within_long (suc k) [] [] v w long = refl
  within_long (suc k) [] (e ∷ y) v w long = absurd (omega (arith, long))
  within_long (suc k) (d ∷ x) [] v w long = absurd (omega (arith, long))
  within_long (suc k) (d ∷ x) (e ∷ y) v w long = let short : length x ≡ length y = omega (arith, long) in ap suc (within_long k x y v w short)

  one_more : (k : ℕ) (x y : Scope) (v w : Out) → FineScope x y → Alike v w → FineScope (with_variable x k v) (with_variable y k w)
  one_more k x y v w scope both = record { long = within_long k x y v w scope.long; alike = λ n free. within_alike k x y v w n scope.long (scope.alike n free) both }

  -- ---- the two meanings

  abbrev call_by : Setting → Queries → Call → Called
  call_by s q = fold-Call Called Meaning Meaning Operated Called (call_meaning s) (node_meaning s q) typed_meaning infix_meaning postfix_meaning

  abbrev infix_by : Setting → Queries → TypedInfix → Operated
  infix_by s q = fold-TypedInfix Called Meaning Meaning Operated Called (call_meaning s) (node_meaning s q) typed_meaning infix_meaning postfix_meaning

  abbrev postfix_by : Setting → Queries → TypedPostfix → Called
  postfix_by s q = fold-TypedPostfix Called Meaning Meaning Operated Called (call_meaning s) (node_meaning s q) typed_meaning infix_meaning postfix_meaning

  TypedAlike : Typed → Type 0
  TypedAlike e = Fine e → (x y : Scope) → FineScope x y → Alike (meaning s q e x) (meaning u r e y)

  NodeAlike : Node → Type 0
  NodeAlike node = (ty : Ty) → Fine (record { ty = ty; node = node }) → (x y : Scope) → FineScope x y → Alike (node_of s q node x) (node_of u r node y)

  CallAlike : Call → Type 0
  CallAlike call = AllFine (call_parts (out-Call call)) → (x y : Scope) → FineScope x y → (o : Out) → HasNoTarget t o → Alike (call_by s q call x o) (call_by u r call y o)

  InfixAlike : TypedInfix → Type 0
  InfixAlike link = Fine link.right → (x y : Scope) → FineScope x y
      → ((infix_by s q link).operator ≡ (infix_by u r link).operator) × Alike ((infix_by s q link).right x) ((infix_by u r link).right y)

  PostfixAlike : TypedPostfix → Type 0
  PostfixAlike step = AllFine (parts_of_call step) → (x y : Scope) → FineScope x y → (o : Out) → HasNoTarget t o → Alike (postfix_by s q step x o) (postfix_by u r step y o)

  abbrev T : Type 0
  T = (e : Typed) × TypedAlike e

  abbrev N : Type 0
  N = (n : Node) × NodeAlike n

  abbrev C : Type 0
  C = (c : Call) × CallAlike c

  abbrev I : Type 0
  I = (i : TypedInfix) × InfixAlike i

  abbrev P : Type 0
  P = (p : TypedPostfix) × PostfixAlike p

  -- ---- several parts

  abbrev expressions : List T → List Typed
  expressions es = map (λ e. e.0) es

  abbrev values_by : Setting → Queries → Scope → List T → List Out
  values_by s q x es = in_scope x (map (meaning s q) (expressions es))

  typed_values : (es : List T) → AllFine (expressions es) → (x y : Scope) → FineScope x y → (values_by s q x es ≡ values_by u r y es) × AllApart t (values_by s q x es)
  unfolding TypedAlike
  typed_values [] fine x y scope = (refl, tt)
  typed_values (e ∷ es) fine x y scope =
      let first : Alike (meaning s q e.0 x) (meaning u r e.0 y) = e.1 (first_fine e.0 (expressions es) fine) x y scope in
      let others : (values_by s q x es ≡ values_by u r y es) × AllApart t (values_by s q x es) = typed_values es (others_fine e.0 (expressions es) fine) x y scope in
      (ap (λ o. o ∷ values_by s q x es) first.0 ∙ ap (λ os. meaning u r e.0 y ∷ os) others.0, (first.1, others.1))

  abbrev links : List I → List TypedInfix
  links ls = map (λ l. l.0) ls

  operated_alike : (l : I) → Fine l.0.right → (x y : Scope) → FineScope x y → (o : Out)
      → operated (infix_by s q l.0).operator o ((infix_by s q l.0).right x) ≡ operated (infix_by u r l.0).operator o ((infix_by u r l.0).right y)
  unfolding InfixAlike
  operated_alike l fine x y scope o =
      let both = l.1 fine x y scope in
      ap (λ p. operated p o ((infix_by s q l.0).right x)) both.0 ∙ ap (operated (infix_by u r l.0).operator o) both.1.0

  link_values : (ls : List I) → AllFine (map (λ l. l.right) (links ls)) → (x y : Scope) → FineScope x y → (o : Out) → HasNoTarget t o
      → Alike (all_operated x o (map (infix_by s q) (links ls))) (all_operated y o (map (infix_by u r) (links ls)))
  link_values [] fine x y scope o apart = (refl, apart)
  link_values (l ∷ ls) fine x y scope o apart =
      let first : Out = operated (infix_by s q l.0).operator o ((infix_by s q l.0).right x) in
      let more = link_values ls (others_fine l.0.right (map (λ k. k.right) (links ls)) fine) x y scope first
      (operated_apart t (infix_by s q l.0).operator o ((infix_by s q l.0).right x)) in
      (more.0 ∙ ap (λ z. all_operated y z (map (infix_by u r) (links ls))) (operated_alike l (first_fine l.0.right (map (λ k. k.right) (links ls)) fine) x y scope o), more.1)

  abbrev steps : List P → List TypedPostfix
  steps ps = map (λ p. p.0) ps

  step_values : (ps : List P) → AllFine (flat_map parts_of_call (steps ps)) → (x y : Scope) → FineScope x y → (o : Out) → HasNoTarget t o
      → Alike (all_called x o (map (postfix_by s q) (steps ps))) (all_called y o (map (postfix_by u r) (steps ps)))
  unfolding PostfixAlike
  step_values [] fine x y scope o apart = (refl, apart)
  step_values (p ∷ ps) fine x y scope o apart =
      let first : Alike (postfix_by s q p.0 x o) (postfix_by u r p.0 y o) = p.1 (left_fine (parts_of_call p.0) (flat_map parts_of_call (steps ps)) fine) x y scope o apart in
      let more = step_values ps (right_fine (parts_of_call p.0) (flat_map parts_of_call (steps ps)) fine) x y scope (postfix_by s q p.0 x o) first.1 in
      (more.0 ∙ ap (λ z. all_called y z (map (postfix_by u r) (steps ps))) first.0, more.1)

  -- ---- nodes

  abbrev node_layer_by : Setting → Queries → of.Node-F Call Node Typed TypedInfix TypedPostfix → Meaning
  node_layer_by s q d = node_meaning s q (map-Node Call Node Typed TypedInfix TypedPostfix Called Meaning Meaning Operated Called (call_by s q) (node_of s q) (meaning s q) (infix_by s q) (postfix_by s q) d)

  -- what is asked of a node itself
  abbrev OwnFine : of.Node-F Call Node Typed TypedInfix TypedPostfix → Type 0
  OwnFine (of.Variable v) = Free v
  OwnFine (of.Extent m class) = m ≢ t
  OwnFine (of.Query n args) = QueryAlike n
  OwnFine d = Unit {0}

  own_fine : (ty : Ty) (d : of.Node-F Call Node Typed TypedInfix TypedPostfix) → Fine (record { ty = ty; node = roll-Node d }) → OwnFine d
  own_fine ty (of.Number value) fine = tt
  own_fine ty (of.Str value) fine = tt
  own_fine ty (of.Bool value) fine = tt
  own_fine ty of.Null fine = tt
  own_fine ty of.Invalid fine = tt
  own_fine ty (of.EnumLiteral m e l) fine = tt
  own_fine ty (of.Variable v) fine =
      let e : Typed = record { ty = ty; node = roll-Node (of.Variable v) } in
      fine.names v (ty, subst (λ x. IsWithin e (record { ty = ty; node = x })) (nodes.rolls-Variable v) (IsWithin.whole e))
  own_fine ty (of.Let n value body) fine = tt
  own_fine ty (of.Chain first rest) fine = tt
  own_fine ty (of.Not operand) fine = tt
  own_fine ty (of.Negated operand) fine = tt
  own_fine ty (of.Calls part calls) fine = tt
  own_fine ty (of.If condition this that) fine = tt
  own_fine ty (of.Coll kind elements) fine = tt
  own_fine ty (of.Extent m class) fine =
      let e : Typed = record { ty = ty; node = roll-Node (of.Extent m class) } in
      fine.extents ty m class (subst (λ x. IsWithin e (record { ty = ty; node = x })) (nodes.rolls-Extent m class) (IsWithin.whole e))
  own_fine ty (of.Query n args) fine =
      let e : Typed = record { ty = ty; node = roll-Node (of.Query n args) } in
      fine.queries n (ty, args, subst (λ x. IsWithin e (record { ty = ty; node = x })) (nodes.rolls-Query n args) (IsWithin.whole e))

  alike_by : (a b c d : Out) → a ≡ c → b ≡ d → Alike c d → Alike a b
  alike_by a b c d e f both = (e ∙ both.0 ∙ sym f, subst (HasNoTarget t) (sym e) both.1)

  node_by : (d : of.Node-F Call Node Typed TypedInfix TypedPostfix)
      → (AllFine (node_parts d) → OwnFine d → (x y : Scope) → FineScope x y → Alike (node_layer_by s q d x) (node_layer_by u r d y))
      → NodeAlike (roll-Node d)
  unfolding NodeAlike
  node_by d h ty fine x y scope =
      let e : Typed = record { ty = ty; node = roll-Node d } in
      let parts = subst (λ z. AllFine (node_parts z)) (out-roll-Node d) (parts_fine e fine) in
      alike_by (node_of s q (roll-Node d) x) (node_of u r (roll-Node d) y) (node_layer_by s q d x) (node_layer_by u r d y)
      (ap (λ (m : Meaning). m x) (fold-roll-Node Called Meaning Meaning Operated Called (call_meaning s) (node_meaning s q) typed_meaning infix_meaning postfix_meaning d))
      (ap (λ (m : Meaning). m y) (fold-roll-Node Called Meaning Meaning Operated Called (call_meaning u) (node_meaning u r) typed_meaning infix_meaning postfix_meaning d))
      (h parts (own_fine ty d fine) x y scope)

  abbrev plain : of.Node-F C N T I P → of.Node-F Call Node Typed TypedInfix TypedPostfix
  plain y = map-Node C N T I P Call Node Typed TypedInfix TypedPostfix (λ x. x.0) (λ x. x.0) (λ x. x.0) (λ x. x.0) (λ x. x.0) y

  node_layer : (y : of.Node-F C N T I P) → NodeAlike (roll-Node (plain y))
  unfolding TypedAlike
  node_layer (of.Number value) = node_by (of.Number value) (λ parts own x y scope. (refl, integer_apart t value))
  node_layer (of.Str value) = node_by (of.Str value) (λ parts own x y scope. (refl, tt))
  node_layer (of.Bool value) = node_by (of.Bool value) (λ parts own x y scope. (refl, tt))
  node_layer of.Null = node_by of.Null (λ parts own x y scope. (refl, tt))
  node_layer of.Invalid = node_by of.Invalid (λ parts own x y scope. (refl, tt))
  node_layer (of.EnumLiteral m e l) = node_by (of.EnumLiteral m e l) (λ parts own x y scope. (refl, tt))
  node_layer (of.Variable n) = node_by (of.Variable n) (λ parts own x y scope. scope.alike n own)
  node_layer (of.Let n value body) = node_by (of.Let n value.0 body.0) (λ parts own x y scope.
      let first = value.1 (first_fine value.0 (body.0 ∷ []) parts) x y scope in
      let second = body.1 (first_fine body.0 [] (others_fine value.0 (body.0 ∷ []) parts)) (with_variable x n (meaning s q value.0 x)) (with_variable y n (meaning u r value.0 y))
      (one_more n x y (meaning s q value.0 x) (meaning u r value.0 y) scope first) in
      second)
  node_layer (of.Chain first rest) = node_by (of.Chain first.0 (links rest)) (λ parts own x y scope.
      let head = first.1 (first_fine first.0 (map (λ l. l.right) (links rest)) parts) x y scope in
      let more = link_values rest (others_fine first.0 (map (λ l. l.right) (links rest)) parts) x y scope (meaning s q first.0 x) head.1 in
      (more.0 ∙ ap (λ o. all_operated y o (map (infix_by u r) (links rest))) head.0, more.1))
  node_layer (of.Not operand) = node_by (of.Not operand.0) (λ parts own x y scope.
      (ap negation (operand.1 (first_fine operand.0 [] parts) x y scope).0, negation_apart t (meaning s q operand.0 x)))
  node_layer (of.Negated operand) = node_by (of.Negated operand.0) (λ parts own x y scope.
      (ap negated (operand.1 (first_fine operand.0 [] parts) x y scope).0, negated_apart t (meaning s q operand.0 x)))
  node_layer (of.Calls part calls) = node_by (of.Calls part.0 (steps calls)) (λ parts own x y scope.
      let head = part.1 (first_fine part.0 (flat_map parts_of_call (steps calls)) parts) x y scope in
      let more = step_values calls (others_fine part.0 (flat_map parts_of_call (steps calls)) parts) x y scope (meaning s q part.0 x) head.1 in
      (more.0 ∙ ap (λ o. all_called y o (map (postfix_by u r) (steps calls))) head.0, more.1))
  node_layer (of.If condition this that) = node_by (of.If condition.0 this.0 that.0) (λ parts own x y scope.
      let more = others_fine condition.0 (this.0 ∷ that.0 ∷ []) parts in
      let asked = condition.1 (first_fine condition.0 (this.0 ∷ that.0 ∷ []) parts) x y scope in
      let left = this.1 (first_fine this.0 (that.0 ∷ []) more) x y scope in
      let right = that.1 (first_fine that.0 [] (others_fine this.0 (that.0 ∷ []) more)) x y scope in (
        ap (λ o. chosen (boolean_of o) (meaning s q this.0 x) (meaning s q that.0 x)) asked.0
            ∙ ap (λ o. chosen (boolean_of (meaning u r condition.0 y)) o (meaning s q that.0 x)) left.0
            ∙ ap (λ o. chosen (boolean_of (meaning u r condition.0 y)) (meaning u r this.0 y) o) right.0,
        chosen_apart t (boolean_of (meaning s q condition.0 x)) (meaning s q this.0 x) (meaning s q that.0 x) left.1 right.1,
      ))
  node_layer (of.Coll kind elements) = node_by (of.Coll kind (expressions elements)) (λ parts own x y scope.
      let all = typed_values elements parts x y scope in
      (ap (literal kind) all.0, literal_apart t kind (values_by s q x elements) all.1))
  node_layer (of.Extent m class) = node_by (of.Extent m class) (λ parts own x y scope. (extent_same t slots ms ns agree m class.0 own, extent_apart t slots ms ns agree m class.0 own))
  node_layer (of.Query n args) = node_by (of.Query n (expressions args)) (λ parts own x y scope.
      let all = typed_values args parts x y scope in
      let called = own (values_by s q x args) all.1 in
      (called.0 ∙ ap (r n) all.0, called.1))

  -- ---- calls

  abbrev call_layer_by : Setting → Queries → of.Call-F Call Node Typed TypedInfix TypedPostfix → Called
  call_layer_by s q d = call_meaning s (map-Call Call Node Typed TypedInfix TypedPostfix Called Meaning Meaning Operated Called (call_by s q) (node_of s q) (meaning s q) (infix_by s q) (postfix_by s q) d)

  call_from : (d : of.Call-F Call Node Typed TypedInfix TypedPostfix)
      → (AllFine (call_parts d) → (x y : Scope) → FineScope x y → (o : Out) → HasNoTarget t o → Alike (call_layer_by s q d x o) (call_layer_by u r d y o))
      → CallAlike (roll-Call d)
  unfolding CallAlike
  call_from d h fine x y scope o apart =
      alike_by (call_by s q (roll-Call d) x o) (call_by u r (roll-Call d) y o) (call_layer_by s q d x o) (call_layer_by u r d y o)
      (ap (λ (m : Called). m x o) (fold-roll-Call Called Meaning Meaning Operated Called (call_meaning s) (node_meaning s q) typed_meaning infix_meaning postfix_meaning d))
      (ap (λ (m : Called). m y o) (fold-roll-Call Called Meaning Meaning Operated Called (call_meaning u) (node_meaning u r) typed_meaning infix_meaning postfix_meaning d))
      (h (subst (λ z. AllFine (call_parts z)) (out-roll-Call d) fine) x y scope o apart)

  -- ---- of each element

  properties : (p : ℕ) (values : Values) (ds : List Datum) → AllOfSources t ds
      → (map (property s p values) ds ≡ map (property u p values) ds) × AllApart t (map (property s p values) ds)
  properties p values [] apart = (refl, tt)
  properties p values (d ∷ ds) apart =
      let more = properties p values ds apart.1 in (
        ap (λ o. o ∷ map (property s p values) ds) (property_same t slots ms ns agree p values d apart.0) ∙ ap (λ os. property u p values d ∷ os) more.0,
        (property_apart t slots ms ns agree p values d apart.0, more.1),
      )

  bodies : (n : ℕ) (body : T) → Fine body.0 → (x y : Scope) → FineScope x y → (ds : List Datum) → AllOfSources t ds
      → (each x n (meaning s q body.0) ds ≡ each y n (meaning u r body.0) ds) × AllApart t (each x n (meaning s q body.0) ds)
  unfolding TypedAlike
  bodies n body fine x y scope [] apart = (refl, tt)
  bodies n body fine x y scope (d ∷ ds) apart =
      let first = body.1 fine (with_variable x n (outs.One d)) (with_variable y n (outs.One d)) (one_more n x y (outs.One d) (outs.One d) scope (refl, apart.0)) in
      let more = bodies n body fine x y scope ds apart.1 in (
        ap (λ o. o ∷ each x n (meaning s q body.0) ds) first.0 ∙ ap (λ os. meaning u r body.0 (with_variable y n (outs.One d)) ∷ os) more.0,
        (first.1, more.1),
      )

  -- of a single datum, and of a collection, without objects of the target two functions that agree on these give the same
  on_datum : (f g : Datum → Out) (o : Out) → HasNoTarget t o → ((d : Datum) → IsOfSources t d → Alike (f d) (g d)) → Alike (with_datum o f) (with_datum o g)
  on_datum f g (outs.One d) apart h = h d apart
  on_datum f g (outs.Many k ds) apart h = (refl, tt)
  on_datum f g outs.Null apart h = (refl, tt)
  on_datum f g outs.Invalid apart h = (refl, tt)

  on_elements : (f g : Collection → Out) (o : Out) → HasNoTarget t o → ((c : Collection) → AllOfSources t c.elements → Alike (f c) (g c)) → Alike (with_collection o f) (with_collection o g)
  on_elements f g (outs.One d) apart h = (refl, tt)
  on_elements f g (outs.Many k ds) apart h = h (record { kind = k; elements = ds }) apart
  on_elements f g outs.Null apart h = (refl, tt)
  on_elements f g outs.Invalid apart h = (refl, tt)

  call_layer : (y : of.Call-F C N T I P) → CallAlike (roll-Call (map-Call C N T I P Call Node Typed TypedInfix TypedPostfix (λ x. x.0) (λ x. x.0) (λ x. x.0) (λ x. x.0) (λ x. x.0) y))
  call_layer (of.Property p v) = call_from (of.Property p v) (λ fine x y scope o apart.
      on_datum (property s p.0 v) (property u p.0 v) o apart (λ d a. (property_same t slots ms ns agree p.0 v d a, property_apart t slots ms ns agree p.0 v d a)))
  call_layer (of.CollectProperty p v) = call_from (of.CollectProperty p v) (λ fine x y scope o apart.
      on_elements (λ c. collect c (map (property s p.0 v) c.elements)) (λ c. collect c (map (property u p.0 v) c.elements)) o apart
      (λ c a. let all = properties p.0 v c.elements a in (ap (collect c) all.0, collect_apart t c (map (property s p.0 v) c.elements) all.1)))
  call_layer (of.Operation op args) = call_from (of.Operation op (expressions args)) (λ fine x y scope o apart.
      (ap (operation op o) (typed_values args fine x y scope).0, operation_apart t op o (values_by s q x args) apart))
  call_layer (of.Class op c) = call_from (of.Class op c) (λ fine x y scope o apart.
      (class_operation_same t slots ms ns agree op c.0 o apart, class_operation_apart t slots ms ns agree op c.0 o apart))
  call_layer (of.Collection op args) = call_from (of.Collection op (expressions args)) (λ fine x y scope o apart.
      let all = typed_values args fine x y scope in
      on_elements (λ c. on_collection op c (values_by s q x args)) (λ c. on_collection op c (values_by u r y args)) o apart
      (λ c a. (ap (on_collection op c) all.0, on_collection_apart t op c (values_by s q x args) a all.1)))
  call_layer (of.Iterator i n body) = call_from (of.Iterator i n body.0) (λ fine x y scope o apart.
      on_elements (λ c. iterated i c (each x n (meaning s q body.0) c.elements)) (λ c. iterated i c (each y n (meaning u r body.0) c.elements)) o apart
      (λ c a. let all = bodies n body (first_fine body.0 [] fine) x y scope c.elements a in
      (ap (iterated i c) all.0, iterated_apart t i c (each x n (meaning s q body.0) c.elements) a all.1)))

  -- ---- expressions, operators and steps

  typed_layer : (y : of.Typed-F C N T I P) → TypedAlike (roll-Typed (map-Typed C N T I P Call Node Typed TypedInfix TypedPostfix (λ x. x.0) (λ x. x.0) (λ x. x.0) (λ x. x.0) (λ x. x.0) y))
  unfolding TypedAlike NodeAlike
  typed_layer z fine x y scope =
      let d = map-Typed C N T I P Call Node Typed TypedInfix TypedPostfix (λ x. x.0) (λ x. x.0) (λ x. x.0) (λ x. x.0) (λ x. x.0) z in
      alike_by (meaning s q (roll-Typed d) x) (meaning u r (roll-Typed d) y) (node_of s q z.node.0 x) (node_of u r z.node.0 y)
      (ap (λ (m : Meaning). m x) (fold-roll-Typed Called Meaning Meaning Operated Called (call_meaning s) (node_meaning s q) typed_meaning infix_meaning postfix_meaning d))
      (ap (λ (m : Meaning). m y) (fold-roll-Typed Called Meaning Meaning Operated Called (call_meaning u) (node_meaning u r) typed_meaning infix_meaning postfix_meaning d))
      (z.node.1 z.ty fine x y scope)

  infix_layer : (y : of.TypedInfix-F C N T I P) → InfixAlike (roll-TypedInfix (map-TypedInfix C N T I P Call Node Typed TypedInfix TypedPostfix (λ x. x.0) (λ x. x.0) (λ x. x.0) (λ x. x.0) (λ x. x.0) y))
  unfolding InfixAlike TypedAlike
  infix_layer z fine x y scope =
      let d = map-TypedInfix C N T I P Call Node Typed TypedInfix TypedPostfix (λ x. x.0) (λ x. x.0) (λ x. x.0) (λ x. x.0) (λ x. x.0) z in
      let one = fold-roll-TypedInfix Called Meaning Meaning Operated Called (call_meaning s) (node_meaning s q) typed_meaning infix_meaning postfix_meaning d in
      let other = fold-roll-TypedInfix Called Meaning Meaning Operated Called (call_meaning u) (node_meaning u r) typed_meaning infix_meaning postfix_meaning d in (
        ap (λ (m : Operated). m.operator) one ∙ sym (ap (λ (m : Operated). m.operator) other),
        alike_by ((infix_by s q (roll-TypedInfix d)).right x) ((infix_by u r (roll-TypedInfix d)).right y) (meaning s q z.right.0 x) (meaning u r z.right.0 y)
            (ap (λ (m : Operated). m.right x) one) (ap (λ (m : Operated). m.right y) other) (z.right.1 fine x y scope),
      )

  postfix_layer : (y : of.TypedPostfix-F C N T I P) → PostfixAlike (roll-TypedPostfix (map-TypedPostfix C N T I P Call Node Typed TypedInfix TypedPostfix (λ x. x.0) (λ x. x.0) (λ x. x.0) (λ x. x.0) (λ x. x.0) y))
  unfolding PostfixAlike CallAlike
  postfix_layer z fine x y scope o apart =
      let d = map-TypedPostfix C N T I P Call Node Typed TypedInfix TypedPostfix (λ x. x.0) (λ x. x.0) (λ x. x.0) (λ x. x.0) (λ x. x.0) z in
      alike_by (postfix_by s q (roll-TypedPostfix d) x o) (postfix_by u r (roll-TypedPostfix d) y o) (call_by s q z.call.0 x o) (call_by u r z.call.0 y o)
      (ap (λ (m : Called). m x o) (fold-roll-TypedPostfix Called Meaning Meaning Operated Called (call_meaning s) (node_meaning s q) typed_meaning infix_meaning postfix_meaning d))
      (ap (λ (m : Called). m y o) (fold-roll-TypedPostfix Called Meaning Meaning Operated Called (call_meaning u) (node_meaning u r) typed_meaning infix_meaning postfix_meaning d))
      (z.call.1 fine x y scope o apart)

  alike : (e : Typed) → TypedAlike e
  alike = ind-Typed CallAlike NodeAlike TypedAlike InfixAlike PostfixAlike
      (λ x y is. subst (λ z. CallAlike (roll-Call z)) is (call_layer y))
      (λ x y is. subst (λ z. NodeAlike (roll-Node z)) is (node_layer y))
      (λ x y is. subst (λ z. TypedAlike (roll-Typed z)) is (typed_layer y))
      (λ x y is. subst (λ z. InfixAlike (roll-TypedInfix z)) is (infix_layer y))
      (λ x y is. subst (λ z. PostfixAlike (roll-TypedPostfix z)) is (postfix_layer y))

  -- the value is one in scopes that agree on the variables that are named, where these have no objects of the target, and it has none
  pub same_meaning : (e : Typed) → AsksNoTargetExtent t e → ((v : ℕ) → Names e v → Free v)
      → ((n : ℕ) → CallsQuery e n → (args : List Out) → AllApart t args → (q n args ≡ r n args) × HasNoTarget t (q n args))
      → (x y : Scope) → length x ≡ length y → ((n : ℕ) → Free n → (variable x n ≡ variable y n) × HasNoTarget t (variable x n))
      → (meaning s q e x ≡ meaning u r e y) × HasNoTarget t (meaning s q e x)
  unfolding TypedAlike
  same_meaning e extents names queries x y long scope =
      alike e (record { extents = extents; names = names; queries = queries }) x y (record { long = long; alike = scope })
