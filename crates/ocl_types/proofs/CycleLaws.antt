-- The rows of calls are the calls of the typed trees: a path in them is a chain of calls, and queries without a cycle of rows call each
-- other without a cycle.
use Rattle.std.proofs.Common.{◌≡◌, ◌<◌, ◌≤◌, ℕ, List, [], ◌∷◌, ◌++◌, None, Some, map, length, get_or, refl, sym, ap, ◌∙◌, subst, ◌⊎◌, ⊎_elim, inl, inr, arith}
use Rattle.std.specs.Prelude.{Contains, slice_get}
use Rattle.std.specs.List.{flat_map, concat}
use Rattle.std.proofs.lemmas.Option.{get_or_from_slice_get, slice_get_cases}
use Rattle.std.proofs.lemmas.Grind.{get_or_default_zero}
use Rattle.std.proofs.lemmas.List.{get_or_past, length-map}
use Rattle.std.proofs.lemmas.List.Elements.{Contains-append_left, Contains-append_right, Contains-append_cases}
use Rattle.call_graph.specs.Graphs.{Leads, IsPath, IsOnCycle}
use Rattle.qv_syntax.specs.declared.ty.Ty.{Ty}
use Rattle.qv_syntax.specs.declared.query.Query.{Query}
use Rattle.qv_syntax.specs.declared.typed.Typed.{Typed, roll-Typed, map-Typed, ind-Typed, fold-roll-Typed}
use Rattle.qv_syntax.specs.declared.typed.Node.{Node, roll-Node, map-Node, out-Node, fold-roll-Node, out-roll-Node, roll-out-Node}
use Rattle.qv_syntax.specs.declared.typed.Node.TheVariants as nodes
use Rattle.qv_syntax.specs.declared.typed.Call.{Call, roll-Call, map-Call, out-Call, fold-roll-Call, out-roll-Call, roll-out-Call}
use Rattle.qv_syntax.specs.declared.typed.Call.TheOpen as of
use Rattle.qv_syntax.specs.declared.typed.TypedInfix.{TypedInfix, roll-TypedInfix, map-TypedInfix, fold-roll-TypedInfix}
use Rattle.qv_syntax.specs.declared.typed.TypedPostfix.{TypedPostfix, roll-TypedPostfix, map-TypedPostfix, fold-roll-TypedPostfix}
use Rattle.qv_syntax.specs.Parts.{IsWithin, CallsQuery, node_parts, call_parts, parts_of_call}
use Rattle.qv_syntax.specs.QueryCalls.{Calls, Reaches, AreAcyclic}
use Rattle.ocl_environments.specs.QueryCalls.{call_step, node_step, typed_step, infix_step, postfix_step, called_by, called_in_node, called_in_call, called_behind, called_with, rows_of}
use Rattle.ocl_environments.proofs.QueryCallLemmas.{calls_of_step, by_link}
use Rattle.ocl_types.proofs.ConformanceLaws.{first_in, later_in, in_either}
use Rattle.mof_metamodel.proofs.Facts.{nothing_in}
use Rattle.ocl_types.proofs.NumberLaws.{mapped_there}

-- ---- one layer

typed_calls : (e : Typed) → called_by e ≡ called_in_node e.node
typed_calls e = fold-roll-Typed (List ℕ) (List ℕ) (List ℕ) (List ℕ) (List ℕ) call_step node_step typed_step infix_step postfix_step (record { ty = e.ty; node = e.node })

abbrev node_calls : of.Node-F Call Node Typed TypedInfix TypedPostfix → List ℕ
node_calls d = node_step (map-Node Call Node Typed TypedInfix TypedPostfix (List ℕ) (List ℕ) (List ℕ) (List ℕ) (List ℕ) called_in_call called_in_node called_by called_behind called_with d)

node_rolled : (d : of.Node-F Call Node Typed TypedInfix TypedPostfix) → called_in_node (roll-Node d) ≡ node_calls d
node_rolled d = fold-roll-Node (List ℕ) (List ℕ) (List ℕ) (List ℕ) (List ℕ) call_step node_step typed_step infix_step postfix_step d

-- the calls of an expression, by its outer layer
by_node : (e : Typed) → called_by e ≡ node_calls (out-Node e.node)
by_node e = typed_calls e ∙ ap called_in_node (sym (roll-out-Node e.node)) ∙ node_rolled (out-Node e.node)

abbrev call_calls : of.Call-F Call Node Typed TypedInfix TypedPostfix → List ℕ
call_calls d = call_step (map-Call Call Node Typed TypedInfix TypedPostfix (List ℕ) (List ℕ) (List ℕ) (List ℕ) (List ℕ) called_in_call called_in_node called_by called_behind called_with d)

call_rolled : (d : of.Call-F Call Node Typed TypedInfix TypedPostfix) → called_in_call (roll-Call d) ≡ call_calls d
call_rolled d = fold-roll-Call (List ℕ) (List ℕ) (List ℕ) (List ℕ) (List ℕ) call_step node_step typed_step infix_step postfix_step d

-- those of a call behind a part
by_call : (step : TypedPostfix) → called_with step ≡ call_calls (out-Call step.call)
by_call step = calls_of_step step ∙ ap called_in_call (sym (roll-out-Call step.call)) ∙ call_rolled (out-Call step.call)

-- ---- the calls of a part are calls of the whole

module _ (part : Typed) (q : ℕ) (calls : Contains (called_by part) q) where
  at_part : (e : Typed) → e ≡ part → Contains (called_by e) q
  at_part e same = subst (λ x. Contains (called_by x) q) (sym same) calls

  among_all : (es : List Typed) → Contains es part → Contains (concat (map called_by es)) q
  among_all [] among = absurd (nothing_in part among)
  among_all (e ∷ es) among = ⊎_elim
      (λ (same : e ≡ part). Contains-append_left (called_by e) (concat (map called_by es)) q (at_part e same))
      (λ (there : Contains es part). Contains-append_right (called_by e) (concat (map called_by es)) q (among_all es there))
      (in_either e part es among)

  among_links : (links : List TypedInfix) → Contains (map (λ l. l.right) links) part → Contains (concat (map called_behind links)) q
  among_links [] among = absurd (nothing_in part among)
  among_links (l ∷ ls) among = ⊎_elim
      (λ (same : l.right ≡ part). Contains-append_left (called_behind l) (concat (map called_behind ls)) q (subst (λ c. Contains c q) (sym (by_link l)) (at_part l.right same)))
      (λ (there : Contains (map (λ l. l.right) ls) part). Contains-append_right (called_behind l) (concat (map called_behind ls)) q (among_links ls there))
      (in_either l.right part (map (λ l. l.right) ls) among)

  in_call : (d : of.Call-F Call Node Typed TypedInfix TypedPostfix) → Contains (call_parts d) part → Contains (call_calls d) q
  in_call (of.Property prop gives) among = absurd (nothing_in part among)
  in_call (of.CollectProperty prop gives) among = absurd (nothing_in part among)
  in_call (of.Operation o args) among = among_all args among
  in_call (of.Class o class) among = absurd (nothing_in part among)
  in_call (of.Collection o args) among = among_all args among
  in_call (of.Iterator i number body) among = ⊎_elim (λ (same : body ≡ part). at_part body same) (λ (none : Contains [] part). absurd (nothing_in part none)) (in_either body part [] among)

  among_steps : (steps : List TypedPostfix) → Contains (flat_map parts_of_call steps) part → Contains (concat (map called_with steps)) q
  among_steps [] among = absurd (nothing_in part among)
  among_steps (s ∷ ss) among = ⊎_elim
      (λ (here : Contains (parts_of_call s) part). Contains-append_left (called_with s) (concat (map called_with ss)) q (subst (λ c. Contains c q) (sym (by_call s)) (in_call (out-Call s.call) here)))
      (λ (there : Contains (flat_map parts_of_call ss) part). Contains-append_right (called_with s) (concat (map called_with ss)) q (among_steps ss there))
      (Contains-append_cases (parts_of_call s) (flat_map parts_of_call ss) part among)

  -- of two parts, and of three
  in_two : (a b : Typed) → Contains (a ∷ b ∷ []) part → Contains (called_by a ++ called_by b) q
  in_two a b among = ⊎_elim
      (λ (same : a ≡ part). Contains-append_left (called_by a) (called_by b) q (at_part a same))
      (λ (more : Contains (b ∷ []) part). Contains-append_right (called_by a) (called_by b) q
      (⊎_elim (λ (same : b ≡ part). at_part b same) (λ (none : Contains [] part). absurd (nothing_in part none)) (in_either b part [] more)))
      (in_either a part (b ∷ []) among)

  in_node : (d : of.Node-F Call Node Typed TypedInfix TypedPostfix) → Contains (node_parts d) part → Contains (node_calls d) q
  in_node (of.Number value) among = absurd (nothing_in part among)
  in_node (of.Str value) among = absurd (nothing_in part among)
  in_node (of.Bool value) among = absurd (nothing_in part among)
  in_node of.Null among = absurd (nothing_in part among)
  in_node of.Invalid among = absurd (nothing_in part among)
  in_node (of.EnumLiteral meta enumeration literal) among = absurd (nothing_in part among)
  in_node (of.Variable number) among = absurd (nothing_in part among)
  in_node (of.Let number value body) among = in_two value body among
  in_node (of.Chain first rest) among = ⊎_elim
      (λ (same : first ≡ part). Contains-append_left (called_by first) (concat (map called_behind rest)) q (at_part first same))
      (λ (there : Contains (map (λ l. l.right) rest) part). Contains-append_right (called_by first) (concat (map called_behind rest)) q (among_links rest there))
      (in_either first part (map (λ l. l.right) rest) among)
  in_node (of.Not operand) among = ⊎_elim (λ (same : operand ≡ part). at_part operand same) (λ (none : Contains [] part). absurd (nothing_in part none)) (in_either operand part [] among)
  in_node (of.Negated operand) among = ⊎_elim (λ (same : operand ≡ part). at_part operand same) (λ (none : Contains [] part). absurd (nothing_in part none)) (in_either operand part [] among)
  in_node (of.Calls first steps) among = ⊎_elim
      (λ (same : first ≡ part). Contains-append_left (called_by first) (concat (map called_with steps)) q (at_part first same))
      (λ (there : Contains (flat_map parts_of_call steps) part). Contains-append_right (called_by first) (concat (map called_with steps)) q (among_steps steps there))
      (in_either first part (flat_map parts_of_call steps) among)
  in_node (of.If condition one other) among = ⊎_elim
      (λ (same : condition ≡ part). Contains-append_left (called_by condition) (called_by one ++ called_by other) q (at_part condition same))
      (λ (more : Contains (one ∷ other ∷ []) part). Contains-append_right (called_by condition) (called_by one ++ called_by other) q (in_two one other more))
      (in_either condition part (one ∷ other ∷ []) among)
  in_node (of.Coll kind elements) among = among_all elements among
  in_node (of.Extent model class) among = absurd (nothing_in part among)
  in_node (of.Query query args) among = later_in query q (concat (map called_by args)) (among_all args among)

within_calls : (e inner : Typed) (q : ℕ) → IsWithin e inner → Contains (called_by inner) q → Contains (called_by e) q
within_calls e inner q (IsWithin.whole _) calls = calls
within_calls e inner q (IsWithin.inside _ part _ among more) calls =
    subst (λ c. Contains c q) (sym (by_node e)) (in_node part q (within_calls part inner q more calls) (out-Node e.node) among)

-- a call within an expression is among its calls
pub calls_listed : (e : Typed) (q : ℕ) → CallsQuery e q → Contains (called_by e) q
calls_listed e q (ty, args, within) =
    let call : Typed = record { ty = ty; node = nodes.Query q args } in
    let own : called_by call ≡ q ∷ concat (map called_by args) = typed_calls call ∙ ap called_in_node (sym (nodes.rolls-Query q args)) ∙ node_rolled (of.Query q args) in
    within_calls e call q within (subst (λ c. Contains c q) (sym own) (first_in q q (concat (map called_by args)) refl))

-- ---- and no others are

-- one of the expressions calls the query
abbrev OneCalls : List Typed → ℕ → Type 0
OneCalls es q = (part : Typed) × Contains es part × CallsQuery part q

one_first : (e : Typed) (es : List Typed) (q : ℕ) → CallsQuery e q → OneCalls (e ∷ es) q
one_first e es q calls = (e, first_in e e es refl, calls)

one_later : (e : Typed) (es : List Typed) (q : ℕ) → OneCalls es q → OneCalls (e ∷ es) q
one_later e es q (part, among, calls) = (part, later_in e part es among, calls)

abbrev Listed : Typed → Type 0
Listed e = (q : ℕ) → Contains (called_by e) q → CallsQuery e q

TypedListed : Typed → Type 0
TypedListed e = Listed e

NodeListed : Node → Type 0
NodeListed node = (ty : Ty) (q : ℕ) → Contains (called_in_node node) q → CallsQuery (record { ty = ty; node = node }) q

CallListed : Call → Type 0
CallListed call = (q : ℕ) → Contains (called_in_call call) q → OneCalls (call_parts (out-Call call)) q

InfixListed : TypedInfix → Type 0
InfixListed link = (q : ℕ) → Contains (called_behind link) q → CallsQuery link.right q

PostfixListed : TypedPostfix → Type 0
PostfixListed step = (q : ℕ) → Contains (called_with step) q → OneCalls (parts_of_call step) q

abbrev T : Type 0
T = (e : Typed) × TypedListed e

abbrev N : Type 0
N = (n : Node) × NodeListed n

abbrev C : Type 0
C = (c : Call) × CallListed c

abbrev I : Type 0
I = (i : TypedInfix) × InfixListed i

abbrev P : Type 0
P = (p : TypedPostfix) × PostfixListed p

abbrev expressions : List T → List Typed
expressions es = map (λ e. e.0) es

from_all : (es : List T) (q : ℕ) → Contains (concat (map called_by (expressions es))) q → OneCalls (expressions es) q
unfolding TypedListed
from_all [] q among = absurd (nothing_in q among)
from_all (e ∷ es) q among = ⊎_elim
    (λ (here : Contains (called_by e.0) q). one_first e.0 (expressions es) q (e.1 q here))
    (λ (there : Contains (concat (map called_by (expressions es))) q). one_later e.0 (expressions es) q (from_all es q there))
    (Contains-append_cases (called_by e.0) (concat (map called_by (expressions es))) q among)

abbrev links_of : List I → List TypedInfix
links_of ls = map (λ l. l.0) ls

from_links : (ls : List I) (q : ℕ) → Contains (concat (map called_behind (links_of ls))) q → OneCalls (map (λ l. l.right) (links_of ls)) q
unfolding InfixListed
from_links [] q among = absurd (nothing_in q among)
from_links (l ∷ ls) q among = ⊎_elim
    (λ (here : Contains (called_behind l.0) q). one_first l.0.right (map (λ k. k.right) (links_of ls)) q (l.1 q here))
    (λ (there : Contains (concat (map called_behind (links_of ls))) q). one_later l.0.right (map (λ k. k.right) (links_of ls)) q (from_links ls q there))
    (Contains-append_cases (called_behind l.0) (concat (map called_behind (links_of ls))) q among)

abbrev steps_of : List P → List TypedPostfix
steps_of ps = map (λ p. p.0) ps

from_steps : (ps : List P) (q : ℕ) → Contains (concat (map called_with (steps_of ps))) q → OneCalls (flat_map parts_of_call (steps_of ps)) q
unfolding PostfixListed
from_steps [] q among = absurd (nothing_in q among)
from_steps (p ∷ ps) q among = ⊎_elim
    (λ (here : Contains (called_with p.0) q).
    let one = p.1 q here in (one.0, Contains-append_left (parts_of_call p.0) (flat_map parts_of_call (steps_of ps)) one.0 one.1, one.2))
    (λ (there : Contains (concat (map called_with (steps_of ps))) q).
    let one = from_steps ps q there in (one.0, Contains-append_right (parts_of_call p.0) (flat_map parts_of_call (steps_of ps)) one.0 one.1, one.2))
    (Contains-append_cases (called_with p.0) (concat (map called_with (steps_of ps))) q among)

from_two : (a b : T) (q : ℕ) → Contains (called_by a.0 ++ called_by b.0) q → OneCalls (a.0 ∷ b.0 ∷ []) q
unfolding TypedListed
from_two a b q among = ⊎_elim
    (λ (here : Contains (called_by a.0) q). one_first a.0 (b.0 ∷ []) q (a.1 q here))
    (λ (there : Contains (called_by b.0) q). one_later a.0 (b.0 ∷ []) q (one_first b.0 [] q (b.1 q there)))
    (Contains-append_cases (called_by a.0) (called_by b.0) q among)

-- a call of a layer is one of its parts, or the layer is the call
node_listed : (d : of.Node-F Call Node Typed TypedInfix TypedPostfix)
    → ((q : ℕ) → Contains (node_calls d) q → OneCalls (node_parts d) q ⊎ ((args : List Typed) × (d ≡ of.Query q args))) → NodeListed (roll-Node d)
unfolding NodeListed
node_listed d listed ty q among = ⊎_elim
    (λ (one : OneCalls (node_parts d) q).
    let calls = one.2 in
    (calls.0, calls.1, IsWithin.inside whole one.0 _ (subst (λ x. Contains (node_parts x) one.0) (sym (out-roll-Node d)) one.1) calls.2))
    (λ (own : (args : List Typed) × (d ≡ of.Query q args)).
    (ty, own.0, subst (λ n. IsWithin whole (record { ty = ty; node = n })) (ap roll-Node own.1 ∙ nodes.rolls-Query q own.0) (IsWithin.whole whole)))
    (listed q (subst (λ c. Contains c q) (node_rolled d) among))
  where
    whole : Typed
    whole = record { ty = ty; node = roll-Node d }

no_calls : (d : of.Node-F Call Node Typed TypedInfix TypedPostfix) → node_calls d ≡ [] → NodeListed (roll-Node d)
no_calls d none = node_listed d (λ q among. absurd (nothing_in q (subst (λ c. Contains c q) none among)))

plain : of.Node-F C N T I P → of.Node-F Call Node Typed TypedInfix TypedPostfix
plain y = map-Node C N T I P Call Node Typed TypedInfix TypedPostfix (λ x. x.0) (λ x. x.0) (λ x. x.0) (λ x. x.0) (λ x. x.0) y

node_layer : (y : of.Node-F C N T I P) → NodeListed (roll-Node (plain y))
unfolding plain TypedListed
node_layer (of.Number value) = no_calls (of.Number value) refl
node_layer (of.Str value) = no_calls (of.Str value) refl
node_layer (of.Bool value) = no_calls (of.Bool value) refl
node_layer of.Null = no_calls of.Null refl
node_layer of.Invalid = no_calls of.Invalid refl
node_layer (of.EnumLiteral m e l) = no_calls (of.EnumLiteral m e l) refl
node_layer (of.Variable n) = no_calls (of.Variable n) refl
node_layer (of.Let n value body) = node_listed (of.Let n value.0 body.0) (λ q among. inl (from_two value body q among))
node_layer (of.Chain first rest) = node_listed (of.Chain first.0 (links_of rest)) (λ q among. inl (⊎_elim
    (λ (here : Contains (called_by first.0) q). one_first first.0 (map (λ l. l.right) (links_of rest)) q (first.1 q here))
    (λ (there : Contains (concat (map called_behind (links_of rest))) q). one_later first.0 (map (λ l. l.right) (links_of rest)) q (from_links rest q there))
    (Contains-append_cases (called_by first.0) (concat (map called_behind (links_of rest))) q among)))
node_layer (of.Not operand) = node_listed (of.Not operand.0) (λ q among. inl (one_first operand.0 [] q (operand.1 q among)))
node_layer (of.Negated operand) = node_listed (of.Negated operand.0) (λ q among. inl (one_first operand.0 [] q (operand.1 q among)))
node_layer (of.Calls first steps) = node_listed (of.Calls first.0 (steps_of steps)) (λ q among. inl (⊎_elim
    (λ (here : Contains (called_by first.0) q). one_first first.0 (flat_map parts_of_call (steps_of steps)) q (first.1 q here))
    (λ (there : Contains (concat (map called_with (steps_of steps))) q). one_later first.0 (flat_map parts_of_call (steps_of steps)) q (from_steps steps q there))
    (Contains-append_cases (called_by first.0) (concat (map called_with (steps_of steps))) q among)))
node_layer (of.If condition one other) = node_listed (of.If condition.0 one.0 other.0) (λ q among. inl (⊎_elim
    (λ (here : Contains (called_by condition.0) q). one_first condition.0 (one.0 ∷ other.0 ∷ []) q (condition.1 q here))
    (λ (there : Contains (called_by one.0 ++ called_by other.0) q). one_later condition.0 (one.0 ∷ other.0 ∷ []) q (from_two one other q there))
    (Contains-append_cases (called_by condition.0) (called_by one.0 ++ called_by other.0) q among)))
node_layer (of.Coll kind elements) = node_listed (of.Coll kind (expressions elements)) (λ q among. inl (from_all elements q among))
node_layer (of.Extent m c) = no_calls (of.Extent m c) refl
node_layer (of.Query n args) = node_listed (of.Query n (expressions args)) (λ q among. ⊎_elim
    (λ (same : n ≡ q). inr (expressions args, ap (λ k. of.Query k (expressions args)) same))
    (λ (there : Contains (concat (map called_by (expressions args))) q). inl (from_all args q there))
    (in_either n q (concat (map called_by (expressions args))) among))

call_listed : (d : of.Call-F Call Node Typed TypedInfix TypedPostfix) → ((q : ℕ) → Contains (call_calls d) q → OneCalls (call_parts d) q) → CallListed (roll-Call d)
unfolding CallListed
call_listed d listed q among = subst (λ x. OneCalls (call_parts x) q) (sym (out-roll-Call d)) (listed q (subst (λ c. Contains c q) (call_rolled d) among))

call_layer : (y : of.Call-F C N T I P) → CallListed (roll-Call (map-Call C N T I P Call Node Typed TypedInfix TypedPostfix (λ x. x.0) (λ x. x.0) (λ x. x.0) (λ x. x.0) (λ x. x.0) y))
unfolding TypedListed
call_layer (of.Property p v) = call_listed (of.Property p v) (λ q among. absurd (nothing_in q among))
call_layer (of.CollectProperty p v) = call_listed (of.CollectProperty p v) (λ q among. absurd (nothing_in q among))
call_layer (of.Operation o args) = call_listed (of.Operation o (expressions args)) (λ q among. from_all args q among)
call_layer (of.Class o c) = call_listed (of.Class o c) (λ q among. absurd (nothing_in q among))
call_layer (of.Collection o args) = call_listed (of.Collection o (expressions args)) (λ q among. from_all args q among)
call_layer (of.Iterator i n body) = call_listed (of.Iterator i n body.0) (λ q among. one_first body.0 [] q (body.1 q among))

typed_layer : (y : of.Typed-F C N T I P) → TypedListed (roll-Typed (map-Typed C N T I P Call Node Typed TypedInfix TypedPostfix (λ x. x.0) (λ x. x.0) (λ x. x.0) (λ x. x.0) (λ x. x.0) y))
unfolding TypedListed NodeListed
typed_layer y q among =
    let e : Typed = record { ty = y.ty; node = y.node.0 } in
    y.node.1 y.ty q (subst (λ c. Contains c q) (typed_calls e) among)

infix_layer : (y : of.TypedInfix-F C N T I P) → InfixListed (roll-TypedInfix (map-TypedInfix C N T I P Call Node Typed TypedInfix TypedPostfix (λ x. x.0) (λ x. x.0) (λ x. x.0) (λ x. x.0) (λ x. x.0) y))
unfolding InfixListed TypedListed
infix_layer y q among =
    let link : TypedInfix = record { operator = y.operator; right = y.right.0; ty = y.ty } in
    y.right.1 q (subst (λ c. Contains c q) (by_link link) among)

postfix_layer : (y : of.TypedPostfix-F C N T I P) → PostfixListed (roll-TypedPostfix (map-TypedPostfix C N T I P Call Node Typed TypedInfix TypedPostfix (λ x. x.0) (λ x. x.0) (λ x. x.0) (λ x. x.0) (λ x. x.0) y))
unfolding PostfixListed CallListed
postfix_layer y q among =
    let step : TypedPostfix = record { call = y.call.0; ty = y.ty } in
    y.call.1 q (subst (λ c. Contains c q) (calls_of_step step) among)

-- the calls of an expression are those that stand within it
pub calls_stand : (e : Typed) (q : ℕ) → Contains (called_by e) q → CallsQuery e q
unfolding TypedListed plain
calls_stand = ind-Typed CallListed NodeListed TypedListed InfixListed PostfixListed
    (λ x y is. subst (λ z. CallListed (roll-Call z)) is (call_layer y))
    (λ x y is. subst (λ z. NodeListed (roll-Node z)) is (node_layer y))
    (λ x y is. subst (λ z. TypedListed (roll-Typed z)) is (typed_layer y))
    (λ x y is. subst (λ z. InfixListed (roll-TypedInfix z)) is (infix_layer y))
    (λ x y is. subst (λ z. PostfixListed (roll-TypedPostfix z)) is (postfix_layer y))

-- ---- rows

abbrev calls_of : Query → List ℕ
calls_of q = called_by q.body

module _ (queries : List Query) where
  row_at : (u : ℕ) (query : Query) → slice_get queries u ≡ Some query → get_or (rows_of 0 queries) u [] ≡ calls_of query
  row_at u query found = get_or_from_slice_get (map calls_of queries) u (calls_of query) [] (mapped_there calls_of queries u query found)

  leads_where : (row : List ℕ) (v : ℕ) → Contains row v → (k : ℕ) × (k < length row) × (get_or row k 0 ≡ v)
  leads_where row v (k, within, is) = (k, within, sym (get_or_default_zero row k v within) ∙ is)

  leads_to : (row : List ℕ) (v : ℕ) → (k : ℕ) × (k < length row) × (get_or row k 0 ≡ v) → Contains row v
  leads_to row v (k, within, is) = (k, within, get_or_default_zero row k v within ∙ is)

  calls_lead : (a b : ℕ) → Calls queries a b → Leads (rows_of 0 queries) a b
  calls_lead a b c =
      subst (λ row. (k : ℕ) × (k < length row) × (get_or row k 0 ≡ b)) (sym (row_at a c.query c.found)) (leads_where (calls_of c.query) b (calls_listed c.query.body b c.calls))

  path_there : (a b : ℕ) → Reaches queries a b → (between : List ℕ) × IsPath (rows_of 0 queries) a between b
  path_there a b (Reaches.call _ _ c) = ([], calls_lead a b c)
  path_there a b (Reaches.more _ m _ c r) = let p = path_there m b r in (m ∷ p.0, (calls_lead a m c, p.1))

  row_past : (u : ℕ) → length queries ≤ u → get_or (rows_of 0 queries) u [] ≡ []
  row_past u past = get_or_past (map calls_of queries) u [] (omega (arith, past, length-map queries calls_of))

  call_there : (a b : ℕ) → Leads (rows_of 0 queries) a b → Calls queries a b
  call_there a b leads = ⊎_elim
      (λ (inside : (query : Query) × (a < length queries) × (slice_get queries a ≡ Some query) × (get_or queries a query ≡ query)).
      let query : Query = inside.0 in
      let found : slice_get queries a ≡ Some query = inside.2 in
      let among : Contains (calls_of query) b =
      leads_to (calls_of query) b (subst (λ row. (k : ℕ) × (k < length row) × (get_or row k 0 ≡ b)) (row_at a query found) leads) in
      record { query = query; found = found; calls = calls_stand query.body b among })
      (λ (past : (length queries ≤ a) × (slice_get queries a ≡ None)).
      let none : (k : ℕ) × (k < length {A = ℕ} []) × (get_or {A = ℕ} [] k 0 ≡ b) = subst (λ row. (k : ℕ) × (k < length row) × (get_or row k 0 ≡ b)) (row_past a past.0) leads in
      absurd (omega (arith, none.1)))
      (slice_get_cases queries a).1

  reached_by : (a b : ℕ) (between : List ℕ) → IsPath (rows_of 0 queries) a between b → Reaches queries a b
  reached_by a b [] leads = Reaches.call a b (call_there a b leads)
  reached_by a b (m ∷ between) path = Reaches.more a m b (call_there a m path.0) (reached_by m b between path.1)

  pub cycle_reached : (u : ℕ) → IsOnCycle (rows_of 0 queries) u → Reaches queries u u
  cycle_reached u cycle = reached_by u u cycle.0 cycle.1

  pub none_on_cycle : AreAcyclic queries → (u : ℕ) → IsOnCycle (rows_of 0 queries) u → ⊥
  none_on_cycle acyclic u cycle = acyclic u (cycle_reached u cycle)

  pub acyclic_where : ((u : ℕ) → IsOnCycle (rows_of 0 queries) u → ⊥) → AreAcyclic queries
  acyclic_where none = λ q reaches. none q (path_there q q reaches)
