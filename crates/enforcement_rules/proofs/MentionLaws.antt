-- What the walk over an expression collects is what stands within it.
use Rattle.std.proofs.Common.{◌≡◌, List, [], ◌∷◌, ◌++◌, map, refl, sym, ap, ◌∙◌, subst, ◌⊎◌, ⊎_elim, inl, inr}
use Rattle.std.specs.Prelude.{Contains}
use Rattle.std.specs.List.{flat_map}
use Rattle.std.proofs.lemmas.List.Elements.{Contains-append_left, Contains-append_right, Contains-append_cases}
use Rattle.qv_syntax.specs.declared.ty.Ty.{Ty}
use Rattle.qv_syntax.specs.declared.typed.Typed.{Typed, roll-Typed, map-Typed, ind-Typed, fold-roll-Typed}
use Rattle.qv_syntax.specs.declared.typed.Node.{Node, roll-Node, map-Node, out-Node, fold-roll-Node, out-roll-Node, roll-out-Node}
use Rattle.qv_syntax.specs.declared.typed.Call.{Call, roll-Call, map-Call, out-Call, fold-roll-Call, out-roll-Call, roll-out-Call}
use Rattle.qv_syntax.specs.declared.typed.Call.TheOpen as of
use Rattle.qv_syntax.specs.declared.typed.TypedInfix.{TypedInfix, roll-TypedInfix, map-TypedInfix}
use Rattle.qv_syntax.specs.declared.typed.TypedPostfix.{TypedPostfix, roll-TypedPostfix, map-TypedPostfix}
use Rattle.qv_syntax.specs.Parts.{IsWithin, node_parts, call_parts, parts_of_call}
use Rattle.enforcement_rules.specs.declared.mention.Mention.{Mention}
use Rattle.enforcement_rules.specs.declared.mention.Mention.TheVariants as mentions
use Rattle.enforcement_rules.specs.Mentions.{L, joined, call_step, node_step, typed_step, infix_step, postfix_step, mentions_in, mentions_of_node, mentions_of_call, mentions_behind, mentions_with}
use Rattle.enforcement_rules.proofs.MentionLemmas.{mentions_of_step, by_link}
use Rattle.enforcement_rules.proofs.ListLaws.{first_in, later_in, nothing_in, in_either, only_in}

-- what the outer layer of an expression names itself
abbrev pub own : of.Node-F Call Node Typed TypedInfix TypedPostfix → L
own (of.Variable number) = mentions.Variable number ∷ []
own (of.Extent model class) = mentions.Extent model ∷ []
own (of.Query query args) = mentions.Query query ∷ []
own d = []

abbrev pub Mentioned : Typed → Mention → Type 0
Mentioned e m = (inner : Typed) × IsWithin e inner × Contains (own (out-Node inner.node)) m

-- ---- one layer

typed_mentions : (e : Typed) → mentions_in e ≡ mentions_of_node e.node
typed_mentions e = fold-roll-Typed L L L L L call_step node_step typed_step infix_step postfix_step (record { ty = e.ty; node = e.node })

abbrev node_mentions : of.Node-F Call Node Typed TypedInfix TypedPostfix → L
node_mentions d = node_step (map-Node Call Node Typed TypedInfix TypedPostfix L L L L L mentions_of_call mentions_of_node mentions_in mentions_behind mentions_with d)

node_rolled : (d : of.Node-F Call Node Typed TypedInfix TypedPostfix) → mentions_of_node (roll-Node d) ≡ node_mentions d
node_rolled d = fold-roll-Node L L L L L call_step node_step typed_step infix_step postfix_step d

-- the calls of an expression, by its outer layer
by_node : (e : Typed) → mentions_in e ≡ node_mentions (out-Node e.node)
by_node e = typed_mentions e ∙ ap mentions_of_node (sym (roll-out-Node e.node)) ∙ node_rolled (out-Node e.node)

abbrev call_mentions : of.Call-F Call Node Typed TypedInfix TypedPostfix → L
call_mentions d = call_step (map-Call Call Node Typed TypedInfix TypedPostfix L L L L L mentions_of_call mentions_of_node mentions_in mentions_behind mentions_with d)

call_rolled : (d : of.Call-F Call Node Typed TypedInfix TypedPostfix) → mentions_of_call (roll-Call d) ≡ call_mentions d
call_rolled d = fold-roll-Call L L L L L call_step node_step typed_step infix_step postfix_step d

-- those of a call behind a part
by_call : (step : TypedPostfix) → mentions_with step ≡ call_mentions (out-Call step.call)
by_call step = mentions_of_step step ∙ ap mentions_of_call (sym (roll-out-Call step.call)) ∙ call_rolled (out-Call step.call)

-- ---- the calls of a part are calls of the whole

module _ (part : Typed) (q : Mention) (calls : Contains (mentions_in part) q) where
  at_part : (e : Typed) → e ≡ part → Contains (mentions_in e) q
  at_part e same = subst (λ x. Contains (mentions_in x) q) (sym same) calls

  among_all : (es : List Typed) → Contains es part → Contains (joined (map mentions_in es)) q
  among_all [] among = absurd (nothing_in part among)
  among_all (e ∷ es) among = ⊎_elim
      (λ (same : e ≡ part). Contains-append_left (mentions_in e) (joined (map mentions_in es)) q (at_part e same))
      (λ (there : Contains es part). Contains-append_right (mentions_in e) (joined (map mentions_in es)) q (among_all es there))
      (in_either e part es among)

  among_links : (links : List TypedInfix) → Contains (map (λ l. l.right) links) part → Contains (joined (map mentions_behind links)) q
  among_links [] among = absurd (nothing_in part among)
  among_links (l ∷ ls) among = ⊎_elim
      (λ (same : l.right ≡ part). Contains-append_left (mentions_behind l) (joined (map mentions_behind ls)) q (subst (λ c. Contains c q) (sym (by_link l)) (at_part l.right same)))
      (λ (there : Contains (map (λ l. l.right) ls) part). Contains-append_right (mentions_behind l) (joined (map mentions_behind ls)) q (among_links ls there))
      (in_either l.right part (map (λ l. l.right) ls) among)

  in_call : (d : of.Call-F Call Node Typed TypedInfix TypedPostfix) → Contains (call_parts d) part → Contains (call_mentions d) q
  in_call (of.Property prop gives) among = absurd (nothing_in part among)
  in_call (of.CollectProperty prop gives) among = absurd (nothing_in part among)
  in_call (of.Operation o args) among = among_all args among
  in_call (of.Class o class) among = absurd (nothing_in part among)
  in_call (of.Collection o args) among = among_all args among
  in_call (of.Iterator i number body) among = ⊎_elim (λ (same : body ≡ part). at_part body same) (λ (none : Contains [] part). absurd (nothing_in part none)) (in_either body part [] among)

  among_steps : (steps : List TypedPostfix) → Contains (flat_map parts_of_call steps) part → Contains (joined (map mentions_with steps)) q
  among_steps [] among = absurd (nothing_in part among)
  among_steps (s ∷ ss) among = ⊎_elim
      (λ (here : Contains (parts_of_call s) part). Contains-append_left (mentions_with s) (joined (map mentions_with ss)) q (subst (λ c. Contains c q) (sym (by_call s)) (in_call (out-Call s.call) here)))
      (λ (there : Contains (flat_map parts_of_call ss) part). Contains-append_right (mentions_with s) (joined (map mentions_with ss)) q (among_steps ss there))
      (Contains-append_cases (parts_of_call s) (flat_map parts_of_call ss) part among)

  -- of two parts, and of three
  in_two : (a b : Typed) → Contains (a ∷ b ∷ []) part → Contains (mentions_in a ++ mentions_in b) q
  in_two a b among = ⊎_elim
      (λ (same : a ≡ part). Contains-append_left (mentions_in a) (mentions_in b) q (at_part a same))
      (λ (more : Contains (b ∷ []) part). Contains-append_right (mentions_in a) (mentions_in b) q
      (⊎_elim (λ (same : b ≡ part). at_part b same) (λ (none : Contains [] part). absurd (nothing_in part none)) (in_either b part [] more)))
      (in_either a part (b ∷ []) among)

  in_node : (d : of.Node-F Call Node Typed TypedInfix TypedPostfix) → Contains (node_parts d) part → Contains (node_mentions d) q
  in_node (of.Number value) among = absurd (nothing_in part among)
  in_node (of.Str value) among = absurd (nothing_in part among)
  in_node (of.Bool value) among = absurd (nothing_in part among)
  in_node of.Null among = absurd (nothing_in part among)
  in_node of.Invalid among = absurd (nothing_in part among)
  in_node (of.EnumLiteral meta enumeration literal) among = absurd (nothing_in part among)
  in_node (of.Variable number) among = absurd (nothing_in part among)
  in_node (of.Let number value body) among = in_two value body among
  in_node (of.Chain first rest) among = ⊎_elim
      (λ (same : first ≡ part). Contains-append_left (mentions_in first) (joined (map mentions_behind rest)) q (at_part first same))
      (λ (there : Contains (map (λ l. l.right) rest) part). Contains-append_right (mentions_in first) (joined (map mentions_behind rest)) q (among_links rest there))
      (in_either first part (map (λ l. l.right) rest) among)
  in_node (of.Not operand) among = ⊎_elim (λ (same : operand ≡ part). at_part operand same) (λ (none : Contains [] part). absurd (nothing_in part none)) (in_either operand part [] among)
  in_node (of.Negated operand) among = ⊎_elim (λ (same : operand ≡ part). at_part operand same) (λ (none : Contains [] part). absurd (nothing_in part none)) (in_either operand part [] among)
  in_node (of.Calls first steps) among = ⊎_elim
      (λ (same : first ≡ part). Contains-append_left (mentions_in first) (joined (map mentions_with steps)) q (at_part first same))
      (λ (there : Contains (flat_map parts_of_call steps) part). Contains-append_right (mentions_in first) (joined (map mentions_with steps)) q (among_steps steps there))
      (in_either first part (flat_map parts_of_call steps) among)
  in_node (of.If condition one other) among = ⊎_elim
      (λ (same : condition ≡ part). Contains-append_left (mentions_in condition) (mentions_in one ++ mentions_in other) q (at_part condition same))
      (λ (more : Contains (one ∷ other ∷ []) part). Contains-append_right (mentions_in condition) (mentions_in one ++ mentions_in other) q (in_two one other more))
      (in_either condition part (one ∷ other ∷ []) among)
  in_node (of.Coll kind elements) among = among_all elements among
  in_node (of.Extent model class) among = absurd (nothing_in part among)
  in_node (of.Query query args) among = later_in (mentions.Query query) q (joined (map mentions_in args)) (among_all args among)

within_mentions : (e inner : Typed) (q : Mention) → IsWithin e inner → Contains (mentions_in inner) q → Contains (mentions_in e) q
within_mentions e inner q (IsWithin.whole _) calls = calls
within_mentions e inner q (IsWithin.inside _ part _ among more) calls =
    subst (λ c. Contains c q) (sym (by_node e)) (in_node part q (within_mentions part inner q more calls) (out-Node e.node) among)

-- what a layer names itself is among what it names
own_first : (d : of.Node-F Call Node Typed TypedInfix TypedPostfix) (q : Mention) → Contains (own d) q → Contains (node_mentions d) q
own_first (of.Number value) q among = absurd (nothing_in q among)
own_first (of.Str value) q among = absurd (nothing_in q among)
own_first (of.Bool value) q among = absurd (nothing_in q among)
own_first of.Null q among = absurd (nothing_in q among)
own_first of.Invalid q among = absurd (nothing_in q among)
own_first (of.EnumLiteral meta enumeration literal) q among = absurd (nothing_in q among)
own_first (of.Variable number) q among = among
own_first (of.Let number value body) q among = absurd (nothing_in q among)
own_first (of.Chain first rest) q among = absurd (nothing_in q among)
own_first (of.Not operand) q among = absurd (nothing_in q among)
own_first (of.Negated operand) q among = absurd (nothing_in q among)
own_first (of.Calls first steps) q among = absurd (nothing_in q among)
own_first (of.If condition one other) q among = absurd (nothing_in q among)
own_first (of.Coll kind elements) q among = absurd (nothing_in q among)
own_first (of.Extent model class) q among = among
own_first (of.Query query args) q among = first_in (mentions.Query query) q (joined (map mentions_in args)) (only_in (mentions.Query query) q among)

-- what stands within an expression is among what it names
pub mentions_listed : (e : Typed) (q : Mention) → Mentioned e q → Contains (mentions_in e) q
mentions_listed e q (inner, within, among) =
    within_mentions e inner q within (subst (λ c. Contains c q) (sym (by_node inner)) (own_first (out-Node inner.node) q among))

-- ---- and no others are

-- one of the expressions calls the query
abbrev OneNames : List Typed → Mention → Type 0
OneNames es q = (part : Typed) × Contains es part × Mentioned part q

one_first : (e : Typed) (es : List Typed) (q : Mention) → Mentioned e q → OneNames (e ∷ es) q
one_first e es q calls = (e, first_in e e es refl, calls)

one_later : (e : Typed) (es : List Typed) (q : Mention) → OneNames es q → OneNames (e ∷ es) q
one_later e es q (part, among, calls) = (part, later_in e part es among, calls)

abbrev Listed : Typed → Type 0
Listed e = (q : Mention) → Contains (mentions_in e) q → Mentioned e q

TypedListed : Typed → Type 0
TypedListed e = Listed e

NodeListed : Node → Type 0
NodeListed node = (ty : Ty) (q : Mention) → Contains (mentions_of_node node) q → Mentioned (record { ty = ty; node = node }) q

CallListed : Call → Type 0
CallListed call = (q : Mention) → Contains (mentions_of_call call) q → OneNames (call_parts (out-Call call)) q

InfixListed : TypedInfix → Type 0
InfixListed link = (q : Mention) → Contains (mentions_behind link) q → Mentioned link.right q

PostfixListed : TypedPostfix → Type 0
PostfixListed step = (q : Mention) → Contains (mentions_with step) q → OneNames (parts_of_call step) q

abbrev T : Type 0
T = (e : Typed) × TypedListed e

abbrev N : Type 0
N = (n : Node) × NodeListed n

abbrev C : Type 0
C = (c : Call) × CallListed c

abbrev I : Type 0
I = (i : TypedInfix) × InfixListed i

abbrev P : Type 0
P = (p : TypedPostfix) × PostfixListed p

abbrev expressions : List T → List Typed
expressions es = map (λ e. e.0) es

from_all : (es : List T) (q : Mention) → Contains (joined (map mentions_in (expressions es))) q → OneNames (expressions es) q
unfolding TypedListed
from_all [] q among = absurd (nothing_in q among)
from_all (e ∷ es) q among = ⊎_elim
    (λ (here : Contains (mentions_in e.0) q). one_first e.0 (expressions es) q (e.1 q here))
    (λ (there : Contains (joined (map mentions_in (expressions es))) q). one_later e.0 (expressions es) q (from_all es q there))
    (Contains-append_cases (mentions_in e.0) (joined (map mentions_in (expressions es))) q among)

abbrev links_of : List I → List TypedInfix
links_of ls = map (λ l. l.0) ls

from_links : (ls : List I) (q : Mention) → Contains (joined (map mentions_behind (links_of ls))) q → OneNames (map (λ l. l.right) (links_of ls)) q
unfolding InfixListed
from_links [] q among = absurd (nothing_in q among)
from_links (l ∷ ls) q among = ⊎_elim
    (λ (here : Contains (mentions_behind l.0) q). one_first l.0.right (map (λ k. k.right) (links_of ls)) q (l.1 q here))
    (λ (there : Contains (joined (map mentions_behind (links_of ls))) q). one_later l.0.right (map (λ k. k.right) (links_of ls)) q (from_links ls q there))
    (Contains-append_cases (mentions_behind l.0) (joined (map mentions_behind (links_of ls))) q among)

abbrev steps_of : List P → List TypedPostfix
steps_of ps = map (λ p. p.0) ps

from_steps : (ps : List P) (q : Mention) → Contains (joined (map mentions_with (steps_of ps))) q → OneNames (flat_map parts_of_call (steps_of ps)) q
unfolding PostfixListed
from_steps [] q among = absurd (nothing_in q among)
from_steps (p ∷ ps) q among = ⊎_elim
    (λ (here : Contains (mentions_with p.0) q).
    let one = p.1 q here in (one.0, Contains-append_left (parts_of_call p.0) (flat_map parts_of_call (steps_of ps)) one.0 one.1, one.2))
    (λ (there : Contains (joined (map mentions_with (steps_of ps))) q).
    let one = from_steps ps q there in (one.0, Contains-append_right (parts_of_call p.0) (flat_map parts_of_call (steps_of ps)) one.0 one.1, one.2))
    (Contains-append_cases (mentions_with p.0) (joined (map mentions_with (steps_of ps))) q among)

from_two : (a b : T) (q : Mention) → Contains (mentions_in a.0 ++ mentions_in b.0) q → OneNames (a.0 ∷ b.0 ∷ []) q
unfolding TypedListed
from_two a b q among = ⊎_elim
    (λ (here : Contains (mentions_in a.0) q). one_first a.0 (b.0 ∷ []) q (a.1 q here))
    (λ (there : Contains (mentions_in b.0) q). one_later a.0 (b.0 ∷ []) q (one_first b.0 [] q (b.1 q there)))
    (Contains-append_cases (mentions_in a.0) (mentions_in b.0) q among)

-- what a layer names is named by one of its parts, or by the layer itself
node_listed : (d : of.Node-F Call Node Typed TypedInfix TypedPostfix)
    → ((q : Mention) → Contains (node_mentions d) q → OneNames (node_parts d) q ⊎ Contains (own d) q) → NodeListed (roll-Node d)
unfolding NodeListed
node_listed d listed ty q among = ⊎_elim
    (λ (one : OneNames (node_parts d) q).
    let names = one.2 in
    (names.0, IsWithin.inside whole one.0 _ (subst (λ x. Contains (node_parts x) one.0) (sym (out-roll-Node d)) one.1) names.1, names.2))
    (λ (self : Contains (own d) q). (whole, IsWithin.whole whole, subst (λ x. Contains (own x) q) (sym (out-roll-Node d)) self))
    (listed q (subst (λ c. Contains c q) (node_rolled d) among))
  where
    whole : Typed
    whole = record { ty = ty; node = roll-Node d }

no_mentions : (d : of.Node-F Call Node Typed TypedInfix TypedPostfix) → node_mentions d ≡ [] → NodeListed (roll-Node d)
no_mentions d none = node_listed d (λ q among. absurd (nothing_in q (subst (λ c. Contains c q) none among)))

plain : of.Node-F C N T I P → of.Node-F Call Node Typed TypedInfix TypedPostfix
plain y = map-Node C N T I P Call Node Typed TypedInfix TypedPostfix (λ x. x.0) (λ x. x.0) (λ x. x.0) (λ x. x.0) (λ x. x.0) y

node_layer : (y : of.Node-F C N T I P) → NodeListed (roll-Node (plain y))
unfolding plain TypedListed
node_layer (of.Number value) = no_mentions (of.Number value) refl
node_layer (of.Str value) = no_mentions (of.Str value) refl
node_layer (of.Bool value) = no_mentions (of.Bool value) refl
node_layer of.Null = no_mentions of.Null refl
node_layer of.Invalid = no_mentions of.Invalid refl
node_layer (of.EnumLiteral m e l) = no_mentions (of.EnumLiteral m e l) refl
node_layer (of.Variable n) = node_listed (of.Variable n) (λ q among. inr among)
node_layer (of.Let n value body) = node_listed (of.Let n value.0 body.0) (λ q among. inl (from_two value body q among))
node_layer (of.Chain first rest) = node_listed (of.Chain first.0 (links_of rest)) (λ q among. inl (⊎_elim
    (λ (here : Contains (mentions_in first.0) q). one_first first.0 (map (λ l. l.right) (links_of rest)) q (first.1 q here))
    (λ (there : Contains (joined (map mentions_behind (links_of rest))) q). one_later first.0 (map (λ l. l.right) (links_of rest)) q (from_links rest q there))
    (Contains-append_cases (mentions_in first.0) (joined (map mentions_behind (links_of rest))) q among)))
node_layer (of.Not operand) = node_listed (of.Not operand.0) (λ q among. inl (one_first operand.0 [] q (operand.1 q among)))
node_layer (of.Negated operand) = node_listed (of.Negated operand.0) (λ q among. inl (one_first operand.0 [] q (operand.1 q among)))
node_layer (of.Calls first steps) = node_listed (of.Calls first.0 (steps_of steps)) (λ q among. inl (⊎_elim
    (λ (here : Contains (mentions_in first.0) q). one_first first.0 (flat_map parts_of_call (steps_of steps)) q (first.1 q here))
    (λ (there : Contains (joined (map mentions_with (steps_of steps))) q). one_later first.0 (flat_map parts_of_call (steps_of steps)) q (from_steps steps q there))
    (Contains-append_cases (mentions_in first.0) (joined (map mentions_with (steps_of steps))) q among)))
node_layer (of.If condition one other) = node_listed (of.If condition.0 one.0 other.0) (λ q among. inl (⊎_elim
    (λ (here : Contains (mentions_in condition.0) q). one_first condition.0 (one.0 ∷ other.0 ∷ []) q (condition.1 q here))
    (λ (there : Contains (mentions_in one.0 ++ mentions_in other.0) q). one_later condition.0 (one.0 ∷ other.0 ∷ []) q (from_two one other q there))
    (Contains-append_cases (mentions_in condition.0) (mentions_in one.0 ++ mentions_in other.0) q among)))
node_layer (of.Coll kind elements) = node_listed (of.Coll kind (expressions elements)) (λ q among. inl (from_all elements q among))
node_layer (of.Extent m c) = node_listed (of.Extent m c) (λ q among. inr among)
node_layer (of.Query n args) = node_listed (of.Query n (expressions args)) (λ q among. ⊎_elim
    (λ (same : mentions.Query n ≡ q). inr (first_in (mentions.Query n) q [] same))
    (λ (there : Contains (joined (map mentions_in (expressions args))) q). inl (from_all args q there))
    (in_either (mentions.Query n) q (joined (map mentions_in (expressions args))) among))

call_listed : (d : of.Call-F Call Node Typed TypedInfix TypedPostfix) → ((q : Mention) → Contains (call_mentions d) q → OneNames (call_parts d) q) → CallListed (roll-Call d)
unfolding CallListed
call_listed d listed q among = subst (λ x. OneNames (call_parts x) q) (sym (out-roll-Call d)) (listed q (subst (λ c. Contains c q) (call_rolled d) among))

call_layer : (y : of.Call-F C N T I P) → CallListed (roll-Call (map-Call C N T I P Call Node Typed TypedInfix TypedPostfix (λ x. x.0) (λ x. x.0) (λ x. x.0) (λ x. x.0) (λ x. x.0) y))
unfolding TypedListed
call_layer (of.Property p v) = call_listed (of.Property p v) (λ q among. absurd (nothing_in q among))
call_layer (of.CollectProperty p v) = call_listed (of.CollectProperty p v) (λ q among. absurd (nothing_in q among))
call_layer (of.Operation o args) = call_listed (of.Operation o (expressions args)) (λ q among. from_all args q among)
call_layer (of.Class o c) = call_listed (of.Class o c) (λ q among. absurd (nothing_in q among))
call_layer (of.Collection o args) = call_listed (of.Collection o (expressions args)) (λ q among. from_all args q among)
call_layer (of.Iterator i n body) = call_listed (of.Iterator i n body.0) (λ q among. one_first body.0 [] q (body.1 q among))

typed_layer : (y : of.Typed-F C N T I P) → TypedListed (roll-Typed (map-Typed C N T I P Call Node Typed TypedInfix TypedPostfix (λ x. x.0) (λ x. x.0) (λ x. x.0) (λ x. x.0) (λ x. x.0) y))
unfolding TypedListed NodeListed
typed_layer y q among =
    let e : Typed = record { ty = y.ty; node = y.node.0 } in
    y.node.1 y.ty q (subst (λ c. Contains c q) (typed_mentions e) among)

infix_layer : (y : of.TypedInfix-F C N T I P) → InfixListed (roll-TypedInfix (map-TypedInfix C N T I P Call Node Typed TypedInfix TypedPostfix (λ x. x.0) (λ x. x.0) (λ x. x.0) (λ x. x.0) (λ x. x.0) y))
unfolding InfixListed TypedListed
infix_layer y q among =
    let link : TypedInfix = record { operator = y.operator; right = y.right.0; ty = y.ty } in
    y.right.1 q (subst (λ c. Contains c q) (by_link link) among)

postfix_layer : (y : of.TypedPostfix-F C N T I P) → PostfixListed (roll-TypedPostfix (map-TypedPostfix C N T I P Call Node Typed TypedInfix TypedPostfix (λ x. x.0) (λ x. x.0) (λ x. x.0) (λ x. x.0) (λ x. x.0) y))
unfolding PostfixListed CallListed
postfix_layer y q among =
    let step : TypedPostfix = record { call = y.call.0; ty = y.ty } in
    y.call.1 q (subst (λ c. Contains c q) (mentions_of_step step) among)

-- the calls of an expression are those that stand within it
pub mentions_stand : (e : Typed) (q : Mention) → Contains (mentions_in e) q → Mentioned e q
unfolding TypedListed plain
mentions_stand = ind-Typed CallListed NodeListed TypedListed InfixListed PostfixListed
    (λ x y is. subst (λ z. CallListed (roll-Call z)) is (call_layer y))
    (λ x y is. subst (λ z. NodeListed (roll-Node z)) is (node_layer y))
    (λ x y is. subst (λ z. TypedListed (roll-Typed z)) is (typed_layer y))
    (λ x y is. subst (λ z. InfixListed (roll-TypedInfix z)) is (infix_layer y))
    (λ x y is. subst (λ z. PostfixListed (roll-TypedPostfix z)) is (postfix_layer y))
