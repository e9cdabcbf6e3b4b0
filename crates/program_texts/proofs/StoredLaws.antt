-- Where the recursion says so of an expression or a program, each string literal within it is storable.
use Rattle.std.proofs.Common.{◌≡◌, ◌&&◌, zero, suc, Bool, true, List, [], ◌∷◌, ◌++◌, map, sym, ap, ◌∙◌, subst, inl, inr, arith}
use Rattle.std.specs.Prelude.{Contains}
use Rattle.std.specs.List.{flat_map}
use Rattle.std.proofs.lemmas.Bool.{and_parts}
use Rattle.std.proofs.lemmas.List.Elements.{Contains-append_cases}
use Rattle.qv_syntax.specs.declared.ty.Ty.{Ty}
use Rattle.qv_syntax.specs.declared.typed.Typed.{Typed, fold-roll-Typed}
use Rattle.qv_syntax.specs.declared.typed.TypedInfix.{TypedInfix, fold-roll-TypedInfix}
use Rattle.qv_syntax.specs.declared.typed.TypedPostfix.{TypedPostfix, fold-roll-TypedPostfix}
use Rattle.qv_syntax.specs.declared.typed.Node.{Node, out-Node, roll-out-Node, map-Node, fold-roll-Node}
use Rattle.qv_syntax.specs.declared.typed.Node.TheVariants as nodes
use Rattle.qv_syntax.specs.declared.typed.Call.{Call, out-Call, roll-out-Call, map-Call, fold-roll-Call}
use Rattle.qv_syntax.specs.declared.typed.Call.TheOpen as of
use Rattle.qv_syntax.specs.declared.program.Program.{Program}
use Rattle.qv_syntax.specs.declared.program.Rel.{Rel}
use Rattle.qv_syntax.specs.declared.program.Dom.{Dom}
use Rattle.qv_syntax.specs.declared.program.Tmpl.{Tmpl, out-Tmpl, roll-out-Tmpl, fold-roll-Tmpl}
use Rattle.qv_syntax.specs.declared.program.Item.{Item, fold-roll-Item}
use Rattle.qv_syntax.specs.declared.program.ItemValue.{fold-roll-ItemValue}
use Rattle.qv_syntax.specs.declared.program.ItemValue.TheOpen as layers
use Rattle.qv_syntax.specs.declared.program.ItemValue.TheVariants as items
use Rattle.qv_syntax.specs.declared.program.Conj.{Conj}
use Rattle.qv_syntax.specs.declared.program.Conj.TheVariants as conjuncts
use Rattle.qv_syntax.specs.Parts.{IsWithin, IsNested, HasItem, parts_of, node_parts, call_parts, parts_of_call}
use Rattle.qv_syntax.specs.Relations.{InConjunct, IsItemExpression}
use Rattle.evaluation_laws.specs.Literals.{HasStorableLiterals, IsExpressionOf, HasStorableTexts}
use Rattle.program_texts.specs.Stored.{all_true, call_stored, node_stored, typed_stored, infix_stored, postfix_stored, is_stored, is_node_stored, is_call_stored, is_infix_stored, is_postfix_stored, value_step, item_step, template_step, is_template_stored, is_item_stored, is_value_stored, is_conjunct_stored, is_root_stored, is_domain_stored, is_relation_stored, is_query_stored}

-- ---- lists

all_in : {X : Type 0} (test : X → Bool) (xs : List X) → all_true (map test xs) ≡ true → (x : X) → Contains xs x → test x ≡ true
all_in test [] all x (k, within, is) = absurd (omega (arith, within))
all_in test (y ∷ ys) all x (zero, within, is) = subst (λ z. test z ≡ true) is (and_parts (test y) (all_true (map test ys)) all).0
all_in test (y ∷ ys) all x (suc k, within, is) = all_in test ys (and_parts (test y) (all_true (map test ys)) all).1 x (k, omega (arith, within), is)

-- ---- expressions

abbrev call_layer : of.Call-F Call Node Typed TypedInfix TypedPostfix → Bool
call_layer d = call_stored (map-Call Call Node Typed TypedInfix TypedPostfix Bool Bool Bool Bool Bool is_call_stored is_node_stored is_stored is_infix_stored is_postfix_stored d)

abbrev node_layer : of.Node-F Call Node Typed TypedInfix TypedPostfix → Bool
node_layer d = node_stored (map-Node Call Node Typed TypedInfix TypedPostfix Bool Bool Bool Bool Bool is_call_stored is_node_stored is_stored is_infix_stored is_postfix_stored d)

AllStored : List Typed → Type 0
AllStored ps = (p : Typed) → Contains ps p → is_stored p ≡ true

none_stored : AllStored []
unfolding AllStored
none_stored p (k, within, is) = absurd (omega (arith, within))

one_stored : (e : Typed) (es : List Typed) → is_stored e ≡ true → AllStored es → AllStored (e ∷ es)
unfolding AllStored
one_stored e es one others p (zero, within, is) = subst (λ x. is_stored x ≡ true) is one
one_stored e es one others p (suc k, within, is) = others p (k, omega (arith, within), is)

list_stored : (es : List Typed) → all_true (map is_stored es) ≡ true → AllStored es
unfolding AllStored
list_stored es all p c = all_in is_stored es all p c

links_stored : (ls : List TypedInfix) → all_true (map is_infix_stored ls) ≡ true → AllStored (map (λ l. l.right) ls)
links_stored [] all = none_stored
links_stored (l ∷ ls) all =
    let parts = and_parts (is_infix_stored l) (all_true (map is_infix_stored ls)) all in
    let same : is_infix_stored l ≡ is_stored l.right = fold-roll-TypedInfix Bool Bool Bool Bool Bool call_stored node_stored typed_stored infix_stored postfix_stored (record { operator = l.operator; right = l.right; ty = l.ty }) in
    one_stored l.right (map (λ (k : TypedInfix). k.right) ls) (sym same ∙ parts.0) (links_stored ls parts.1)

call_parts_stored : (d : of.Call-F Call Node Typed TypedInfix TypedPostfix) → call_layer d ≡ true → AllStored (call_parts d)
call_parts_stored (of.Property prop v) is = none_stored
call_parts_stored (of.CollectProperty prop v) is = none_stored
call_parts_stored (of.Operation o args) is = list_stored args is
call_parts_stored (of.Class o class) is = none_stored
call_parts_stored (of.Collection o args) is = list_stored args is
call_parts_stored (of.Iterator i number body) is = one_stored body [] is none_stored

joined_stored : (xs ys : List Typed) → AllStored xs → AllStored ys → AllStored (xs ++ ys)
unfolding AllStored
joined_stored xs ys one other p c = elim (Contains-append_cases xs ys p c) [ inl first ↦ one p first | inr second ↦ other p second ]

step_stored : (step : TypedPostfix) → is_postfix_stored step ≡ true → AllStored (parts_of_call step)
step_stored step is =
    let same : is_postfix_stored step ≡ is_call_stored step.call = fold-roll-TypedPostfix Bool Bool Bool Bool Bool call_stored node_stored typed_stored infix_stored postfix_stored (record { call = step.call; ty = step.ty }) in
    let opened : is_call_stored step.call ≡ call_layer (out-Call step.call) =
    ap is_call_stored (sym (roll-out-Call step.call)) ∙ fold-roll-Call Bool Bool Bool Bool Bool call_stored node_stored typed_stored infix_stored postfix_stored (out-Call step.call) in
    call_parts_stored (out-Call step.call) (sym opened ∙ sym same ∙ is)

steps_stored : (steps : List TypedPostfix) → all_true (map is_postfix_stored steps) ≡ true → AllStored (flat_map parts_of_call steps)
steps_stored [] all = none_stored
steps_stored (step ∷ steps) all =
    let parts = and_parts (is_postfix_stored step) (all_true (map is_postfix_stored steps)) all in
    joined_stored (parts_of_call step) (flat_map parts_of_call steps) (step_stored step parts.0) (steps_stored steps parts.1)

node_parts_stored : (d : of.Node-F Call Node Typed TypedInfix TypedPostfix) → node_layer d ≡ true → AllStored (node_parts d)
node_parts_stored (of.Number value) is = none_stored
node_parts_stored (of.Str text) is = none_stored
node_parts_stored (of.Bool value) is = none_stored
node_parts_stored of.Null is = none_stored
node_parts_stored of.Invalid is = none_stored
node_parts_stored (of.EnumLiteral m e l) is = none_stored
node_parts_stored (of.Variable n) is = none_stored
node_parts_stored (of.Let n value body) is =
    let parts = and_parts (is_stored value) (is_stored body) is in
    one_stored value (body ∷ []) parts.0 (one_stored body [] parts.1 none_stored)
node_parts_stored (of.Chain first rest) is =
    let parts = and_parts (is_stored first) (all_true (map is_infix_stored rest)) is in
    one_stored first (map (λ (l : TypedInfix). l.right) rest) parts.0 (links_stored rest parts.1)
node_parts_stored (of.Not operand) is = one_stored operand [] is none_stored
node_parts_stored (of.Negated operand) is = one_stored operand [] is none_stored
node_parts_stored (of.Calls part steps) is =
    let parts = and_parts (is_stored part) (all_true (map is_postfix_stored steps)) is in
    one_stored part (flat_map parts_of_call steps) parts.0 (steps_stored steps parts.1)
node_parts_stored (of.If condition one other) is =
    let parts = and_parts (is_stored condition) (is_stored one && is_stored other) is in
    let more = and_parts (is_stored one) (is_stored other) parts.1 in
    one_stored condition (one ∷ other ∷ []) parts.0 (one_stored one (other ∷ []) more.0 (one_stored other [] more.1 none_stored))
node_parts_stored (of.Coll kind elements) is = list_stored elements is
node_parts_stored (of.Extent m c) is = none_stored
node_parts_stored (of.Query n args) is = list_stored args is

-- an expression by its node
typed_is : (ty : Ty) (node : Node) → is_stored (record { ty = ty; node = node }) ≡ is_node_stored node
typed_is ty node = fold-roll-Typed Bool Bool Bool Bool Bool call_stored node_stored typed_stored infix_stored postfix_stored (record { ty = ty; node = node })

parts_stored : (e : Typed) → is_stored e ≡ true → AllStored (parts_of e)
parts_stored e is =
    let opened : is_node_stored e.node ≡ node_layer (out-Node e.node) =
    ap is_node_stored (sym (roll-out-Node e.node)) ∙ fold-roll-Node Bool Bool Bool Bool Bool call_stored node_stored typed_stored infix_stored postfix_stored (out-Node e.node) in
    node_parts_stored (out-Node e.node) (sym opened ∙ sym (typed_is e.ty e.node) ∙ is)

within_stored : (e inner : Typed) → IsWithin e inner → is_stored e ≡ true → is_stored inner ≡ true
unfolding AllStored
within_stored e inner (IsWithin.whole _) is = is
within_stored e inner (IsWithin.inside _ part _ c w) is = within_stored part inner w (parts_stored e is part c)

pub expression_stored : (e : Typed) → is_stored e ≡ true → HasStorableLiterals e
expression_stored e is ty text w =
    let told = within_stored e (record { ty = ty; node = nodes.Str text }) w is in
    sym (fold-roll-Node Bool Bool Bool Bool Bool call_stored node_stored typed_stored infix_stored postfix_stored (of.Str text))
    ∙ ap is_node_stored (nodes.rolls-Str text) ∙ sym (typed_is ty (nodes.Str text)) ∙ told

-- ---- relations

conjunct_stored : (c : Conj) (e : Typed) → is_conjunct_stored c ≡ true → InConjunct c e → is_stored e ≡ true
conjunct_stored (conjuncts.Cond c) e is same = subst (λ x. is_stored x ≡ true) same is
conjunct_stored (conjuncts.Equation v value) e is same = subst (λ x. is_stored x ≡ true) same is
conjunct_stored (conjuncts.Call rel args) e is among = all_in is_stored args is e among

-- the items of a template
items_stored : (t : Tmpl) → is_template_stored t ≡ true → (item : Item) → HasItem t item → is_item_stored item ≡ true
items_stored t is item among =
    let opened : is_template_stored t ≡ all_true (map is_item_stored (out-Tmpl t).items) =
    ap is_template_stored (sym (roll-out-Tmpl t)) ∙ fold-roll-Tmpl Bool Bool Bool value_step item_step template_step (out-Tmpl t) in
    all_in is_item_stored (out-Tmpl t).items (sym opened ∙ is) item among

item_stored : (item : Item) → is_item_stored item ≡ is_value_stored item.value
item_stored item = fold-roll-Item Bool Bool Bool value_step item_step template_step (record { prop = item.prop; value = item.value })

nested_stored : (t inner : Tmpl) → IsNested t inner → is_template_stored t ≡ true → is_template_stored inner ≡ true
nested_stored t inner (IsNested.whole _) is = is
nested_stored t inner (IsNested.inside _ prop part _ among within) is =
    let item : Item = record { prop = prop; value = items.Nested part } in
    let opened : is_value_stored (items.Nested part) ≡ is_template_stored part =
    ap is_value_stored (sym (items.rolls-Nested part)) ∙ fold-roll-ItemValue Bool Bool Bool value_step item_step template_step (layers.Nested part) in
    nested_stored part inner within (sym opened ∙ sym (item_stored item) ∙ items_stored t is item among)

domain_stored : (dom : Dom) (e : Typed) → is_domain_stored dom ≡ true → IsItemExpression dom e → is_stored e ≡ true
domain_stored dom e is expression =
    let of_dom = expression.of.of in
    let root : is_template_stored of_dom.root ≡ true = sym (ap is_root_stored of_dom.has) ∙ is in
    let template = nested_stored of_dom.root expression.of.template of_dom.nested root in
    let opened : is_value_stored (items.Expr e) ≡ is_stored e =
    ap is_value_stored (sym (items.rolls-Expr e)) ∙ fold-roll-ItemValue Bool Bool Bool value_step item_step template_step (layers.Expr e) in
    sym opened ∙ ap is_value_stored (sym expression.is) ∙ sym (item_stored expression.item) ∙ items_stored expression.of.template template expression.item expression.of.has

relation_stored : (rel : Rel) (e : Typed) → is_relation_stored rel ≡ true → IsExpressionOf rel e → is_stored e ≡ true
relation_stored rel e is of_rel =
    let outer = and_parts (all_true (map is_conjunct_stored rel.whens)) (all_true (map is_conjunct_stored rel.wheres) && all_true (map is_domain_stored rel.domains)) is in
    let inner = and_parts (all_true (map is_conjunct_stored rel.wheres)) (all_true (map is_domain_stored rel.domains)) outer.1 in
    by outer.0 inner.0 inner.1 of_rel
  where
    by : all_true (map is_conjunct_stored rel.whens) ≡ true → all_true (map is_conjunct_stored rel.wheres) ≡ true → all_true (map is_domain_stored rel.domains) ≡ true → IsExpressionOf rel e → is_stored e ≡ true
    by whens wheres domains (IsExpressionOf.of_when c among within) = conjunct_stored c e (all_in is_conjunct_stored rel.whens whens c among) within
    by whens wheres domains (IsExpressionOf.of_where c among within) = conjunct_stored c e (all_in is_conjunct_stored rel.wheres wheres c among) within
    by whens wheres domains (IsExpressionOf.of_item dom among expression) = domain_stored dom e (all_in is_domain_stored rel.domains domains dom among) expression

pub program_stored : (program : Program) → all_true (map is_query_stored program.queries) ≡ true → all_true (map is_relation_stored program.rels) ≡ true → HasStorableTexts program
program_stored program queries rels = record {
  queries = λ query among. expression_stored query.body (all_in is_query_stored program.queries queries query among);
  relations = λ rel e among of_rel. expression_stored e (relation_stored rel e (all_in is_relation_stored program.rels rels rel among) of_rel);
}
