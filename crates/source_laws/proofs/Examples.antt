-- The relation ClassToTable of the standard hands objects of the target only on: it names its schema alone, as an argument of a call. Two lists
-- of models that differ in the target agree but for it.
use Rattle.std.specs.Prelude.{◌≡◌, codes, ◌⊎◌, ℕ, zero, suc, Bool, true, false, List, [], ◌∷◌, Some, Contains}
use Rattle.std.specs.List.{AllByRecursion}
use Rattle.std.proofs.Common.{refl, sym, ap, subst, ◌∙◌, arith, inl, inr}
use Rattle.std.proofs.lemmas.Bool.{true≢false}
use Rattle.qv_syntax.specs.declared.ty.Ty.{Ty}
use Rattle.qv_syntax.specs.declared.ty.Ty.TheVariants as types
use Rattle.qv_syntax.specs.declared.typed.Typed.{Typed}
use Rattle.qv_syntax.specs.declared.typed.Node.{Node, out-Node, roll-Node, out-roll-Node}
use Rattle.qv_syntax.specs.declared.typed.Node.TheVariants as nodes
use Rattle.qv_syntax.specs.declared.typed.Call.{Call}
use Rattle.qv_syntax.specs.declared.typed.Call.TheOpen as of
use Rattle.qv_syntax.specs.declared.typed.TypedInfix.{TypedInfix}
use Rattle.qv_syntax.specs.declared.typed.TypedPostfix.{TypedPostfix}
use Rattle.qv_syntax.specs.declared.program.Program.{Program}
use Rattle.qv_syntax.specs.declared.program.Dom.{Dom}
use Rattle.qv_syntax.specs.declared.program.Tmpl.{Tmpl, out-Tmpl, roll-Tmpl, out-roll-Tmpl}
use Rattle.qv_syntax.specs.declared.program.Item.{Item}
use Rattle.qv_syntax.specs.declared.program.ItemValue.{ItemValue, out-ItemValue, roll-ItemValue}
use Rattle.qv_syntax.specs.declared.program.ItemValue.TheVariants as items
use Rattle.qv_syntax.specs.declared.program.ItemValue.TheOpen as layers
use Rattle.qv_syntax.specs.declared.program.Conj.{Conj}
use Rattle.qv_syntax.specs.declared.program.Conj.TheVariants as conjuncts
use Rattle.qv_syntax.specs.Parts.{IsWithin, CallsQuery, IsNested, HasItem, node_parts}
use Rattle.qv_syntax.specs.Relations.{IsItemExpression, InConjunct}
use Rattle.qvtr_semantics.specs.SmallModels.{var, written, class, item, name_item, persistent_item, template, class_items, class_tmpl, table_items, table_tmpl, program, class_to_table, both, one_only}
use Rattle.template_match.specs.Sources.{IsAsked}
use Rattle.template_match.proofs.ListLaws.{all_at}
use Rattle.source_laws.specs.Agreement.{AgreeBut}
use Rattle.source_laws.specs.SourceExpressions.{ComesTo, SpeaksOfSources}
use Rattle.source_laws.specs.TargetRule.{HasConjunct, MayBeTarget, IsExpressionOf, IsVariableAlone, HandsTargetOn}
use Rattle.source_laws.proofs.RuleLaws.{out_expr, out_nested, expr_in, nested_expr}

-- ---- expressions without parts

abbrev is_leaf : of.Node-F Call Node Typed TypedInfix TypedPostfix → Bool
is_leaf (of.Variable n) = true
is_leaf (of.Str s) = true
is_leaf d = false

no_parts : (d : of.Node-F Call Node Typed TypedInfix TypedPostfix) → is_leaf d ≡ true → node_parts d ≡ []
no_parts (of.Number value) h = refl
no_parts (of.Str value) h = refl
no_parts (of.Bool value) h = refl
no_parts of.Null h = refl
no_parts of.Invalid h = refl
no_parts (of.EnumLiteral m e l) h = refl
no_parts (of.Variable n) h = refl
no_parts (of.Let n value body) h = absurd (true≢false (sym h))
no_parts (of.Chain first rest) h = absurd (true≢false (sym h))
no_parts (of.Not operand) h = absurd (true≢false (sym h))
no_parts (of.Negated operand) h = absurd (true≢false (sym h))
no_parts (of.Calls part calls) h = absurd (true≢false (sym h))
no_parts (of.If condition this that) h = absurd (true≢false (sym h))
no_parts (of.Coll kind elements) h = absurd (true≢false (sym h))
no_parts (of.Extent m class) h = refl
no_parts (of.Query n args) h = absurd (true≢false (sym h))

leaf_alone : (e inner : Typed) → IsWithin e inner → is_leaf (out-Node e.node) ≡ true → e ≡ inner
leaf_alone e inner (IsWithin.whole _) h = refl
leaf_alone e inner (IsWithin.inside _ part _ among within) h = absurd (nothing (subst (λ es. Contains es part) (no_parts (out-Node e.node) h) among))
  where
    nothing : Contains [] part → ⊥
    nothing (k, below, is) = omega (arith, below)

leaf_layer : (node : Node) (d : of.Node-F Call Node Typed TypedInfix TypedPostfix) → roll-Node d ≡ node → is_leaf (out-Node node) ≡ is_leaf d
leaf_layer node d is = ap (λ n. is_leaf (out-Node n)) (sym is) ∙ ap is_leaf (out-roll-Node d)

leaf_calls : (e : Typed) (q : ℕ) → is_leaf (out-Node e.node) ≡ true → CallsQuery e q → ⊥
leaf_calls e q h calls =
    let same = leaf_alone e (record { ty = calls.0; node = nodes.Query q calls.1 }) calls.2 h in
    true≢false (sym h ∙ ap (λ (x : Typed). is_leaf (out-Node x.node)) same ∙ leaf_layer (nodes.Query q calls.1) (of.Query q calls.1) (nodes.rolls-Query q calls.1))

leaf_comes : (p : Program) (e : Typed) (q : ℕ) → is_leaf (out-Node e.node) ≡ true → ComesTo p.queries e q → ⊥
leaf_comes p e q h (ComesTo.itself _ calls) = leaf_calls e q h calls
leaf_comes p e q h (ComesTo.through before _ comes calls) = leaf_comes p e before h comes

leaf_speaks : (p : Program) (e : Typed) → is_leaf (out-Node e.node) ≡ true → SpeaksOfSources p e
leaf_speaks p e h = record {
  own = λ ty model class within.
      let same = leaf_alone e (record { ty = ty; node = nodes.Extent model class }) within h in
      absurd (true≢false (sym h ∙ ap (λ (x : Typed). is_leaf (out-Node x.node)) same ∙ leaf_layer (nodes.Extent model class) (of.Extent model class) (nodes.rolls-Extent model class)));
  called = λ q query comes found. absurd (leaf_comes p e q h comes);
}

-- ---- the expressions of the relation

-- a variable alone, or a text
Plain : Typed → Type 0
Plain e = IsVariableAlone e ⊎ ((ty : Ty) × (text : List ℕ) × (e ≡ record { ty = ty; node = nodes.Str text }))

plain_leaf : (e : Typed) → Plain e → is_leaf (out-Node e.node) ≡ true
unfolding Plain
plain_leaf e (inl (ty, v, is)) = ap (λ (x : Typed). is_leaf (out-Node x.node)) is ∙ leaf_layer (nodes.Variable v) (of.Variable v) (nodes.rolls-Variable v)
plain_leaf e (inr (ty, text, is)) = ap (λ (x : Typed). is_leaf (out-Node x.node)) is ∙ leaf_layer (nodes.Str text) (of.Str text) (nodes.rolls-Str text)

PlainIn : Tmpl → Type 0
PlainIn root = (t : Tmpl) (item : Item) (e : Typed) → IsNested root t → HasItem t item → item.value ≡ items.Expr e → Plain e

PlainItem : Item → Type 0
PlainItem item = ((e : Typed) → item.value ≡ items.Expr e → Plain e) × ((part : Tmpl) → item.value ≡ items.Nested part → PlainIn part)

tmpl_by : (root t : Tmpl) (item : Item) (e : Typed) → AllByRecursion PlainItem (out-Tmpl root).items → IsNested root t → HasItem t item → item.value ≡ items.Expr e → Plain e
unfolding PlainItem PlainIn
tmpl_by root t item e all (IsNested.whole _) has is = (all_at PlainItem (out-Tmpl root).items item all has).0 e is
tmpl_by root t item e all (IsNested.inside _ prop part _ among nested) has is =
    (all_at PlainItem (out-Tmpl root).items (record { prop = prop; value = items.Nested part }) all among).1 part refl t item e nested has is

tmpl_plain : (d : layers.Tmpl-F ItemValue Item Tmpl) → AllByRecursion PlainItem d.items → PlainIn (roll-Tmpl d)
unfolding PlainIn
tmpl_plain d all t item e = tmpl_by (roll-Tmpl d) t item e (subst (λ x. AllByRecursion PlainItem x.items) (sym (out-roll-Tmpl d)) all)

expr_item : (item : Item) (x : Typed) → item.value ≡ items.Expr x → Plain x → PlainItem item
unfolding PlainItem
expr_item item x is plain = (
  λ e same. subst Plain (expr_in x e (sym is ∙ same)) plain,
  λ part same. absurd (nested_expr part x (sym (out_nested part) ∙ ap out-ItemValue (sym same ∙ is) ∙ out_expr x)),
)

nested_item : (item : Item) (x : Tmpl) → item.value ≡ items.Nested x → PlainIn x → PlainItem item
unfolding PlainItem
nested_item item x is plain = (
  λ e same. absurd (nested_expr x e (sym (out_nested x) ∙ ap out-ItemValue (sym is ∙ same) ∙ out_expr e)),
  λ part same. subst PlainIn (one_tmpl x part (sym (out_nested x) ∙ ap out-ItemValue (sym is ∙ same) ∙ out_nested part)) plain,
)
  where
    one_tmpl : (a b : Tmpl) → ◌≡◌ {A = layers.ItemValue-F ItemValue Item Tmpl} (layers.Nested a) (layers.Nested b) → a ≡ b
    one_tmpl a b h = cc

name_plain : PlainItem (name_item 0)
unfolding Plain
name_plain = expr_item (name_item 0) (var 0 types.Str) (items.rolls-Expr (var 0 types.Str)) (inl (types.Str, 0, variable_is 0 types.Str))
  where
    variable_is : (n : ℕ) (ty : Ty) → var n ty ≡ record { ty = ty; node = nodes.Variable n }
    variable_is n ty = ap (λ (x : Node). let e : Typed = record { ty = ty; node = x } in e) (nodes.rolls-Variable n)

persistent_plain : PlainItem persistent_item
unfolding Plain
persistent_plain = expr_item persistent_item (written (codes "persistent")) (items.rolls-Expr (written (codes "persistent"))) (inr (types.Str, codes "persistent", text_is (codes "persistent")))
  where
    text_is : (text : List ℕ) → written text ≡ record { ty = types.Str; node = nodes.Str text }
    text_is text = ap (λ (x : Node). let e : Typed = record { ty = types.Str; node = x } in e) (nodes.rolls-Str text)

bare_plain : (v c : ℕ) → PlainIn (template v c [])
bare_plain v c = tmpl_plain (record { var = v; class = record { 0 = c }; items = [] }) tt

part_plain : (v c : ℕ) → PlainItem (item 2 (roll-ItemValue (layers.Nested (template v c []))))
part_plain v c = nested_item (item 2 (roll-ItemValue (layers.Nested (template v c [])))) (template v c []) (items.rolls-Nested (template v c [])) (bare_plain v c)

class_plain : PlainIn class_tmpl
class_plain = tmpl_plain (record { var = 1; class = record { 0 = 2 }; items = class_items }) (part_plain 2 1, (persistent_plain, (name_plain, tt)))

table_plain : PlainIn table_tmpl
table_plain = tmpl_plain (record { var = 3; class = record { 0 = 2 }; items = table_items }) (part_plain 4 1, (name_plain, tt))

from_template : (dom : Dom) (e : Typed) (t : Tmpl) → PlainIn t → dom.template ≡ Some t → IsItemExpression dom e → Plain e
unfolding PlainIn
from_template dom e t plain is h =
    subst PlainIn (one_root t h.of.of.root (sym is ∙ h.of.of.has)) plain h.of.template h.item e h.of.of.nested h.of.has h.is
  where
    one_root : (a b : Tmpl) → Some a ≡ Some b → a ≡ b
    one_root a b k = cc

item_plain : (dom : Dom) (e : Typed) → Contains class_to_table.domains dom → IsItemExpression dom e → Plain e
item_plain dom e (zero, within, is) h = from_template dom e class_tmpl class_plain (ap (λ (d : Dom). d.template) (sym is)) h
item_plain dom e (suc zero, within, is) h = from_template dom e table_tmpl table_plain (ap (λ (d : Dom). d.template) (sym is)) h
item_plain dom e (suc (suc k), within, is) h = absurd (omega (arith, within))

argument_plain : (e : Typed) → Contains (var 2 (class 0 1) ∷ var 4 (class 1 1) ∷ []) e → Plain e
unfolding Plain
argument_plain e (zero, within, is) = inl (class 0 1, 2, sym is ∙ ap (λ (x : Node). let y : Typed = record { ty = class 0 1; node = x } in y) (nodes.rolls-Variable 2))
argument_plain e (suc zero, within, is) = inl (class 1 1, 4, sym is ∙ ap (λ (x : Node). let y : Typed = record { ty = class 1 1; node = x } in y) (nodes.rolls-Variable 4))
argument_plain e (suc (suc k), within, is) = absurd (omega (arith, within))

the_call : (c : Conj) → HasConjunct class_to_table c → conjuncts.Call 0 (var 2 (class 0 1) ∷ var 4 (class 1 1) ∷ []) ≡ c
the_call c (inl (zero, within, is)) = is
the_call c (inl (suc k, within, is)) = absurd (omega (arith, within))
the_call c (inr (k, within, is)) = absurd (omega (arith, within))

conjunct_plain : (c : Conj) (e : Typed) → HasConjunct class_to_table c → InConjunct c e → Plain e
conjunct_plain c e there within = argument_plain e (subst (λ x. InConjunct x e) (sym (the_call c there)) within)

expression_plain : (e : Typed) → IsExpressionOf class_to_table e → Plain e
expression_plain e (IsExpressionOf.item dom c is) = item_plain dom e c is
expression_plain e (IsExpressionOf.conjunct c there within) = conjunct_plain c e there within

may_plain : (e : Typed) → MayBeTarget class_to_table e → Plain e
may_plain e (MayBeTarget.item dom c is) = item_plain dom e c is
may_plain e (MayBeTarget.argument n args there within) = conjunct_plain (conjuncts.Call n args) e there within

pub hands_on : HandsTargetOn program class_to_table
hands_on = record {
  speaks = λ e is. leaf_speaks program e (plain_leaf e (expression_plain e is));
  alone = λ e v may names target. (names.0, v, leaf_alone e (record { ty = names.0; node = nodes.Variable v }) names.1 (plain_leaf e (may_plain e may)));
  named = λ c e there asked. absurd (subst (λ x. IsAsked x e) (sym (the_call c there)) asked);
}

pub small_agree : AgreeBut program.target both one_only
small_agree zero other = refl
small_agree (suc zero) other = absurd (other refl)
small_agree (suc (suc m)) other = refl
