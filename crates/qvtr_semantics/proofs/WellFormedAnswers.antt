-- A small program is well formed: PackageToSchema alone, with the key of its schemas.
use Rattle.std.specs.Prelude.{◌≡◌, ◌≢◌, ◌⊎◌, ◌<◌, ◌≤◌, ℕ, zero, suc, Bool, true, false, List, [], ◌∷◌, ◌++◌, length, codes, Option, None, Some, slice_get, Contains, AllPairs}
use Rattle.std.specs.List.{flat_map}
use Rattle.std.specs.Option.{unwrap_or}
use Rattle.std.proofs.Common.{refl, ap, sym, ◌∙◌, subst, arith, inl, inr, true≢false}
use Rattle.mof_metamodel.specs.declared.desc.ClassId.{ClassId}
use Rattle.mof_metamodel.specs.declared.desc.PropId.{PropId}
use Rattle.qv_syntax.specs.declared.ty.Ty.{Ty}
use Rattle.qv_syntax.specs.declared.ty.Ty.TheVariants as types
use Rattle.qv_syntax.specs.declared.query.ModelSlot.{ModelSlot}
use Rattle.qv_syntax.specs.declared.program.Rel.{Rel}
use Rattle.qv_syntax.specs.declared.program.Var.{Var}
use Rattle.qv_syntax.specs.declared.program.Dom.{Dom}
use Rattle.qv_syntax.specs.declared.program.Marker.{Marker}
use Rattle.qv_syntax.specs.declared.program.Marker.TheVariants.{Checkonly, Enforce, Primitive}
use Rattle.qv_syntax.specs.declared.program.Tmpl.{Tmpl, out-Tmpl, out-roll-Tmpl, fold-roll-Tmpl}
use Rattle.qv_syntax.specs.declared.program.Item.{Item, fold-roll-Item}
use Rattle.qv_syntax.specs.declared.program.ItemValue.{ItemValue, out-ItemValue, out-roll-ItemValue, fold-roll-ItemValue}
use Rattle.qv_syntax.specs.declared.program.ItemValue.TheOpen as layers
use Rattle.qv_syntax.specs.declared.program.ItemValue.TheVariants as items
use Rattle.qv_syntax.specs.declared.program.Conj.TheVariants as conjuncts
use Rattle.qv_syntax.specs.declared.typed.Typed.{Typed}
use Rattle.qv_syntax.specs.declared.typed.Node.{Node, out-Node, roll-Node, out-roll-Node}
use Rattle.qv_syntax.specs.declared.typed.Node.TheVariants as nodes
use Rattle.qv_syntax.specs.declared.typed.Call.{Call}
use Rattle.qv_syntax.specs.declared.typed.Call.TheOpen as of
use Rattle.qv_syntax.specs.declared.typed.TypedInfix.{TypedInfix}
use Rattle.qv_syntax.specs.declared.typed.TypedPostfix.{TypedPostfix}
use Rattle.qv_syntax.specs.Parts.{IsWithin, Names, IsNested, HasItem, parts_of, node_parts, template_variables, value_variables, item_variables, template_step}
use Rattle.qv_syntax.specs.Relations.{IsModelDomain, IsSourceDomain, IsTemplateOf, IsItemExpression, IsItemAlone, OccursInTemplates, OccursInClause, IsUniversal, IsDataVariable, IsBound, CallsIn, IsCallPath}
use Rattle.qv_syntax.specs.Directions.{IsDomainShaped, AreOfTwoModels, IsDeclared, HasDomains, HasVariables, IsInModel, HasEquations, IsMeant, AreMeant, domain_variables}
use Rattle.mof_metamodel.specs.declared.desc.PropType.TheVariants as props
use Rattle.mof_metamodel.specs.Metamodels.{props_of}
use Rattle.qv_syntax.specs.declared.typed.Values.TheVariants as values
use Rattle.qv_syntax.specs.declared.program.Key.{Key}
use Rattle.qv_syntax.specs.Types.{IsClassIn, IsSingleType}
use Rattle.qv_syntax.specs.TypeRules.{HasProperty}
use Rattle.qv_syntax.specs.TypedTrees.{Typing, IsTyped}
use Rattle.qv_syntax.specs.ProgramNumbers.{AreVariablesInRange, IsTemplateInRange, IsRelationInRange, HasNumbersInRange}
use Rattle.qv_syntax.specs.ProgramTypes.{variables_of, IsGiven, IsItemOfType, IsItemTyped, IsRelationTyped, HasTypedExpressions}
use Rattle.qv_syntax.specs.QueryCalls.{Reaches}
use Rattle.qv_syntax.specs.Keys.{IsKey, AreKeys}
use Rattle.qv_syntax.specs.WellFormed.{IsWellFormed}
use Rattle.qvtr_semantics.specs.SmallModels.{cls, rdb, name_item, template, var, data_var, object_var, class, package_to_schema, packages_alone, metas}
use Rattle.std.proofs.lemmas.Option.{none-some}
use Rattle.mof_metamodel.proofs.Facts.{nothing_in}
use Rattle.std.proofs.lemmas.Option.{same_Some}

one_of_one : {X : Type 0} (P : X → Type 0) (a : X) → P a → (x : X) → Contains (a ∷ []) x → P x
one_of_one P a p x (zero, within, is) = subst P is p
one_of_one P a p x (suc k, within, is) = absurd (omega (arith, within))

one_of_two : {X : Type 0} (P : X → Type 0) (a b : X) → P a → P b → (x : X) → Contains (a ∷ b ∷ []) x → P x
one_of_two P a b p q x (zero, within, is) = subst P is p
one_of_two P a b p q x (suc zero, within, is) = subst P is q
one_of_two P a b p q x (suc (suc k), within, is) = absurd (omega (arith, within))

-- ---- expressions that are a variable

number_layer : of.Node-F Call Node Typed TypedInfix TypedPostfix → Option ℕ
number_layer (of.Variable n) = Some n
number_layer layer = None

leaf : (e x : Typed) → ((part : Typed) → Contains (parts_of e) part → ⊥) → IsWithin e x → e ≡ x
leaf e x none (IsWithin.whole _) = refl
leaf e x none (IsWithin.inside _ part _ c within) = absurd (none part c)

names_itself : (m v : ℕ) (ty : Ty) → Names (var m ty) v → v ≡ m
unfolding number_layer
names_itself m v ty (other, within) =
    let same : var m ty ≡ record { ty = other; node = nodes.Variable v } =
    leaf (var m ty) (record { ty = other; node = nodes.Variable v })
    (λ part c. nothing_in part (subst (λ n. Contains (node_parts n) part) (out-roll-Node (of.Variable m)) c)) within in
    let mine : number_layer (out-Node (roll-Node (of.Variable m))) ≡ Some m = ap number_layer (out-roll-Node (of.Variable m)) in
    let theirs : number_layer (out-Node (nodes.Variable v)) ≡ Some v =
    ap (λ n. number_layer (out-Node n)) (sym (nodes.rolls-Variable v)) ∙ ap number_layer (out-roll-Node (of.Variable v)) in
    same_Some v m (sym theirs ∙ ap (λ e. number_layer (out-Node e.node)) (sym same) ∙ mine)

-- ---- templates with one item, a name

abbrev bare : ℕ → ℕ → ℕ → Tmpl
bare n c m = template n c (name_item m ∷ [])

abbrev tree_of : ℕ → ℕ → ℕ → layers.Tmpl-F ItemValue Item Tmpl
tree_of n c m = record { var = n; class = record { 0 = c }; items = name_item m ∷ [] }

expression_layer : layers.ItemValue-F ItemValue Item Tmpl → Option Typed
expression_layer layers.Null = None
expression_layer (layers.Expr e) = Some e
expression_layer (layers.Nested t) = None

expression_of : ItemValue → Option Typed
expression_of value = expression_layer (out-ItemValue value)

name_expression : (m : ℕ) → expression_of (name_item m).value ≡ Some (var m types.Str)
unfolding expression_of expression_layer
name_expression m = ap expression_layer (out-roll-ItemValue (layers.Expr (var m types.Str)))

written_expression : (e : Typed) → expression_of (items.Expr e) ≡ Some e
unfolding expression_of expression_layer
written_expression e = ap expression_of (sym (items.rolls-Expr e)) ∙ ap expression_layer (out-roll-ItemValue (layers.Expr e))

nested_expression : (t : Tmpl) → expression_of (items.Nested t) ≡ None
unfolding expression_of expression_layer
nested_expression t = ap expression_of (sym (items.rolls-Nested t)) ∙ ap expression_layer (out-roll-ItemValue (layers.Nested t))

only_item : (n c m : ℕ) (item : Item) → HasItem (bare n c m) item → name_item m ≡ item
only_item n c m item has =
    one_of_one (λ x. name_item m ≡ x) (name_item m) refl item (subst (λ t. Contains t.items item) (out-roll-Tmpl (tree_of n c m)) has)

not_nested : (n c m : ℕ) (prop : PropId) (part : Tmpl) → HasItem (bare n c m) (record { prop = prop; value = items.Nested part }) → ⊥
not_nested n c m prop part has =
    none-some (var m types.Str)
    (sym (nested_expression part) ∙ ap (λ i. expression_of i.value) (sym (only_item n c m (record { prop = prop; value = items.Nested part }) has)) ∙ name_expression m)

alone_by : (root t : Tmpl) → ((prop : PropId) (part : Tmpl) → HasItem root (record { prop = prop; value = items.Nested part }) → ⊥) → IsNested root t → root ≡ t
alone_by root t none (IsNested.whole _) = refl
alone_by root t none (IsNested.inside _ prop part _ c nested) = absurd (none prop part c)

abbrev first_dom : Dom
first_dom = record { model = Some 0; marker = Checkonly; root = 1; template = Some (bare 1 1 0) }

abbrev second_dom : Dom
second_dom = record { model = Some 1; marker = Enforce; root = 2; template = Some (bare 2 1 0) }

template_is_root : (n c m : ℕ) (dom : Dom) → dom.template ≡ Some (bare n c m) → (t : Tmpl) → IsTemplateOf dom t → bare n c m ≡ t
template_is_root n c m dom e t h =
    let root : bare n c m ≡ h.root = same_Some (bare n c m) h.root (sym e ∙ h.has) in
    root ∙ alone_by h.root t (λ prop part has. not_nested n c m prop part (subst (λ r. HasItem r (record { prop = prop; value = items.Nested part })) (sym root) has)) h.nested

item_is_variable : (n c m : ℕ) (dom : Dom) → dom.template ≡ Some (bare n c m) → (e : Typed) → IsItemExpression dom e → var m types.Str ≡ e
item_is_variable n c m dom d e h =
    let t : bare n c m ≡ h.of.template = template_is_root n c m dom d h.of.template h.of.of in
    let same : name_item m ≡ h.item = only_item n c m h.item (subst (λ x. HasItem x h.item) (sym t) h.of.has) in
    same_Some (var m types.Str) e (sym (name_expression m) ∙ ap (λ i. expression_of i.value) same ∙ ap expression_of h.is ∙ written_expression e)

variable_of : (n c m : ℕ) → (out-Tmpl (bare n c m)).var ≡ n
variable_of n c m = ap (λ t. t.var) (out-roll-Tmpl (tree_of n c m))

class_of : (n c m : ℕ) → (out-Tmpl (bare n c m)).class ≡ record { 0 = c }
class_of n c m = ap (λ t. t.class) (out-roll-Tmpl (tree_of n c m))

-- ---- which variables are universal

abbrev IsFirstTwo : ℕ → Type 0
IsFirstTwo v = (v ≡ 0) ⊎ (v ≡ 1)

in_first : (v : ℕ) → OccursInTemplates first_dom v → IsFirstTwo v
in_first v (OccursInTemplates.root e) = inr (sym e)
in_first v (OccursInTemplates.template t h e) = inr (sym e ∙ ap (λ x. (out-Tmpl x).var) (sym (template_is_root 1 1 0 first_dom refl t h)) ∙ variable_of 1 1 0)
in_first v (OccursInTemplates.item e h names) =
    inl (names_itself 0 v types.Str (subst (λ x. Names x v) (sym (item_is_variable 1 1 0 first_dom refl e h)) names))

universal_is : (v : ℕ) → IsUniversal packages_alone package_to_schema v → IsFirstTwo v
universal_is v (IsUniversal.domain dom s occurs) =
    one_of_two (λ d. (d.model ≢ Some 1) → OccursInTemplates d v → IsFirstTwo v) first_dom second_dom (λ other o. in_first v o) (λ other o. absurd (other refl)) dom s.is s.source occurs
universal_is v (IsUniversal.when (OccursInClause.subject c has is)) = absurd (nothing_in c has)
universal_is v (IsUniversal.when (OccursInClause.expression c e has within names)) = absurd (nothing_in c has)

abbrev some_number : ℕ → Option ℕ
some_number n = Some n

zero_is_not_one : some_number 0 ≡ some_number 1 → ⊥
zero_is_not_one e = let n : 0 ≡ 1 = same_Some 0 1 e in absurd (omega (arith, n))

first_is_source : IsSourceDomain packages_alone package_to_schema first_dom
first_is_source = record { is = (0, omega arith, refl); source = zero_is_not_one }

name_written : (name_item 0).value ≡ items.Expr (record { ty = types.Str; node = nodes.Variable 0 })
name_written = items.rolls-Expr (var 0 types.Str) ∙ ap (λ n. items.Expr (record { ty = types.Str; node = n })) (nodes.rolls-Variable 0)

name_alone : IsItemAlone first_dom 0
name_alone = record {
  ty = types.Str;
  is = record {
    item = name_item 0;
    of = record {
      template = bare 1 1 0;
      of = record { root = bare 1 1 0; has = refl; nested = IsNested.whole (bare 1 1 0) };
      has = subst (λ t. Contains t.items (name_item 0)) (sym (out-roll-Tmpl (tree_of 1 1 0))) (0, omega arith, refl);
    };
    is = name_written;
  };
}

name_is_universal : IsUniversal packages_alone package_to_schema 0
name_is_universal = IsUniversal.domain first_dom first_is_source (OccursInTemplates.item (record { ty = name_alone.ty; node = nodes.Variable 0 }) name_alone.is (name_alone.ty, IsWithin.whole (record { ty = name_alone.ty; node = nodes.Variable 0 })))

package_is_universal : IsUniversal packages_alone package_to_schema 1
package_is_universal = IsUniversal.domain first_dom first_is_source (OccursInTemplates.root refl)

-- ---- domains

is_primitive_mark : Marker → Bool
is_primitive_mark Primitive = true
is_primitive_mark Checkonly = false
is_primitive_mark Enforce = false

shaped : (n c m model : ℕ) (mark : Marker) → is_primitive_mark mark ≡ false → IsDomainShaped (record { model = Some model; marker = mark; root = n; template = Some (bare n c m) })
unfolding is_primitive_mark
shaped n c m model mark e = record {
  primitive = (λ is. absurd (true≢false (sym (ap is_primitive_mark is) ∙ e)), λ none. absurd (none-some model (sym none)));
  bare = λ none. absurd (none-some model (sym none));
  shaped = λ other is. (bare n c m, refl, variable_of n c m);
}

two_models : AllPairs AreOfTwoModels (first_dom ∷ second_dom ∷ [])
two_models zero zero d before within = absurd (omega (arith, before))
two_models zero (suc zero) d before within = λ model e f. zero_is_not_one (e ∙ sym f)
two_models zero (suc (suc j)) d before within = absurd (omega (arith, within))
two_models (suc i) j d before within = absurd (omega (arith, before, within))

declared_by : (n c m model meta : ℕ) (name : List ℕ) → slice_get package_to_schema.vars n ≡ Some (record { name = name; ty = class meta c; model = Some model })
    → IsDeclared package_to_schema model meta (bare n c m)
declared_by n c m model meta name found = record {
  var = record { name = name; ty = class meta c; model = Some model };
  found = ap (λ x. slice_get package_to_schema.vars x) (variable_of n c m) ∙ found;
  class = ap (types.Class meta) (sym (class_of n c m));
  of_model = refl;
}

-- what holds of a model and a metamodel with these numbers holds of those of the domain
of_domain : (P : ℕ → ℕ → Tmpl → Type 0) (n c m model : ℕ) (slot : ModelSlot) (dom : Dom) → dom.model ≡ Some model → slice_get packages_alone.models model ≡ Some slot
    → dom.template ≡ Some (bare n c m) → P model slot.meta (bare n c m)
    → (d : IsModelDomain packages_alone package_to_schema dom) (t : Tmpl) → IsTemplateOf dom t → P d.model d.slot.meta t
of_domain P n c m model slot dom is found has p d t h =
    let same : model ≡ d.model = same_Some model d.model (sym is ∙ d.of_model) in
    let same_slot : slot ≡ d.slot = same_Some slot d.slot (sym found ∙ ap (λ x. slice_get packages_alone.models x) same ∙ d.found) in
    subst (λ x. P d.model d.slot.meta x) (template_is_root n c m dom has t h)
    (subst (λ s. P d.model s.meta (bare n c m)) same_slot (subst (λ x. P x slot.meta (bare n c m)) same p))

abbrev uml : ModelSlot
uml = record { name = codes "uml"; meta = 0 }

abbrev rdb_slot : ModelSlot
rdb_slot = record { name = codes "rdb"; meta = 1 }

each_domain : (P : ℕ → ℕ → Tmpl → Type 0) → P 0 0 (bare 1 1 0) → P 1 1 (bare 2 1 0)
    → (dom : Dom) (d : IsModelDomain packages_alone package_to_schema dom) (t : Tmpl) → IsTemplateOf dom t → P d.model d.slot.meta t
each_domain P p q dom d t h =
    one_of_two (λ x. (d : IsModelDomain packages_alone package_to_schema x) (t : Tmpl) → IsTemplateOf x t → P d.model d.slot.meta t) first_dom second_dom
    (of_domain P 1 1 0 0 uml first_dom refl refl refl p) (of_domain P 2 1 0 1 rdb_slot second_dom refl refl refl q) dom d.is d t h

one_variable : (n c m : ℕ) → template_variables (bare n c m) ≡ n ∷ []
one_variable n c m =
    fold-roll-Tmpl (List ℕ) (List ℕ) (List ℕ) value_variables item_variables template_step (tree_of n c m)
    ∙ ap (λ vs. n ∷ (vs ++ []))
    (fold-roll-Item (List ℕ) (List ℕ) (List ℕ) value_variables item_variables template_step (record { prop = record { 0 = 0 }; value = (name_item m).value })
    ∙ fold-roll-ItemValue (List ℕ) (List ℕ) (List ℕ) value_variables item_variables template_step (layers.Expr (var m types.Str)))

both_variables : flat_map domain_variables package_to_schema.domains ≡ 1 ∷ 2 ∷ []
both_variables = ap (λ a. a ++ (template_variables (bare 2 1 0) ++ [])) (one_variable 1 1 0) ∙ ap (λ b. 1 ∷ (b ++ [])) (one_variable 2 1 0)

two_differ : AllPairs (λ (v w : ℕ). v ≢ w) (1 ∷ 2 ∷ [])
two_differ zero zero d before within = absurd (omega (arith, before))
two_differ zero (suc zero) d before within = λ e. absurd (omega (arith, e))
two_differ zero (suc (suc j)) d before within = absurd (omega (arith, within))
two_differ (suc i) j d before within = absurd (omega (arith, before, within))

domains : HasDomains packages_alone package_to_schema
unfolding is_primitive_mark
domains = record {
  shaped = one_of_two IsDomainShaped first_dom second_dom (shaped 1 1 0 0 Checkonly refl) (shaped 2 1 0 1 Enforce refl);
  models = two_models;
  declared = each_domain (IsDeclared package_to_schema) (declared_by 1 1 0 0 0 (codes "p") refl) (declared_by 2 1 0 1 1 (codes "s") refl);
  templates = subst (λ vs. AllPairs (λ v w. v ≢ w) vs) (sym both_variables) two_differ;
}

-- ---- variables

one_of_three : {X : Type 0} (P : X → Type 0) (a b c : X) → P a → P b → P c → (x : X) → Contains (a ∷ b ∷ c ∷ []) x → P x
one_of_three P a b c p q r x (zero, within, is) = subst P is p
one_of_three P a b c p q r x (suc zero, within, is) = subst P is q
one_of_three P a b c p q r x (suc (suc zero), within, is) = subst P is r
one_of_three P a b c p q r x (suc (suc (suc k)), within, is) = absurd (omega (arith, within))

class_meta : Ty → Option ℕ
class_meta (types.Class m c) = Some m
class_meta ty = None

text_in_model : (name : List ℕ) → IsInModel packages_alone (data_var name)
unfolding class_meta
text_in_model name = record {
  object = λ meta c is. absurd (none-some meta (ap class_meta is));
  data_value = λ none. refl;
}

object_in_model : (name : List ℕ) (model c : ℕ) (slot : ModelSlot) → slice_get packages_alone.models model ≡ Some slot → slot.meta ≡ model → IsInModel packages_alone (object_var name model c)
unfolding class_meta
object_in_model name model c slot found same = record {
  object = λ meta other is. (model, slot, refl, found, same ∙ same_Some model meta (ap class_meta is));
  data_value = λ none. absurd (none model (record { 0 = c }) refl);
}

not_universal : IsUniversal packages_alone package_to_schema 2 → ⊥
not_universal u = elim (universal_is 2 u) [ inl e ↦ absurd (omega (arith, e)) | inr e ↦ absurd (omega (arith, e)) ]

listed : (v : ℕ) → IsFirstTwo v → Contains package_to_schema.universal v
listed v (inl e) = (0, omega arith, sym e)
listed v (inr e) = (1, omega arith, sym e)

left_over : (v : ℕ) (x : Var) → slice_get package_to_schema.vars v ≡ Some x → ¬ IsUniversal packages_alone package_to_schema v → Contains package_to_schema.existential v
left_over zero x found none = absurd (none name_is_universal)
left_over (suc zero) x found none = absurd (none package_is_universal)
left_over (suc (suc zero)) x found none = (0, omega arith, refl)
left_over (suc (suc (suc v))) x found none = absurd (none-some x found)

bound : (v : ℕ) → IsDataVariable package_to_schema v → IsBound packages_alone package_to_schema v
bound zero data_variable = IsBound.source_item 0 first_dom name_is_universal first_is_source name_alone
bound (suc zero) data_variable = absurd (data_variable.data_type 0 (record { 0 = 1 }) (ap (λ x. x.ty) (sym (same_Some (object_var (codes "p") 0 1) data_variable.var data_variable.found))))
bound (suc (suc zero)) data_variable = absurd (data_variable.data_type 1 (record { 0 = 1 }) (ap (λ x. x.ty) (sym (same_Some (object_var (codes "s") 1 1) data_variable.var data_variable.found))))
bound (suc (suc (suc v))) data_variable = absurd (none-some data_variable.var data_variable.found)

in_order_two : AllPairs (λ (v w : ℕ). v < w) (0 ∷ 1 ∷ [])
in_order_two zero zero d before within = absurd (omega (arith, before))
in_order_two zero (suc zero) d before within = omega arith
in_order_two zero (suc (suc j)) d before within = absurd (omega (arith, within))
in_order_two (suc i) j d before within = absurd (omega (arith, before, within))

in_order_one : AllPairs (λ (v w : ℕ). v < w) (2 ∷ [])
in_order_one i j d before within = absurd (omega (arith, before, within))

variables : HasVariables packages_alone package_to_schema
variables = record {
  models = one_of_three (IsInModel packages_alone) (data_var (codes "pn")) (object_var (codes "p") 0 1) (object_var (codes "s") 1 1)
      (text_in_model (codes "pn")) (object_in_model (codes "p") 0 1 uml refl refl) (object_in_model (codes "s") 1 1 rdb_slot refl refl);
  universal = λ v x found. (λ c. one_of_two (IsUniversal packages_alone package_to_schema) 0 1 name_is_universal package_is_universal v c, λ u. listed v (universal_is v u));
  existential = λ v x found. (λ c. one_of_one (λ w. ¬ IsUniversal packages_alone package_to_schema w) 2 not_universal v c, λ none. left_over v x found none);
  universal_order = in_order_two;
  existential_order = in_order_one;
  bound = bound;
}

-- ---- equations, calls, direction and stratum

no_equations : (Sought : ℕ → Type 0) → HasEquations package_to_schema Sought []
no_equations Sought = record {
  are = λ place v e found. absurd (none-some (conjuncts.Equation v e) found);
  all = λ place v c e found says data_variable sought free. absurd (none-some (conjuncts.Cond c) found);
}

no_call_in : (number : ℕ) → CallsIn [] number → ⊥
no_call_in number c = nothing_in (conjuncts.Call number c.0) c.1

no_when : (number called : ℕ) (rel : Rel) → slice_get packages_alone.rels number ≡ Some rel → CallsIn rel.whens called → ⊥
no_when zero called rel found = subst (λ r. CallsIn r.whens called → ⊥) (same_Some package_to_schema rel found) (no_call_in called)
no_when (suc n) called rel found = absurd (none-some rel found)

no_where : (number called : ℕ) (rel : Rel) → slice_get packages_alone.rels number ≡ Some rel → CallsIn rel.wheres called → ⊥
no_where zero called rel found = subst (λ r. CallsIn r.wheres called → ⊥) (same_Some package_to_schema rel found) (no_call_in called)
no_where (suc n) called rel found = absurd (none-some rel found)

no_calls : (number count : ℕ) → IsCallPath packages_alone number count → count ≤ 0
no_calls _ _ (IsCallPath.end _) = omega arith
no_calls _ _ (IsCallPath.by_when number rel called count found calls path) = absurd (no_when number called rel found calls)
no_calls _ _ (IsCallPath.by_where number rel called count found calls path) = absurd (no_where number called rel found calls)

meant : IsMeant packages_alone 0 package_to_schema
meant = record {
  domains = domains;
  variables = variables;
  whens = no_equations (IsUniversal packages_alone package_to_schema);
  wheres = no_equations (λ v. ¬ IsUniversal packages_alone package_to_schema v);
  direction = (λ is. (second_dom, record { is = (1, omega arith, refl); target = refl }), λ target. refl);
  calls = λ is. record { whens = λ number called c. absurd (no_call_in number c); wheres = λ number called c. absurd (no_call_in number c) };
  stratum = record { reached = IsCallPath.end 0; greatest = no_calls 0 };
}

pub all_meant : AreMeant packages_alone
all_meant zero rel found = subst (IsMeant packages_alone 0) (same_Some package_to_schema rel found) meant
all_meant (suc n) rel found = absurd (none-some rel found)

-- ---- numbers

abbrev second_class : ClassId
second_class = record { 0 = 1 }

abbrev first_prop : PropId
first_prop = record { 0 = 0 }

-- each of the two metamodels has the class and its property
abbrev class_in_cls : IsClassIn metas 0 second_class
class_in_cls = record { meta = cls; found = refl; within = let l : 1 < 3 = omega arith in l }

abbrev class_in_rdb : IsClassIn metas 1 second_class
class_in_rdb = record { meta = rdb; found = refl; within = let l : 1 < 3 = omega arith in l }

in_range : (n meta : ℕ) (c : IsClassIn metas meta second_class) → n < 3 → Contains (props_of c.meta 1) 0 → IsTemplateInRange metas package_to_schema meta (bare n 1 0)
in_range n meta c few own = record {
  var = subst (λ x. x < 3) (sym (variable_of n 1 0)) few;
  class = record { meta = c.meta; found = c.found; within = subst (λ x. x.0 < length c.meta.classes) (sym (class_of n 1 0)) c.within };
  items = λ item has.
      subst (λ i. Contains (props_of c.meta (out-Tmpl (bare n 1 0)).class.0) i.prop.0) (only_item n 1 0 item has)
      (subst (λ x. Contains (props_of c.meta x.0) 0) (sym (class_of n 1 0)) own);
}

name_in_cls : Contains (props_of cls 1) 0
name_in_cls = (0, (let l : 0 < 2 = omega arith in l), refl)

name_in_rdb : Contains (props_of rdb 1) 0
name_in_rdb = (0, (let l : 0 < 2 = omega arith in l), refl)

variables_in_range : AreVariablesInRange metas packages_alone package_to_schema
variables_in_range = record {
  types = one_of_three (λ x. IsSingleType metas x.ty) (data_var (codes "pn")) (object_var (codes "p") 0 1) (object_var (codes "s") 1 1) tt class_in_cls class_in_rdb;
  models = λ x m has of_model.
      one_of_three (λ y. y.model ≡ Some m → m < 2) (data_var (codes "pn")) (object_var (codes "p") 0 1) (object_var (codes "s") 1 1)
      (λ e. absurd (none-some m e)) (λ e. let is = same_Some 0 m e in omega (arith, is)) (λ e. let is = same_Some 1 m e in omega (arith, is)) x has of_model;
  universal = one_of_two (λ (v : ℕ). v < 3) 0 1 (omega arith) (omega arith);
  existential = one_of_one (λ (v : ℕ). v < 3) 2 (omega arith);
}

relation_in_range : IsRelationInRange metas packages_alone package_to_schema
relation_in_range = record {
  vars = variables_in_range;
  roots = one_of_two (λ (d : Dom). d.root < 3) first_dom second_dom (omega arith) (omega arith);
  models = λ dom m has of_model.
      one_of_two (λ (d : Dom). d.model ≡ Some m → m < 2) first_dom second_dom (λ e. let is = same_Some 0 m e in omega (arith, is)) (λ e. let is = same_Some 1 m e in omega (arith, is)) dom has of_model;
  templates = each_domain (λ model meta x. IsTemplateInRange metas package_to_schema meta x) (in_range 1 0 class_in_cls (omega arith) name_in_cls) (in_range 2 1 class_in_rdb (omega arith) name_in_rdb);
  when_calls = λ number c. absurd (no_call_in number c);
  where_calls = λ number c. absurd (no_call_in number c);
}

numbers : HasNumbersInRange metas packages_alone
numbers = record {
  slots = one_of_two (λ (s : ModelSlot). s.meta < 2) uml rdb_slot (omega arith) (omega arith);
  target = omega arith;
  keys = one_of_one (λ (k : Key). IsClassIn metas k.meta k.class) (record { meta = 1; class = second_class; props = first_prop ∷ [] }) class_in_rdb;
  relations = one_of_one (IsRelationInRange metas packages_alone) package_to_schema relation_in_range;
}

-- ---- types

name_of_cls : HasProperty metas (types.Class 0 second_class) first_prop values.Single types.Str
name_of_cls = record { m = 0; class = second_class; is = refl; has = class_in_cls; own = name_in_cls; of = props.Str; typed = refl; value = refl; many = refl }

name_of_rdb : HasProperty metas (types.Class 1 second_class) first_prop values.Single types.Str
name_of_rdb = record { m = 1; class = second_class; is = refl; has = class_in_rdb; own = name_in_rdb; of = props.Str; typed = refl; value = refl; many = refl }

abbrev name_typing : Typing
name_typing = record { ty = types.Str; model = None }

name_given : (model : ℕ) → IsGiven metas packages_alone package_to_schema (record { ty = types.Str; model = Some model }) (record { ty = types.Str; node = nodes.Variable 0 })
name_given model = record {
  typing = name_typing;
  typed = IsTyped.variable (variables_of package_to_schema) 0 name_typing refl;
  fits = record { related = inl (inl refl); model = inl refl };
}

name_typed : (n model meta : ℕ) → HasProperty metas (types.Class meta second_class) first_prop values.Single types.Str
    → (item : Item) → HasItem (bare n 1 0) item → IsItemTyped metas packages_alone package_to_schema model meta (bare n 1 0) item
name_typed n model meta h item has =
    subst (λ i. IsItemTyped metas packages_alone package_to_schema model meta (bare n 1 0) i) (only_item n 1 0 item has) (record {
      gives = values.Single;
      of = types.Str;
      property = subst (λ x. HasProperty metas (types.Class meta x) first_prop values.Single types.Str) (sym (class_of n 1 0)) h;
      value = IsItemOfType.expression (record { ty = types.Str; node = nodes.Variable 0 }) name_written (name_given model);
    })

typed : HasTypedExpressions metas packages_alone
typed = record {
  queries = λ q has. absurd (nothing_in q has);
  relations = one_of_one (IsRelationTyped metas packages_alone) package_to_schema (record {
    whens = λ c has. absurd (nothing_in c has);
    wheres = λ c has. absurd (nothing_in c has);
    items = λ dom d t item h has.
        each_domain (λ model meta x. (i : Item) → HasItem x i → IsItemTyped metas packages_alone package_to_schema model meta x i)
        (name_typed 1 0 0 name_of_cls) (name_typed 2 1 1 name_of_rdb) dom d t h item has;
  });
}

-- ---- queries and keys

no_query : (a b : ℕ) → Reaches [] a b → ⊥
no_query a b (Reaches.call _ _ c) = none-some c.query c.found
no_query a b (Reaches.more _ m _ c r) = none-some c.query c.found

keys : AreKeys metas packages_alone
keys = record {
  keys = one_of_one (IsKey metas) (record { meta = 1; class = second_class; props = first_prop ∷ [] }) (record {
    class = class_in_rdb;
    some = λ e. let empty : 1 ≡ 0 = ap length e in omega (arith, empty);
    own = one_of_one (λ (p : PropId). Contains (props_of rdb 1) p.0) first_prop name_in_rdb;
    once = λ i j d before within. absurd (omega (arith, before, within));
  });
  classes = λ i j d before within. absurd (omega (arith, before, within));
}

pub small_program_is_well_formed : IsWellFormed metas packages_alone
small_program_is_well_formed = record { numbers = numbers; typed = typed; queries = λ q r. no_query q q r; relations = all_meant; keys = keys }
