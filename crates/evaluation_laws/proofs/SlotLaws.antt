-- A value that an item demands goes into its slot, and the value of an equation is one that its variable may have (QVT 1.3, sections 7.2.3
-- and 7.11.2).
use Rattle.std.proofs.Common.{◌≡◌, ◌<◌, ◌==◌, ◌&&◌, ℕ, zero, suc, Bool, true, false, List, [], ◌∷◌, map, length, Option, None, Some, refl, sym, ap, ◌∙◌, subst, inl, inr, eq-eqb}
use Rattle.std.specs.Prelude.{◌≢◌, slice_get, Contains, IsTrue, nat_lt}
use Rattle.std.specs.Option.{option_map}
use Rattle.std.proofs.lemmas.Bool.{lt-ltb}
use Rattle.std.proofs.lemmas.Option.{none-some, same_Some, slice_get-map}
use Rattle.mof_metamodel.specs.declared.desc.MetaDesc.{MetaDesc}
use Rattle.mof_metamodel.specs.declared.desc.ClassId.{ClassId}
use Rattle.mof_metamodel.specs.declared.desc.PropType.{PropType}
use Rattle.mof_metamodel.specs.declared.desc.PropType.TheVariants as props
use Rattle.mof_metamodel.specs.Metamodels.{type_of, enum_at}
use Rattle.object_tables.specs.declared.value.Value.{Value}
use Rattle.object_tables.specs.declared.value.Value.TheVariants as values
use Rattle.object_tables.specs.Models.{ModelData, is_value_of}
use Rattle.qv_syntax.specs.declared.type_tree.Kind.{Kind}
use Rattle.qv_syntax.specs.declared.ty.Ty.{Ty}
use Rattle.qv_syntax.specs.declared.ty.Ty.TheVariants as types
use Rattle.qv_syntax.specs.declared.typed.Typed.{Typed}
use Rattle.qv_syntax.specs.declared.program.Program.{Program}
use Rattle.qv_syntax.specs.declared.program.Rel.{Rel}
use Rattle.qv_syntax.specs.declared.program.Var.{Var}
use Rattle.qv_syntax.specs.declared.program.Dom.{Dom}
use Rattle.qv_syntax.specs.declared.program.Tmpl.{Tmpl}
use Rattle.qv_syntax.specs.declared.program.Item.{Item}
use Rattle.qv_syntax.specs.declared.program.ItemValue.{ItemValue, out-ItemValue, out-roll-ItemValue}
use Rattle.qv_syntax.specs.declared.program.ItemValue.TheOpen as layers
use Rattle.qv_syntax.specs.declared.program.ItemValue.TheVariants as items
use Rattle.qv_syntax.specs.declared.program.Conj.TheVariants as conjuncts
use Rattle.qv_syntax.specs.Types.{IsSingleType, AreRelated}
use Rattle.qv_syntax.specs.TypeRules.{AreComparable, value_type}
use Rattle.qv_syntax.specs.TypedTrees.{Typing, IsTyped}
use Rattle.qv_syntax.specs.Parts.{Names, HasItem}
use Rattle.qv_syntax.specs.Relations.{IsModelDomain, IsTemplateOf, IsDataVariable}
use Rattle.qv_syntax.specs.ProgramTypes.{context_of, typing_of, variables_of, IsGiven, IsItemOfType, IsEquationTyped}
use Rattle.qv_syntax.specs.WellFormed.{IsWellFormed}
use Rattle.qvtr_semantics.specs.declared.datum.Datum.{Datum}
use Rattle.qvtr_semantics.specs.declared.datum.Datum.TheVariants.{Val}
use Rattle.qvtr_semantics.specs.Outs.{datum_of, value_of_datum}
use Rattle.qvtr_semantics.specs.Objects.{Setting, value_datum}
use Rattle.qvtr_semantics.specs.Expressions.{variable, setting, bound_value, scope_of, value, Scope}
use Rattle.qvtr_semantics.specs.Templates.{Values, value_at}
use Rattle.qvtr_semantics.specs.Bindings.{is_value_for}
use Rattle.evaluation_laws.specs.TypedValues.{AreModels, IsDatumIn, IsDatumOf, IsValueIn, anywhere}
use Rattle.evaluation_laws.specs.Literals.{HasStorableLiterals, IsExpressionOf, HasStorableTexts}
use Rattle.evaluation_laws.specs.Scopes.{HasValuesIn, AreValued, of_its_model, HasValuesOfTypes, HasValuesOfTypings}
use Rattle.evaluation_laws.specs.Held.{IsHeld, IsAllowed}
use Rattle.evaluation_laws.proofs.ValueLaws.{datum_in, datum_elsewhere}
use Rattle.evaluation_laws.proofs.ProgramLaws.{types_kept}
use Rattle.mof_metamodel.proofs.Facts.{contains_at}

-- ---- bindings as scopes

pub variable_value : (b : Values) (n : ℕ) → bound_value (value_at b n) ≡ variable (scope_of b) n
variable_value [] n = refl
variable_value (o ∷ os) zero = refl
variable_value (o ∷ os) (suc n) = variable_value os n

mapped_length : {X Y : Type 0} (f : X → Y) (xs : List X) → length (map f xs) ≡ length xs
mapped_length f [] = refl
mapped_length f (x ∷ xs) = ap suc (mapped_length f xs)

-- ---- values of data types

abbrev pub IsNoClass : Ty → Type 0
IsNoClass ty = (m : ℕ) (class : ClassId) → ty ≢ types.Class m class

pub data_anywhere : (metas : List MetaDesc) (s : Setting) (In To : ℕ → Type 0) (ty : Ty) → IsNoClass ty → (d : Datum) → IsDatumIn metas s In ty d → IsDatumIn metas s To ty d
data_anywhere metas s In To types.Str none d is = is
data_anywhere metas s In To types.Int none d is = is
data_anywhere metas s In To types.Bool none d is = is
data_anywhere metas s In To (types.Enum m e) none d is = is
data_anywhere metas s In To (types.Class m class) none d is = absurd (none m class refl)
data_anywhere metas s In To ty none d is = absurd is

-- one of two related types that is no class is the other
pub one_type : (metas : List MetaDesc) (a b : Ty) → IsNoClass a → AreRelated metas a b → a ≡ b
one_type metas a b none (inl (inl same)) = same
one_type metas a b none (inl (inr sub)) = absurd (none sub.m sub.class sub.first)
one_type metas a b none (inr (inl same)) = sym same
one_type metas a b none (inr (inr sub)) = absurd (none sub.m sub.super sub.second)

-- a value of a data type is of none that is a class
val_no_class : (metas : List MetaDesc) (s : Setting) (In : ℕ → Type 0) (ty : Ty) (m : ℕ) (v : Value) → IsDatumIn metas s In ty (Val m v) → IsNoClass ty
val_no_class metas s In ty m v is k class same =
    let (model, object, one, there, here) = subst (λ t. IsDatumIn metas s In t (Val m v)) same is in
    none-some v (sym (ap value_of_datum one))

same_val : (m k : ℕ) (v w : Value) → Val m v ≡ Val k w → v ≡ w
same_val m k v w same = same_Some v w (ap value_of_datum same)

-- ---- what a slot can hold

held_by_type : (metas : List MetaDesc) (s : Setting) (m : ℕ) (meta : MetaDesc) (t : PropType) → slice_get metas m ≡ Some meta → (k : ℕ) (v : Value)
    → IsDatumOf metas s (value_type m t) (Val k v) → IsTrue (is_value_of meta (Some t) v) × (Val k v ≡ value_datum m v)
held_by_type metas s m meta props.Str found k v (text, is, storable) =
    let same : v ≡ values.Str text = same_val k 0 v (values.Str text) is in
    (subst (λ w. IsTrue (is_value_of meta (Some props.Str) w)) (sym same) storable, is ∙ ap (value_datum m) (sym same))
held_by_type metas s m meta props.Int found k v (i, is) =
    let same : v ≡ values.Int i = same_val k 0 v (values.Int i) is in
    (subst (λ w. IsTrue (is_value_of meta (Some props.Int) w)) (sym same) refl, is ∙ ap (value_datum m) (sym same))
held_by_type metas s m meta props.Bool found k v (b, is) =
    let same : v ≡ values.Bool b = same_val k 0 v (values.Bool b) is in
    (subst (λ w. IsTrue (is_value_of meta (Some props.Bool) w)) (sym same) refl, is ∙ ap (value_datum m) (sym same))
held_by_type metas s m meta (props.Enum e) found k v (literal, is, there) =
    let same : v ≡ values.Lit e literal = same_val k m v (values.Lit e literal) is in
    let one : there.has.meta ≡ meta = same_Some there.has.meta meta (sym there.has.found ∙ found) in
    let below : literal < length (enum_at meta e.0).literals = subst (λ (desc : MetaDesc). literal < length (enum_at desc e.0).literals) one there.within in
    let holds : IsTrue (is_value_of meta (Some (props.Enum e)) (values.Lit e literal)) =
    both_true (e.0 == e.0) (nat_lt literal (length (enum_at meta e.0).literals)) (eq-eqb e.0 e.0 refl) (lt-ltb literal (length (enum_at meta e.0).literals) below) in
    (subst (λ w. IsTrue (is_value_of meta (Some (props.Enum e)) w)) (sym same) holds, is ∙ ap (value_datum m) (sym same))
  where
    both_true : (a b : Bool) → a ≡ true → b ≡ true → (a && b) ≡ true
    both_true true b one other = other
    both_true false b one other = one
held_by_type metas s m meta (props.Class c) found k v (model, object, is, there, here) = absurd (none-some v (sym (ap value_of_datum is)))

abbrev class_meta : Ty → ℕ
class_meta (types.Class m class) = m
class_meta ty = 0

-- the expression of an item
abbrev pub expression_in : layers.ItemValue-F ItemValue Item Tmpl → Option Typed
expression_in layers.Null = None
expression_in (layers.Expr e) = Some e
expression_in (layers.Nested t) = None

abbrev pub expression_of : ItemValue → Option Typed
expression_of value = expression_in (out-ItemValue value)

pub at_null : expression_of items.Null ≡ None
at_null = ap expression_in (ap out-ItemValue (sym items.rolls-Null) ∙ out-roll-ItemValue layers.Null)

pub at_expression : (e : Typed) → expression_of (items.Expr e) ≡ Some e
at_expression e = ap expression_in (ap out-ItemValue (sym (items.rolls-Expr e)) ∙ out-roll-ItemValue (layers.Expr e))

pub at_nested : (t : Tmpl) → expression_of (items.Nested t) ≡ None
at_nested t = ap expression_in (ap out-ItemValue (sym (items.rolls-Nested t)) ∙ out-roll-ItemValue (layers.Nested t))

module _ (metas : List MetaDesc) (s : Setting) where
  -- the values of a relation's variables as a scope
  pub relation_scope : (In : Option ℕ → ℕ → Type 0) → ((model : Option ℕ) (k : ℕ) → of_its_model model k → In model k) → (rel : Rel) (e : Typed) (b : Values)
      → AreValued metas s rel e b → HasValuesIn metas s In e (variables_of rel) (scope_of b)
  relation_scope In to rel e b valued = record {
    places = mapped_length bound_value b ∙ valued.places ∙ sym (mapped_length typing_of rel.vars);
    values = λ n v at names. subst (IsValueIn metas s (In v.model) v.ty) (variable_value b n)
        (by_variable n v names (slice_get rel.vars n) refl (sym (slice_get-map typing_of rel.vars n) ∙ at) (value_at b n) refl);
  }
    where
      by_variable : (n : ℕ) (v : Typing) → Names e n → (o : Option Var) → slice_get rel.vars n ≡ o → option_map typing_of o ≡ Some v → (x : Option Datum) → value_at b n ≡ x
          → IsValueIn metas s (In v.model) v.ty (bound_value x)
      by_variable n v names None found at x is = absurd (none-some v at)
      by_variable n v names (Some var) found at None is = tt
      by_variable n v names (Some var) found at (Some d) is =
          subst (λ (t : Typing). IsDatumIn metas s (In t.model) t.ty d) (same_Some (typing_of var) v at)
          (datum_elsewhere metas s (of_its_model var.model) (In var.model) (to var.model) var.ty d (valued.values n names var d found is))

  -- a binding's values as a scope
  pub bound_types : (rel : Rel) (e : Typed) (b : Values) → AreValued metas s rel e b → HasValuesOfTypes metas s e (variables_of rel) (scope_of b)
  bound_types rel e b valued = relation_scope (λ model. anywhere) (λ model k is. tt) rel e b valued

  pub bound_typings : (rel : Rel) (e : Typed) (b : Values) → AreValued metas s rel e b → HasValuesOfTypings metas s e (variables_of rel) (scope_of b)
  bound_typings rel e b valued = relation_scope of_its_model (λ model k is. is) rel e b valued

module _ (metas : List MetaDesc) (program : Program) (contents : List ModelData) (models : AreModels metas (setting program contents))
    (well : IsWellFormed metas program) (literals : HasStorableTexts program) where
  abbrev s : Setting
  s = setting program contents

  -- the datum of an expression of a relation is of the expression's type
  pub datum_kept : (rel : Rel) (e : Typed) (t : Typing) (scope : Scope) → HasStorableLiterals e → HasValuesOfTypes metas s e (variables_of rel) scope → IsTyped (context_of metas program) (variables_of rel) e t
      → (d : Datum) → datum_of (value program contents e scope) ≡ Some d → IsDatumOf metas s t.ty d
  datum_kept rel e t scope stored valued typed d has =
      datum_in metas s anywhere t.ty (value program contents e scope)
      (types_kept metas program contents models well.typed.queries literals (variables_of rel) e t scope stored valued typed) d has

  -- ---- items

  given_fits : (rel : Rel) (e : Typed) (scope : Scope) (wanted : Typing) → HasStorableLiterals e → HasValuesOfTypes metas s e (variables_of rel) scope → IsGiven metas program rel wanted e
      → (k : ℕ) (v : Value) → datum_of (value program contents e scope) ≡ Some (Val k v) → IsDatumOf metas s wanted.ty (Val k v)
  given_fits rel e scope wanted stored valued given k v has =
      let is = datum_kept rel e given.typing scope stored valued given.typed (Val k v) has in
      subst (λ ty. IsDatumOf metas s ty (Val k v)) (one_type metas given.typing.ty wanted.ty (val_no_class metas s anywhere given.typing.ty k v is) given.fits.related) is

  item_fits : (rel : Rel) (e : Typed) (scope : Scope) (model meta : ℕ) (ty : Ty) (item : Item) → HasStorableLiterals e → HasValuesOfTypes metas s e (variables_of rel) scope → item.value ≡ items.Expr e
      → IsItemOfType metas program rel model meta ty item → (k : ℕ) (v : Value) → datum_of (value program contents e scope) ≡ Some (Val k v) → IsDatumOf metas s ty (Val k v)
  item_fits rel e scope model meta ty item stored valued is (IsItemOfType.empty none) k v has =
      absurd (none-some e (sym at_null ∙ ap expression_of (sym none ∙ is) ∙ at_expression e))
  item_fits rel e scope model meta ty item stored valued is (IsItemOfType.expression f same given) k v has =
      let one : f ≡ e = same_Some f e (sym (at_expression f) ∙ ap expression_of (sym same ∙ is) ∙ at_expression e) in
      given_fits rel e scope (record { ty = ty; model = Some model }) stored valued (subst (IsGiven metas program rel (record { ty = ty; model = Some model })) one given) k v has
  item_fits rel e scope model meta ty item stored valued is (IsItemOfType.nested part same related) k v has =
      absurd (none-some e (sym (at_nested part) ∙ ap expression_of (sym same ∙ is) ∙ at_expression e))

  -- what an item demands goes into its slot
  pub demanded_fits : (rel : Rel) → Contains program.rels rel → (dom : Dom) (d : IsModelDomain program rel dom) (t : Tmpl) → IsTemplateOf dom t → (item : Item) → HasItem t item
      → (e : Typed) → item.value ≡ items.Expr e → (scope : Scope) → HasValuesOfTypes metas s e (variables_of rel) scope
      → (model : ModelData) → slice_get contents d.model ≡ Some model → (k : ℕ) (v : Value) → datum_of (value program contents e scope) ≡ Some (Val k v)
      → IsHeld model.meta item.prop.0 d.slot.meta k v
  demanded_fits rel among dom d t of_dom item has_item e is scope valued model found k v has =
      let expression = IsExpressionOf.of_item dom d.is (record { item = item; of = record { template = t; of = of_dom; has = has_item }; is = is }) in
      let stored = literals.relations rel e among expression in
      let typed = (well.typed.relations rel among).items dom d t item of_dom has_item in
      let p = typed.property in
      let of_item = item_fits rel e scope d.model d.slot.meta typed.of item stored valued is typed.value k v has in
      let described = (models d.model d.slot model d.found found).described in
      let one : d.slot.meta ≡ p.m = ap class_meta p.is in
      let same : p.has.meta ≡ model.meta = same_Some p.has.meta model.meta (sym p.has.found ∙ ap (slice_get metas) (sym one) ∙ described) in
      let held = held_by_type metas s p.m p.has.meta p.of p.has.found k v (subst (λ ty. IsDatumOf metas s ty (Val k v)) p.value of_item) in
      record {
        fits = subst (λ (meta : MetaDesc). IsTrue (is_value_of meta (type_of meta item.prop.0) v)) same (subst (λ ty. IsTrue (is_value_of p.has.meta ty v)) (sym p.typed) held.0);
        read = held.1 ∙ ap (λ m. value_datum m v) (sym one);
      }

  -- ---- equations

  single_not_null : (ty : Ty) → IsSingleType metas ty → ty ≡ types.Null → ⊥
  single_not_null ty single is = subst (IsSingleType metas) is single

  single_no_collection : (ty : Ty) (kind : Kind) (inner : Ty) → IsSingleType metas ty → ty ≡ types.Coll kind inner → ⊥
  single_no_collection ty kind inner single is = subst (IsSingleType metas) is single

  pub compared_is : (ty given : Ty) → IsSingleType metas ty → IsNoClass ty → AreComparable metas ty given → (d : Datum) → IsDatumOf metas s given d → IsDatumOf metas s ty d
  compared_is ty given single none (inl null) d is = absurd (single_not_null ty single null)
  compared_is ty given single none (inr (inl null)) d is = absurd (subst (λ u. IsDatumOf metas s u d) null is)
  compared_is ty given single none (inr (inr (inl related))) d is = subst (λ u. IsDatumOf metas s u d) (sym (one_type metas ty given none related)) is
  compared_is ty given single none (inr (inr (inr alike))) d is = absurd (single_no_collection ty alike.kind alike.one single alike.first)

  allowed : (ty : Ty) (name : List ℕ) (model : Option ℕ) → IsNoClass ty → (d : Datum) → IsDatumOf metas s ty d → is_value_for s (Some (record { name = name; ty = ty; model = model })) (Some d) ≡ true
  allowed types.Str name model none d (text, is, storable) = ap (λ e. is_value_for s (Some (record { name = name; ty = types.Str; model = model })) (Some e)) is
  allowed types.Int name model none d (i, is) = ap (λ e. is_value_for s (Some (record { name = name; ty = types.Int; model = model })) (Some e)) is
  allowed types.Bool name model none d (b, is) = ap (λ e. is_value_for s (Some (record { name = name; ty = types.Bool; model = model })) (Some e)) is
  allowed (types.Enum m e) name model none d (literal, is, there) =
      ap (λ x. is_value_for s (Some (record { name = name; ty = types.Enum m e; model = model })) (Some x)) is
      ∙ both_equal (m == m) (e.0 == e.0) (eq-eqb m m refl) (eq-eqb e.0 e.0 refl)
    where
      both_equal : (a b : Bool) → a ≡ true → b ≡ true → (a && b) ≡ true
      both_equal true b one other = other
      both_equal false b one other = one
  allowed (types.Class m class) name model none d is = absurd (none m class refl)
  allowed ty name model none d is = absurd is

  pub equation_by : (number : ℕ) (rel : Rel) → slice_get program.rels number ≡ Some rel → (v : ℕ) (e : Typed) → IsDataVariable rel v → IsEquationTyped metas program rel v e
      → HasStorableLiterals e → (scope : Scope) → HasValuesOfTypes metas s e (variables_of rel) scope → (var : Var) → slice_get rel.vars v ≡ Some var → (d : Datum) → datum_of (value program contents e scope) ≡ Some d
      → IsAllowed metas s var d
  equation_by number rel at v e is_data typed stored scope valued var found d has =
      let one : typed.var ≡ var = same_Some typed.var var (sym typed.found ∙ found) in
      let other : is_data.var ≡ var = same_Some is_data.var var (sym is_data.found ∙ found) in
      let none : IsNoClass var.ty = λ m class same. is_data.data_type m class (ap (λ (x : Var). x.ty) other ∙ same) in
      let single : IsSingleType metas var.ty = (well.numbers.relations rel (contains_at program.rels number rel at)).vars.types var (contains_at rel.vars v var found) in
      let compared : AreComparable metas var.ty typed.typing.ty = subst (λ (x : Var). AreComparable metas x.ty typed.typing.ty) one typed.compared in
      let is = compared_is var.ty typed.typing.ty single none compared d (datum_kept rel e typed.typing scope stored valued typed.typed d has) in
      record { allowed = allowed var.ty var.name var.model none d is; typed = data_anywhere metas s anywhere (of_its_model var.model) var.ty none d is }

  -- the value of an equation of a when clause, and of one of a where clause
  pub when_value : (number : ℕ) (rel : Rel) → slice_get program.rels number ≡ Some rel → (place v : ℕ) (e : Typed) → slice_get rel.whens place ≡ Some (conjuncts.Equation v e)
      → (scope : Scope) → HasValuesOfTypes metas s e (variables_of rel) scope → (var : Var) → slice_get rel.vars v ≡ Some var → (d : Datum) → datum_of (value program contents e scope) ≡ Some d
      → IsAllowed metas s var d
  when_value number rel at place v e there scope valued var found d has =
      equation_by number rel at v e ((well.relations number rel at).whens.are place v e there).0
      ((well.typed.relations rel (contains_at program.rels number rel at)).whens (conjuncts.Equation v e) (contains_at rel.whens place (conjuncts.Equation v e) there))
      (literals.relations rel e (contains_at program.rels number rel at) (IsExpressionOf.of_when (conjuncts.Equation v e) (contains_at rel.whens place (conjuncts.Equation v e) there) refl)) scope valued var found d has

  pub where_value : (number : ℕ) (rel : Rel) → slice_get program.rels number ≡ Some rel → (place v : ℕ) (e : Typed) → slice_get rel.wheres place ≡ Some (conjuncts.Equation v e)
      → (scope : Scope) → HasValuesOfTypes metas s e (variables_of rel) scope → (var : Var) → slice_get rel.vars v ≡ Some var → (d : Datum) → datum_of (value program contents e scope) ≡ Some d
      → IsAllowed metas s var d
  where_value number rel at place v e there scope valued var found d has =
      equation_by number rel at v e ((well.relations number rel at).wheres.are place v e there).0
      ((well.typed.relations rel (contains_at program.rels number rel at)).wheres (conjuncts.Equation v e) (contains_at rel.wheres place (conjuncts.Equation v e) there))
      (literals.relations rel e (contains_at program.rels number rel at) (IsExpressionOf.of_where (conjuncts.Equation v e) (contains_at rel.wheres place (conjuncts.Equation v e) there) refl)) scope valued var found d has
