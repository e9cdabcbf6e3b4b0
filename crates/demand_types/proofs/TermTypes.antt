-- A demanded term is of a class that conforms to the type of the property: by the rule on settled items its variable's class does, and the term's
-- class is a kind of it.
use Rattle.std.specs.Prelude.{◌≡◌, ℕ, true, List, Option, None, Some, slice_get}
use Rattle.std.specs.Option.{option_and_then}
use Rattle.std.proofs.Common.{refl, ap, sym, ◌∙◌, subst, true≢false}
use Rattle.std.proofs.lemmas.Option.{none-some, same_Some}
use Rattle.mof_metamodel.specs.declared.desc.MetaDesc.{MetaDesc}
use Rattle.mof_metamodel.specs.declared.desc.ClassId.{ClassId}
use Rattle.mof_metamodel.specs.declared.desc.PropType.{PropType}
use Rattle.mof_metamodel.specs.declared.desc.PropType.TheVariants as props
use Rattle.mof_metamodel.specs.Metamodels.{Conforms, lineage_of, type_of}
use Rattle.object_tables.specs.Models.{ModelData, is_class_type, ConformsTo}
use Rattle.ocl_environments.specs.Conformance.{ConformsBy, TypeConforms}
use Rattle.ocl_environments.specs.Environments.{meta_at, class_of}
use Rattle.ocl_environments.specs.Navigation.{value_type}
use Rattle.qv_syntax.specs.declared.ty.Ty.{Ty}
use Rattle.qv_syntax.specs.declared.ty.Ty.TheVariants as types
use Rattle.qv_syntax.specs.declared.typed.Typed.{Typed}
use Rattle.qv_syntax.specs.declared.typed.Node.TheVariants as nodes
use Rattle.qv_syntax.specs.declared.program.Program.{Program}
use Rattle.qv_syntax.specs.declared.program.Rel.{Rel}
use Rattle.qv_syntax.specs.declared.program.Var.{Var}
use Rattle.qv_syntax.specs.declared.program.Tmpl.{out-Tmpl}
use Rattle.qv_syntax.specs.declared.program.ItemValue.TheVariants as items
use Rattle.qv_syntax.specs.TypedTrees.{Typing, IsTyped}
use Rattle.qv_syntax.specs.ProgramTypes.{context_of, typing_of, variables_of, IsItemOfType}
use Rattle.qvtr_semantics.specs.Objects.{is_kind_of}
use Rattle.qvtr_semantics.specs.Expressions.{setting}
use Rattle.evaluation_laws.specs.Evaluable.{IsEvaluable}
use Rattle.evaluation_laws.specs.Scopes.{HasValuesOfTypes}
use Rattle.evaluation_laws.proofs.NavigationLaws.{among}
use Rattle.evaluation_laws.proofs.SlotLaws.{expression_of, at_null, at_expression, at_nested}
use Rattle.enforcement_rules.specs.TargetParts.{target_meta, target_desc}
use Rattle.enforcement_rules.specs.Patterns.{FitsProperty, IsSettledItem}
use Rattle.enforcement_rules.specs.Rules.{IsEnforceable}
use Rattle.enforcement_rules.proofs.ClassLaws.{class_of_class}
use Rattle.enforcement_rules.proofs.ExpressionLaws.{alone_is, is_alone}
use Rattle.source_laws.proofs.RuleLaws.{mapped}
use Rattle.source_laws.proofs.TypingLaws.{variable_typing}
use Rattle.repair_semantics.specs.declared.term.Term.{Term, out-Term}
use Rattle.repair_semantics.specs.declared.demand.Demand.{Demand}
use Rattle.repair_semantics.specs.declared.entry.Entry.{Entry}
use Rattle.repair_semantics.specs.Terms.{term_in}
use Rattle.repair_semantics.specs.EntryValues.{value_of, Known}
use Rattle.repair_semantics.specs.TargetItems.{Content, variable_of, class_in, class_of_variable}
use Rattle.repair_semantics.specs.Making.{entry_scope, content_value, entry_known}
use Rattle.repair_semantics.specs.Entries.{IsEntry}
use Rattle.repair_semantics.proofs.ItemLaws.{content_of}
use Rattle.reading_laws.proofs.MeetingPlaces.{joined}
use Rattle.reading_laws.proofs.PartnerValues.{stable}
use Rattle.repair_laws.proofs.ItemParts.{IsOfTargetDomain, content_nested, expression_value, template_value}
use Rattle.repair_laws.proofs.ManagedLaws.{lineage_conforms, declared_class}
use Rattle.repair_laws.proofs.CallTerms.{alone_agrees}
use Rattle.repair_laws.proofs.EntryTerms.{term_alone}
use Rattle.repair_laws.proofs.EntryGood.{IsGoodEntry}
use Rattle.repair_laws.proofs.EntryDemanded.{IsAskedBy}
use Rattle.repair_laws.proofs.TargetVariables.{keyed_within, kind_up}
use Rattle.repair_laws.proofs.DatumTypes.{typed_type}
use Rattle.repair_laws.proofs.GoingLaws as going

module _ (metas : List MetaDesc) (program : Program) (sources : List ModelData)
    (evaluable : IsEvaluable metas program sources) (enforceable : IsEnforceable metas program)
    (m before : ModelData) (meta_is : before.meta ≡ m.meta) (desc : target_desc metas program ≡ m.meta)
    (target_found : slice_get sources program.target ≡ Some before)
    (demands : List Demand) (d : Demand) (entries : List Entry) (a : IsAskedBy program sources entries d)
    (entry : IsEntry program sources a.e) (good : IsGoodEntry program sources m.meta demands a.e a.rel)
    (scopes : (e : Typed) → HasValuesOfTypes metas (setting program sources) e (variables_of a.rel)
    (entry_scope program sources a.rel a.e.values)) where
  abbrev rel : Rel
  rel = a.rel

  abbrev k : Known
  k = entry_known program sources a.rel a.e.values

  abbrev p : IsOfTargetDomain program rel a.item
  p = going.p metas program sources evaluable enforceable m before meta_is desc target_found demands d entries a entry good scopes

  abbrev settled_item : ¬ (¬ IsSettledItem metas program rel p.listed.item)
  settled_item = going.settled_item metas program sources evaluable enforceable m before meta_is desc target_found
      demands d entries a entry good scopes

  -- a variable that has a term is one of a class
  abbrev object_class : (w : ℕ) (t : Term) → value_of k.values w ≡ Some d.value → term_in d.value ≡ Some t
      → (var : Var) × (slice_get rel.vars w ≡ Some var) × ((n : ℕ) × (class : ClassId) × (var.ty ≡ types.Class n class))
  object_class w t =
      going.target_class metas program sources evaluable enforceable m before meta_is desc target_found
      demands d entries a entry good scopes w d.value t

  -- ---- the type of a variable that an item is

  abbrev alone : Ty → ℕ → Typed
  alone ty w = record { ty = ty; node = nodes.Variable w }

  abbrev HasType : Ty → ℕ → Type 0
  HasType ty w = (var : Var) × (slice_get rel.vars w ≡ Some var) × (var.ty ≡ ty)

  variable_type : (ty : Ty) (w : ℕ) → p.listed.item.value ≡ items.Expr (alone ty w) → HasType ty w
  variable_type ty w own =
      let typed = going.typed metas program sources evaluable enforceable m before meta_is desc target_found demands d entries a entry good scopes in
      by _ _ _ typed.value
    where
      by : (model meta : ℕ) (of : Ty) → IsItemOfType metas program rel model meta of p.listed.item → HasType ty w
      by model meta of (IsItemOfType.empty none) =
          absurd (none-some (alone ty w) (sym at_null ∙ ap expression_of (sym none ∙ own) ∙ at_expression (alone ty w)))
      by model meta of (IsItemOfType.nested part same related) =
          absurd (none-some (alone ty w) (sym (at_nested part) ∙ ap expression_of (sym same ∙ own) ∙ at_expression (alone ty w)))
      by model meta of (IsItemOfType.expression f same given) =
          let one : f ≡ alone ty w =
          same_Some f (alone ty w) (sym (at_expression f) ∙ ap expression_of (sym same ∙ own) ∙ at_expression (alone ty w)) in
          let context = context_of metas program in
          let typed = subst (λ x. IsTyped context (variables_of rel) x given.typing) one given.typed in
          let (var, found, is) = mapped typing_of rel.vars w given.typing (variable_typing context (variables_of rel) ty w given.typing typed) in
          (var, found, ap (λ (x : Typing). x.ty) is ∙ typed_type context (variables_of rel) (alone ty w) given.typing typed)

  -- ---- classes that fit the property

  module _ (t : Term) (is : term_in d.value ≡ Some t) (c : ClassId) (of_class : type_of m.meta p.listed.item.prop.0 ≡ Some (props.Class c)) where
    abbrev Fits : ℕ → ClassId → Type 0
    Fits meta class = FitsProperty metas (target_meta program) p.listed.item.prop (types.Class meta class)

    abbrev IsOfKind : Type 0
    IsOfKind = is_kind_of m.meta (out-Term t).class.0 c.0 ≡ true

    fits_conforms : (meta : ℕ) (class : ClassId) → Fits meta class → Conforms m.meta class.0 c.0
    fits_conforms meta class f =
        let own : Ty = types.Class meta class in
        let asked : Ty = types.Class (target_meta program) c in
        let one : f.of ≡ props.Class c =
        same_Some f.of (props.Class c) (sym f.typed ∙ ap (λ (x : MetaDesc). type_of x p.listed.item.prop.0) desc ∙ of_class) in
        let conforms : TypeConforms metas own asked = subst (λ of. TypeConforms metas own (value_type (target_meta program) of)) one f.conforms in
        let both = subst (λ o. ConformsBy metas own asked o (Some (target_meta program, c))) (class_of_class meta class)
        (subst (ConformsBy metas own asked (class_of own)) (class_of_class (target_meta program) c) conforms) in
        subst (λ (x : MetaDesc). Conforms x class.0 c.0) desc (subst (λ n. Conforms (meta_at metas n) class.0 c.0) both.0 both.1.2)

    -- the term of a variable whose class fits
    by_variable : (w : ℕ) → value_of k.values w ≡ Some d.value → (meta : ℕ) (class : ClassId) → class_of_variable rel w ≡ Some class.0
        → Fits meta class → IsOfKind
    by_variable w at meta class class_is f =
        let g = good.good.terms w d.value t at is in
        kind_up metas program evaluable.well m desc (out-Term t).class.0 class.0 c.0
        (keyed_within metas program evaluable.well m desc (out-Term t).class.0 g.told.key.props g.told.key.key)
        (g.typed class.0 class_is) (fits_conforms meta class f)

    -- ---- settled items

    by_expression : (e : Typed) → p.listed.item.value ≡ items.Expr e → content_value program sources k (Content.expression e) ≡ Some d.value
        → IsSettledItem metas program rel p.listed.item → IsOfKind
    by_expression e own at (IsSettledItem.nested part same fits) =
        absurd (none-some e (sym (at_nested part) ∙ ap expression_of (sym same ∙ own) ∙ at_expression e))
    by_expression e own at (IsSettledItem.object v meta class same target fits) =
        let whole : Typed = alone (types.Class meta class) v in
        let one : whole ≡ e = same_Some whole e (sym (at_expression whole) ∙ ap expression_of (sym same ∙ own) ∙ at_expression e) in
        let (w, by_itself, known_at) = term_alone program sources k e d.value t at is in
        let variable : w ≡ v = same_Some w v (sym by_itself ∙ alone_agrees e ∙ is_alone e (types.Class meta class) v (sym one)) in
        let (var, found, ty) = variable_type (types.Class meta class) v same in
        by_variable v (ap (value_of k.values) (sym variable) ∙ known_at) meta class
        (ap (option_and_then (λ (x : Var). class_in x.ty)) found ∙ ap class_in ty) fits
    by_expression e own at (IsSettledItem.data_value f same plain known) =
        let one : f ≡ e = same_Some f e (sym (at_expression f) ∙ ap expression_of (sym same ∙ own) ∙ at_expression e) in
        let (w, by_itself, known_at) = term_alone program sources k e d.value t at is in
        let whole = alone_is e w (sym (alone_agrees e) ∙ by_itself) in
        let (var, found, ty) = variable_type e.ty w (own ∙ ap items.Expr whole) in
        let (object, there, class) = object_class w t known_at is in
        let same_variable : var ≡ object = same_Some var object (sym found ∙ there) in
        absurd (plain class.0 class.1 (ap (λ (x : Typed). x.ty) one ∙ sym ty ∙ ap (λ (x : Var). x.ty) same_variable ∙ class.2))

    by_template : (v : ℕ) → a.item.content ≡ Content.template v → content_value program sources k (Content.template v) ≡ Some d.value
        → IsSettledItem metas program rel p.listed.item → IsOfKind
    by_template v content at (IsSettledItem.nested part same fits) =
        let var : (out-Tmpl part).var ≡ v = same_Some (out-Tmpl part).var v
        (ap variable_of (sym (content_nested part) ∙ ap (λ x. (content_of x).content) (sym same) ∙ p.listed.content ∙ content)) in
        let class_is : class_of_variable rel v ≡ Some (out-Tmpl part).class.0 =
        ap (class_of_variable rel) (sym var) ∙ declared_class metas program evaluable.well a.e.rel rel p.dom part a.found p.among p.target
        (record { root = p.root; has = p.has; nested = joined p.root p.listed.template part p.listed.nested p.listed.item p.listed.has same }) in
        by_variable v at (target_meta program) (out-Tmpl part).class class_is fits
    by_template v content at (IsSettledItem.object w meta class same target fits) =
        let whole : Typed = alone (types.Class meta class) w in
        let (part, own, var) = template_value p.listed.item.value v (p.listed.content ∙ content) in
        absurd (none-some whole (sym (at_nested part) ∙ ap expression_of (sym own ∙ same) ∙ at_expression whole))
    by_template v content at (IsSettledItem.data_value f same plain known) =
        let (part, own, var) = template_value p.listed.item.value v (p.listed.content ∙ content) in
        absurd (none-some f (sym (at_nested part) ∙ ap expression_of (sym own ∙ same) ∙ at_expression f))

    settled_kind : IsSettledItem metas program rel p.listed.item → IsOfKind
    settled_kind settled = by a.item.content refl a.value
      where
        by : (content : Content) → a.item.content ≡ content → content_value program sources k content ≡ Some d.value → IsOfKind
        by Content.empty content at = absurd (none-some d.value at)
        by (Content.expression e) content at = by_expression e (expression_value p.listed.item.value e (p.listed.content ∙ content)) at settled
        by (Content.template v) content at = by_template v content at settled

    kind : IsOfKind
    kind = stable (is_kind_of m.meta (out-Term t).class.0 c.0) (λ other. settled_item (λ settled. other (settled_kind settled)))

  -- ---- all of it

  same_prop : p.listed.item.prop.0 ≡ d.prop.0
  same_prop = going.same_prop metas program sources evaluable enforceable m before meta_is desc target_found demands d entries a entry good scopes

  pub conforms : (t : Term) → term_in d.value ≡ Some t → ConformsTo m.meta (out-Term t).class.0 (type_of m.meta d.prop.0)
  conforms t is =
      let goes = going.goes_into metas program sources evaluable enforceable m before meta_is desc target_found
      demands d entries a entry good scopes in
      by (type_of m.meta d.prop.0) refl (goes.object t is)
    where
      by : (of : Option PropType) → type_of m.meta d.prop.0 ≡ of → is_class_type of ≡ true → ConformsTo m.meta (out-Term t).class.0 of
      by None at reference = absurd (true≢false (sym reference))
      by (Some props.Str) at reference = absurd (true≢false (sym reference))
      by (Some props.Int) at reference = absurd (true≢false (sym reference))
      by (Some props.Bool) at reference = absurd (true≢false (sym reference))
      by (Some (props.Enum e)) at reference = absurd (true≢false (sym reference))
      by (Some (props.Class c)) at reference =
          lineage_conforms m.meta (out-Term t).class.0 c.0
          (among c.0 (lineage_of m.meta (out-Term t).class.0) (kind t is c (ap (type_of m.meta) same_prop ∙ at)))
