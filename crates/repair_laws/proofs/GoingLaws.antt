-- What the entries of a program that can be enforced demand goes into its slot, where the data of entries are of their types.
use Rattle.std.specs.Prelude.{◌≡◌, ◌<◌, ◌⊎◌, ℕ, zero, suc, true, List, length, Option, None, Some, slice_get, Contains}
use Rattle.std.specs.Option.{option_and_then}
use Rattle.std.proofs.Common.{refl, ap, sym, ◌∙◌, subst, arith, inl, inr, true≢false}
use Rattle.std.proofs.lemmas.Option.{none-some, same_Some}
use Rattle.std.proofs.lemmas.List.FromFn.{get_or-map-range_with_len}
use Rattle.mof_metamodel.specs.declared.desc.MetaDesc.{MetaDesc}
use Rattle.mof_metamodel.specs.declared.desc.ClassId.{ClassId}
use Rattle.mof_metamodel.specs.declared.desc.PropId.{PropId}
use Rattle.mof_metamodel.specs.Metamodels.{lineage_of, props_of, owner_of, type_of}
use Rattle.mof_metamodel.proofs.PropLemmas.{owner_listed, listed_has, prop_known}
use Rattle.mof_metamodel.proofs.ReachLemmas.{conforms_through}
use Rattle.mof_metamodel.proofs.WellLemmas.{conforms_listed}
use Rattle.object_tables.specs.declared.value.Value.{Value}
use Rattle.object_tables.specs.Models.{ModelData, is_class_type, is_value_of}
use Rattle.ocl_environments.specs.Environments.{meta_at}
use Rattle.qv_syntax.specs.declared.query.ModelSlot.{ModelSlot}
use Rattle.qv_syntax.specs.declared.ty.Ty.TheVariants as types
use Rattle.qv_syntax.specs.declared.typed.Typed.{Typed}
use Rattle.qv_syntax.specs.declared.typed.Node.TheVariants as nodes
use Rattle.qv_syntax.specs.declared.program.Program.{Program}
use Rattle.qv_syntax.specs.declared.program.Rel.{Rel}
use Rattle.qv_syntax.specs.declared.program.Var.{Var}
use Rattle.qv_syntax.specs.declared.program.Tmpl.{out-Tmpl}
use Rattle.qv_syntax.specs.declared.program.ItemValue.TheVariants as items
use Rattle.qv_syntax.specs.Types.{AreRelated}
use Rattle.qv_syntax.specs.TypedTrees.{Typing, IsTyped}
use Rattle.qv_syntax.specs.Relations.{IsModelDomain, IsTemplateOf}
use Rattle.qv_syntax.specs.ProgramTypes.{context_of, typing_of, variables_of, IsGiven, IsItemOfType, IsItemTyped}
use Rattle.qvtr_semantics.specs.declared.datum.Datum.{Datum}
use Rattle.qvtr_semantics.specs.declared.datum.Datum.TheVariants.{Val, Obj}
use Rattle.qvtr_semantics.specs.declared.out.Out.TheVariants as outs
use Rattle.qvtr_semantics.specs.Outs.{datum_of, value_of_datum}
use Rattle.qvtr_semantics.specs.Objects.{value_datum}
use Rattle.qvtr_semantics.specs.Expressions.{setting, queries_within, value, variable, bound_value, scope_of}
use Rattle.qvtr_semantics.specs.Templates.{value_at}
use Rattle.evaluation_laws.specs.Evaluable.{IsEvaluable}
use Rattle.evaluation_laws.specs.Literals.{IsExpressionOf}
use Rattle.evaluation_laws.specs.Held.{IsHeld}
use Rattle.evaluation_laws.specs.TypedValues.{anywhere}
use Rattle.evaluation_laws.specs.Scopes.{HasValuesOfTypes}
use Rattle.evaluation_laws.proofs.NavigationLaws.{among}
use Rattle.evaluation_laws.proofs.SlotLaws.{IsNoClass, expression_of, at_null, at_expression, at_nested, datum_kept, demanded_fits}
use Rattle.enforcement_rules.specs.TargetParts.{target_meta, target_desc, IsTargetVariable}
use Rattle.enforcement_rules.specs.Patterns.{IsSettledItem, HasUnsettledPart}
use Rattle.enforcement_rules.specs.Rules.{Breaks, IsEnforceable}
use Rattle.enforcement_rules.proofs.ExpressionLaws.{alone_is, is_alone}
use Rattle.enforcement_rules.proofs.KnownLaws.{listed_universal}
use Rattle.enforcement_rules.proofs.RuleLaws.{kept_by_each}
use Rattle.enforcement_rules.proofs.StandingLaws.{nested_stands}
use Rattle.source_laws.proofs.BindingLaws.{found_within}
use Rattle.source_laws.proofs.CallLaws.{alone_meaning}
use Rattle.source_laws.proofs.QueryLaws.{variable_is}
use Rattle.source_laws.proofs.RuleLaws.{target_is, mapped}
use Rattle.source_laws.proofs.TypingLaws.{variable_typing}
use Rattle.repair_semantics.specs.declared.term.Term.{Term, roll-Term, out-Term}
use Rattle.repair_semantics.specs.declared.term.TermValue.{TermValue}
use Rattle.repair_semantics.specs.declared.entry.Entry.{Entry}
use Rattle.repair_semantics.specs.declared.demand.Demand.{Demand}
use Rattle.repair_semantics.specs.Terms.{datum_in, term_in}
use Rattle.repair_semantics.specs.EntryValues.{TermValues, value_of, data_in, variable_alone, given_by, Known}
use Rattle.repair_semantics.specs.TargetItems.{Content, target_meta_number, class_of_variable}
use Rattle.repair_semantics.specs.Making.{equation_of, by_equation, scope_within, entry_scope, content_value, entry_known}
use Rattle.repair_semantics.specs.Entries.{IsEntry}
use Rattle.repair_laws.specs.Going.{GoesInto}
use Rattle.repair_laws.proofs.ItemParts.{IsOfTargetDomain, target_item, expression_value, template_value}
use Rattle.repair_laws.proofs.ManagedLaws.{lineage_conforms, meta_found, slot_at, numbers_agree, declared_class}
use Rattle.repair_laws.proofs.MadeTerms.{IsKnownBy, known_within, known_cases}
use Rattle.repair_laws.proofs.CallTerms.{alone_agrees}
use Rattle.repair_laws.proofs.EntryDemands.{IsGivenBy}
use Rattle.repair_laws.proofs.EntryTerms.{term_itself, term_alone, one_of_two, data_at, equation_place}
use Rattle.repair_laws.proofs.EntryGood.{IsGoodEntry}
use Rattle.repair_laws.proofs.EntryDemanded.{IsAskedBy}
use Rattle.repair_laws.proofs.TargetVariables.{target_variable, variable_target, keyed_within, template_given, meant, range}
use Rattle.repair_laws.proofs.DatumTypes.{class_number, class_value, no_reference, object_class, typed_type, class_or_none, related_class, empty_nested, one_out, given_is}
use Rattle.mof_metamodel.proofs.Facts.{contains_at}

module _ (program : Program) (models : List ModelData) (rel : Rel) (b : TermValues) where
  -- where a variable has no equation, the scope has its datum
  own_scope : (v : ℕ) (d : Datum) → v < length rel.vars → equation_of rel.wheres v ≡ None → value_at (data_in b) v ≡ Some d → variable (entry_scope program models rel b) v ≡ outs.One d
  own_scope v d within none at = by (length rel.wheres)
    where
      first : variable (scope_of (data_in b)) v ≡ outs.One d
      first = variable_is (data_in b) v ∙ ap bound_value at

      by : (n : ℕ) → variable (scope_within program models rel (scope_of (data_in b)) n) v ≡ outs.One d
      by zero = first
      by (suc n) =
          get_or-map-range_with_len (λ w. by_equation program models (scope_within program models rel (scope_of (data_in b)) n) (variable (scope_of (data_in b)) w) (equation_of rel.wheres w))
          0 (length rel.vars) v v outs.Invalid within (omega arith)
          ∙ ap (by_equation program models (scope_within program models rel (scope_of (data_in b)) n) (variable (scope_of (data_in b)) v)) none ∙ first

module _ (metas : List MetaDesc) (program : Program) (sources : List ModelData) (evaluable : IsEvaluable metas program sources) (enforceable : IsEnforceable metas program)
    (m before : ModelData) (meta_is : before.meta ≡ m.meta) (desc : target_desc metas program ≡ m.meta) (target_found : slice_get sources program.target ≡ Some before)
    (demands : List Demand) (d : Demand) (entries : List Entry) (a : IsAskedBy program sources entries d) (entry : IsEntry program sources a.e) (good : IsGoodEntry program sources m.meta demands a.e a.rel)
    (scopes : (e : Typed) → HasValuesOfTypes metas (setting program sources) e (variables_of a.rel) (entry_scope program sources a.rel a.e.values)) where
  abbrev rel : Rel
  rel = a.rel

  abbrev k : Known
  k = entry_known program sources a.rel a.e.values

  pub p : IsOfTargetDomain program rel a.item
  p = target_item program rel a.item a.there

  rel_there : Contains program.rels rel
  rel_there = contains_at program.rels a.e.rel rel a.found

  abbrev domain : IsModelDomain program rel p.dom
  domain =
      let slot = found_within program.models program.target evaluable.well.numbers.target in
      record { is = p.among; model = program.target; of_model = target_is program.target p.dom.model p.target; slot = slot.0; found = slot.1 }

  template : IsTemplateOf p.dom p.listed.template
  template = record { root = p.root; has = p.has; nested = p.listed.nested }

  pub typed : IsItemTyped metas program rel domain.model domain.slot.meta p.listed.template p.listed.item
  typed = (evaluable.well.typed.relations rel rel_there).items p.dom domain p.listed.template p.listed.item template p.listed.has

  slot_meta : domain.slot.meta ≡ target_meta program
  slot_meta = ap (λ (s : ModelSlot). s.meta) (sym (slot_at program.models program.target domain.slot domain.found))

  described : (n : ℕ) (meta : MetaDesc) → slice_get metas n ≡ Some meta → n ≡ domain.slot.meta → meta ≡ m.meta
  described n meta found same = meta_found metas n meta found ∙ ap (meta_at metas) (same ∙ slot_meta) ∙ desc

  -- the property is of the type that the item asks for
  class_type_at : (n : ℕ) (c : ClassId) → typed.of ≡ types.Class n c → is_class_type (type_of m.meta p.listed.item.prop.0) ≡ true
  class_type_at n c is =
      let h = typed.property in
      let number : h.m ≡ domain.slot.meta = sym (ap class_number h.is) in
      ap (λ x. is_class_type (type_of x p.listed.item.prop.0)) (sym (described h.m h.has.meta h.has.found number))
      ∙ ap is_class_type h.typed ∙ class_value h.m h.of n c (sym h.value ∙ is)

  pub same_prop : p.listed.item.prop.0 ≡ d.prop.0
  same_prop = ap (λ (x : PropId). x.0) (p.listed.prop ∙ sym a.prop)

  -- ---- the property is one of the owner's class

  owner_value : (x : TermValue) × (value_of k.values a.item.owner ≡ Some x) × (term_in x ≡ Some d.owner)
  owner_value = by (value_of k.values a.item.owner) a.owner
    where
      by : (o : Option TermValue) → option_and_then term_in o ≡ Some d.owner → (x : TermValue) × (o ≡ Some x) × (term_in x ≡ Some d.owner)
      by None h = absurd (none-some d.owner h)
      by (Some x) h = (x, refl, h)

  own_property : Contains (props_of m.meta (out-Term d.owner).class.0) d.prop.0
  own_property =
      let v = owner_value in
      let g = good.good.terms a.item.owner v.0 d.owner v.1 v.2 in
      let c : ℕ = (out-Tmpl p.listed.template).class.0 in
      let r = (range metas program evaluable.well m desc a.e.rel rel a.found).templates p.dom domain p.listed.template template in
      let has : Contains (props_of m.meta c) d.prop.0 =
      subst (Contains (props_of m.meta c)) same_prop
      (subst (λ x. Contains (props_of x c) p.listed.item.prop.0) (described domain.slot.meta r.class.meta r.class.found refl) (r.items p.listed.item p.listed.has)) in
      let class_is : class_of_variable rel a.item.owner ≡ Some c =
      ap (class_of_variable rel) (sym p.listed.owner) ∙ declared_class metas program evaluable.well a.e.rel rel p.dom p.listed.template a.found p.among p.target template in
      let up = lineage_conforms m.meta (out-Term d.owner).class.0 c (among c (lineage_of m.meta (out-Term d.owner).class.0) (g.typed c class_is)) in
      let over = lineage_conforms m.meta c (owner_of m.meta d.prop.0) (owner_listed m.meta c d.prop.0 has) in
      listed_has m.meta (out-Term d.owner).class.0 d.prop.0 (prop_known m.meta c d.prop.0 has)
      (conforms_listed m.meta (out-Term d.owner).class.0 (owner_of m.meta d.prop.0)
      (keyed_within metas program evaluable.well m desc (out-Term d.owner).class.0 g.told.key.props g.told.key.key)
      (conforms_through m.meta (out-Term d.owner).class.0 c (owner_of m.meta d.prop.0) up over))

  -- ---- a term stands at a reference

  -- a variable that has a term is one of a class
  pub target_class : (w : ℕ) (x : TermValue) (t : Term) → value_of k.values w ≡ Some x → term_in x ≡ Some t → (var : Var) × (slice_get rel.vars w ≡ Some var) × ((n : ℕ) × (c : ClassId) × (var.ty ≡ types.Class n c))
  target_class w x t at is =
      let v = target_variable program rel w (good.good.terms w x t at is).target in
      (v.var, v.found, by v (class_or_none v.var.ty))
    where
      by : (v : IsTargetVariable program rel w) → ((n : ℕ) × (c : ClassId) × (v.var.ty ≡ types.Class n c)) ⊎ IsNoClass v.var.ty → (n : ℕ) × (c : ClassId) × (v.var.ty ≡ types.Class n c)
      by v (inl class) = class
      by v (inr none) =
          let none_model = ((meant metas program evaluable.well m desc a.e.rel rel a.found).variables.models v.var (contains_at rel.vars w v.var v.found)).data_value none in
          absurd (none-some program.target (sym none_model ∙ v.target))

  asked_class : (e : Typed) (w : ℕ) (x : TermValue) (t : Term) → e ≡ record { ty = e.ty; node = nodes.Variable w } → value_of k.values w ≡ Some x → term_in x ≡ Some t
      → IsGiven metas program rel (record { ty = typed.of; model = Some domain.model }) e → (n : ℕ) × (c : ClassId) × (typed.of ≡ types.Class n c)
  asked_class e w x t alone at is given =
      let (var, found, class) = target_class w x t at is in
      let typing_at = variable_typing (context_of metas program) (variables_of rel) e.ty w given.typing (subst (λ y. IsTyped (context_of metas program) (variables_of rel) y given.typing) alone given.typed) in
      let own = mapped typing_of rel.vars w given.typing typing_at in
      let same : own.0 ≡ var = same_Some own.0 var (sym own.1 ∙ found) in
      let ty : given.typing.ty ≡ types.Class class.0 class.1 = ap (λ (y : Typing). y.ty) (sym own.2) ∙ ap (λ (y : Var). y.ty) same ∙ class.2 in
      related_class metas class.0 class.1 typed.of (subst (λ y. AreRelated metas y typed.of) ty given.fits.related)

  item_class : (c : Content) (x : TermValue) (t : Term) → a.item.content ≡ c → content_value program sources k c ≡ Some x → term_in x ≡ Some t
      → (n : ℕ) × (q : ClassId) × (typed.of ≡ types.Class n q)
  item_class Content.empty x t is at term = absurd (none-some x at)
  item_class (Content.expression e) x t is at term = by typed.value
    where
      own : p.listed.item.value ≡ items.Expr e
      own = expression_value p.listed.item.value e (p.listed.content ∙ is)

      by : IsItemOfType metas program rel domain.model domain.slot.meta typed.of p.listed.item → (n : ℕ) × (q : ClassId) × (typed.of ≡ types.Class n q)
      by (IsItemOfType.empty none) = absurd (none-some e (sym at_null ∙ ap expression_of (sym none ∙ own) ∙ at_expression e))
      by (IsItemOfType.nested part same related) = absurd (none-some e (sym (at_nested part) ∙ ap expression_of (sym same ∙ own) ∙ at_expression e))
      by (IsItemOfType.expression f same given) =
          let one : f ≡ e = same_Some f e (sym (at_expression f) ∙ ap expression_of (sym same ∙ own) ∙ at_expression e) in
          let (w, alone, known_at) = term_alone program sources k e x t at term in
          asked_class e w x t (alone_is e w (sym (alone_agrees e) ∙ alone)) known_at term (subst (IsGiven metas program rel (record { ty = typed.of; model = Some domain.model })) one given)
  item_class (Content.template v) x t is at term = by typed.value
    where
      by : IsItemOfType metas program rel domain.model domain.slot.meta typed.of p.listed.item → (n : ℕ) × (q : ClassId) × (typed.of ≡ types.Class n q)
      by (IsItemOfType.nested part same related) = related_class metas domain.slot.meta (out-Tmpl part).class typed.of related
      by (IsItemOfType.empty none) =
          let (part, own, var) = template_value p.listed.item.value v (p.listed.content ∙ is) in
          absurd (empty_nested part (sym none ∙ own))
      by (IsItemOfType.expression f same given) =
          let (part, own, var) = template_value p.listed.item.value v (p.listed.content ∙ is) in
          absurd (none-some f (sym (at_nested part) ∙ ap expression_of (sym own ∙ same) ∙ at_expression f))

  reference : (t : Term) → term_in d.value ≡ Some t → is_class_type (type_of m.meta d.prop.0) ≡ true
  reference t is =
      let (n, c, class) = item_class a.item.content d.value t refl a.value is in
      ap (λ q. is_class_type (type_of m.meta q)) (sym same_prop) ∙ class_type_at n c class

  -- ---- a datum stands at an attribute

  -- the scope has the data of all variables
  known_datum : (w : ℕ) (x : TermValue) (y : Datum) → value_of k.values w ≡ Some x → datum_in x ≡ Some y → variable (entry_scope program sources rel a.e.values) w ≡ outs.One y
  known_datum w x y at is = by (known_cases program sources rel a.e.values w x at)
    where
      no_equation : Contains rel.universal w → (o : Option Typed) → equation_of rel.wheres w ≡ o → equation_of rel.wheres w ≡ None
      no_equation u None none = none
      no_equation u (Some e) there =
          let (place, f, at_place) = equation_place rel.wheres w e there in
          let sought = ((meant metas program evaluable.well m desc a.e.rel rel a.found).wheres.are place w f at_place).1 in
          absurd (sought (listed_universal metas program a.e.rel rel (meant metas program evaluable.well m desc a.e.rel rel a.found) (range metas program evaluable.well m desc a.e.rel rel a.found).vars w u))

      by : IsKnownBy program sources rel a.e.values w x → variable (entry_scope program sources rel a.e.values) w ≡ outs.One y
      by (IsKnownBy.own h) =
          let there : value_at (data_in a.e.values) w ≡ Some y = data_at a.e.values w ∙ ap (option_and_then datum_in) h ∙ is in
          let u = good.universal w y there in
          own_scope program sources rel a.e.values w y (known_within program sources rel a.e.values w x at) (no_equation u (equation_of rel.wheres w) refl) there
      by (IsKnownBy.equation none g) =
          one_out (variable (entry_scope program sources rel a.e.values) w) y (given_is (datum_of (variable (entry_scope program sources rel a.e.values) w)) x y g is)
      by (IsKnownBy.made none q) =
          absurd (one_of_two x (roll-Term (record { class = record { 0 = q.class }; keys = q.keys })) y
          (ap term_in (sym q.is) ∙ term_itself (roll-Term (record { class = record { 0 = q.class }; keys = q.keys }))) is)

  -- so that what an expression gives is its value in the scope
  expression_datum : (e : Typed) (y : Datum) → content_value program sources k (Content.expression e) ≡ Some d.value → datum_in d.value ≡ Some y
      → datum_of (value program sources e (entry_scope program sources rel a.e.values)) ≡ Some y
  expression_datum e y at is = by (variable_alone e) refl at
    where
      by : (o : Option ℕ) → variable_alone e ≡ o → given_by program sources k e o ≡ Some d.value → datum_of (value program sources e (entry_scope program sources rel a.e.values)) ≡ Some y
      by None alone g = given_is (datum_of (value program sources e k.scope)) d.value y g is
      by (Some w) alone g =
          let whole : e ≡ record { ty = e.ty; node = nodes.Variable w } = alone_is e w (sym (alone_agrees e) ∙ alone) in
          ap (λ z. datum_of (value program sources z (entry_scope program sources rel a.e.values))) whole
          ∙ ap datum_of (alone_meaning (setting program sources) (queries_within program.queries (setting program sources) (length program.queries)) e.ty w (entry_scope program sources rel a.e.values) ∙ known_datum w d.value y g is)

  -- the item is settled
  pub settled_item : ¬ (¬ IsSettledItem metas program rel p.listed.item)
  settled_item unsettled =
      let at_place = nested_stands p.root None p.listed.template p.listed.nested in
      kept_by_each metas program a.e.rel 3 rel enforceable a.found good.direction (Breaks.e3 refl (HasUnsettledPart.item p.listed.template at_place.0 p.listed.item
      (record { dom = p.dom; of = record { is = p.among; target = domain.of_model }; root = p.root; has = p.has; stands = at_place.1 }) p.listed.has unsettled))

  -- no object of a source stands for an object of the target
  no_object : (e : Typed) (y : Datum) → a.item.content ≡ Content.expression e → content_value program sources k (Content.expression e) ≡ Some d.value → datum_in d.value ≡ Some y → value_of_datum y ≡ None → ⊥
  no_object e y is at datum none =
      let own = expression_value p.listed.item.value e (p.listed.content ∙ is) in
      settled_item (λ settled. refuted own settled)
    where
      refuted : p.listed.item.value ≡ items.Expr e → IsSettledItem metas program rel p.listed.item → ⊥
      refuted own (IsSettledItem.nested part same fits) = none-some e (sym (at_nested part) ∙ ap expression_of (sym same ∙ own) ∙ at_expression e)
      refuted own (IsSettledItem.object v meta class same target fits) =
          let whole : Typed = record { ty = types.Class meta class; node = nodes.Variable v } in
          let one : whole ≡ e = same_Some whole e (sym (at_expression whole) ∙ ap expression_of (sym same ∙ own) ∙ at_expression e) in
          let alone = alone_agrees e ∙ is_alone e (types.Class meta class) v (sym one) in
          let known_at : value_of k.values v ≡ Some d.value = sym (ap (given_by program sources k e) alone) ∙ at in
          true≢false (sym (variable_target program rel v target) ∙ good.good.outside v d.value y known_at datum)
      refuted own (IsSettledItem.data_value f same plain known) =
          let one : f ≡ e = same_Some f e (sym (at_expression f) ∙ ap expression_of (sym same ∙ own) ∙ at_expression e) in
          typed_object own (λ n c ty. plain n c (ap (λ (z : Typed). z.ty) one ∙ ty)) typed.value
        where
          typed_object : p.listed.item.value ≡ items.Expr e → IsNoClass e.ty → IsItemOfType metas program rel domain.model domain.slot.meta typed.of p.listed.item → ⊥
          typed_object own2 plain2 (IsItemOfType.empty nothing) = none-some e (sym at_null ∙ ap expression_of (sym nothing ∙ own2) ∙ at_expression e)
          typed_object own2 plain2 (IsItemOfType.nested part same2 related) = none-some e (sym (at_nested part) ∙ ap expression_of (sym same2 ∙ own2) ∙ at_expression e)
          typed_object own2 plain2 (IsItemOfType.expression g same2 given) =
              let one2 : g ≡ e = same_Some g e (sym (at_expression g) ∙ ap expression_of (sym same2 ∙ own2) ∙ at_expression e) in
              let given_e = subst (IsGiven metas program rel (record { ty = typed.of; model = Some domain.model })) one2 given in
              let stored = evaluable.texts.relations rel e rel_there (IsExpressionOf.of_item p.dom p.among (record {
                item = p.listed.item;
                of = record { template = p.listed.template; of = template; has = p.listed.has };
                is = own2;
              })) in
              let kept = datum_kept metas program sources evaluable.kept evaluable.well evaluable.texts rel e given_e.typing (entry_scope program sources rel a.e.values) stored (scopes e) given_e.typed y
              (expression_datum e y at datum) in
              object_class metas (setting program sources) anywhere given_e.typing.ty y none
              (λ n c ty. plain2 n c (sym (typed_type (context_of metas program) (variables_of rel) e given_e.typing given_e.typed) ∙ ty)) kept

  -- what is known of a datum that is demanded: it is a value of the property's type, as one of the target's values is seen
  pub record IsFitting (y : Datum) : Type 0 where
    pub value : Value
    pub value_is : value_of_datum y ≡ Some value
    pub fits : is_value_of m.meta (type_of m.meta d.prop.0) value ≡ true
    pub seen : value_datum (target_meta_number program) value ≡ y

  pub fitting : (y : Datum) → datum_in d.value ≡ Some y → IsFitting y
  fitting y datum = by_content a.item.content refl a.value
    where
      held : (e : Typed) (n : ℕ) (v : Value) → y ≡ Val n v → IsHeld before.meta p.listed.item.prop.0 domain.slot.meta n v → IsFitting y
      held e n v is h =
          let meta_same : domain.slot.meta ≡ target_meta_number program = slot_meta ∙ numbers_agree metas program evaluable.well in
          record {
            value = v;
            value_is = ap value_of_datum is;
            fits = ap (λ q. is_value_of m.meta (type_of m.meta q) v) (sym same_prop) ∙ ap (λ x. is_value_of x (type_of x p.listed.item.prop.0) v) (sym meta_is) ∙ h.fits;
            seen = ap (λ q. value_datum q v) (sym meta_same) ∙ sym h.read ∙ sym is;
          }

      by_datum : (e : Typed) (z : Datum) → y ≡ z → a.item.content ≡ Content.expression e → content_value program sources k (Content.expression e) ≡ Some d.value → IsFitting y
      by_datum e (Obj model o) same is at = absurd (no_object e y is at datum (ap value_of_datum same))
      by_datum e (Val n v) same is at =
          held e n v same (demanded_fits metas program sources evaluable.kept evaluable.well evaluable.texts rel rel_there p.dom domain p.listed.template template p.listed.item p.listed.has e
          (expression_value p.listed.item.value e (p.listed.content ∙ is)) (entry_scope program sources rel a.e.values) (scopes e) before target_found n v
          (expression_datum e y at datum ∙ ap (λ q. Some q) same))

      by_content : (c : Content) → a.item.content ≡ c → content_value program sources k c ≡ Some d.value → IsFitting y
      by_content Content.empty is at = absurd (none-some d.value at)
      by_content (Content.expression e) is at = by_datum e y refl is at
      by_content (Content.template v) is at =
          let h = template_given metas program evaluable.well m desc a.e.rel rel a.found v (IsGivenBy.around a.item a.there is) in
          absurd (true≢false (sym (variable_target program rel v h.target) ∙ good.good.outside v d.value y at datum))

  pub goes_into : GoesInto program m d
  goes_into = record {
    has = own_property;
    object = reference;
    attribute = λ y is. let f = fitting y is in no_reference m.meta (type_of m.meta d.prop.0) f.value f.fits;
    datum = λ y is. let f = fitting y is in record { value = f.value; value_is = f.value_is; seen = f.seen };
  }
