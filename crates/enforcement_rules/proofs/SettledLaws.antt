-- E3: the tests tell whether each conjunct of where and each item of a target template is settled.
use Rattle.std.proofs.Common.{◌≡◌, ◌&&◌, ℕ, List, [], Bool, true, false, Option, None, Some, refl, sym, ap, ◌∙◌, subst, inl, inr, ⊎_elim, true≢false, length, if◌then◌else◌}
use Rattle.std.specs.Prelude.{Contains, ◌↔◌, IsTrue, not}
use Rattle.std.specs.List.{list_all}
use Rattle.mof_metamodel.specs.declared.desc.MetaDesc.{MetaDesc}
use Rattle.qv_syntax.specs.declared.ty.Ty.{Ty}
use Rattle.qv_syntax.specs.declared.ty.Ty.TheVariants as types
use Rattle.qv_syntax.specs.declared.typed.Typed.{Typed}
use Rattle.qv_syntax.specs.declared.typed.Node.{out-Node}
use Rattle.qv_syntax.specs.declared.typed.Node.TheVariants as nodes
use Rattle.qv_syntax.specs.declared.program.Program.{Program}
use Rattle.qv_syntax.specs.declared.program.Rel.{Rel}
use Rattle.qv_syntax.specs.declared.program.Tmpl.{Tmpl, out-Tmpl}
use Rattle.qv_syntax.specs.declared.program.Item.{Item}
use Rattle.qv_syntax.specs.declared.program.ItemValue.{ItemValue, out-ItemValue}
use Rattle.qv_syntax.specs.declared.program.ItemValue.TheVariants as items
use Rattle.qv_syntax.specs.declared.program.ItemValue.TheOpen as layers
use Rattle.qv_syntax.specs.declared.program.Conj.{Conj}
use Rattle.qv_syntax.specs.declared.program.Conj.TheVariants as conjuncts
use Rattle.qv_syntax.specs.Directions.{IsMeant}
use Rattle.qv_syntax.specs.ProgramNumbers.{AreVariablesInRange}
use Rattle.ocl_environments.specs.Environments.{AreWell}
use Rattle.enforcement_rules.specs.declared.standing.Place.{Place}
use Rattle.enforcement_rules.specs.ExpressionTests.{variable_alone}
use Rattle.enforcement_rules.specs.KnownTests.{IsKnownTable, is_marked, is_over_known}
use Rattle.enforcement_rules.specs.Mentions.{variables_of}
use Rattle.enforcement_rules.specs.Patterns.{IsOverKnown, IsSettledConjunct, IsSettledItem, HasUnsettledPart}
use Rattle.enforcement_rules.specs.PatternTests.{is_settled_conjunct, fits_property, is_variable_settled, is_object_settled, is_settled_expression, is_settled_value, is_settled_item, is_settled_template}
use Rattle.enforcement_rules.specs.Standings.{Shown, Adds, IsOfTarget, IsOfDomains}
use Rattle.enforcement_rules.specs.TargetParts.{target_meta, IsTargetTemplate}
use Rattle.enforcement_rules.specs.TargetTests.{has_class, is_target_variable}
use Rattle.enforcement_rules.proofs.ClassLaws.{class_there, there_class, no_class}
use Rattle.enforcement_rules.proofs.ExpressionLaws.{target_model, model_target, target_there, there_target, alone_is, is_alone}
use Rattle.enforcement_rules.proofs.FitLaws.{property_told, told_property}
use Rattle.enforcement_rules.proofs.ItemLaws.{nested_is, is_nested, expression_is, is_expression}
use Rattle.enforcement_rules.proofs.ListLaws.{nothing_in, and_first, and_second, and_both, and_cases, not_true, not_false, false_unless, all_each, all_from, all_fails, among_some}
use Rattle.enforcement_rules.proofs.VariableLaws.{names_listed, listed_names}

-- ---- the templates of the target

module _ (program : Program) (rel : Rel) (templates : List Shown) (all : Adds (IsOfDomains (IsOfTarget program) rel.domains) [] templates) where
  pub template_is : (s : Shown) → Contains templates s → IsTargetTemplate program rel s.0 s.1
  template_is s among =
      let d = ⊎_elim (λ (none : Contains {X = Shown} [] s). absurd (nothing_in s none)) (λ (d : IsOfDomains (IsOfTarget program) rel.domains s). d) (all.only s among) in
      record { dom = d.dom; of = record { is = d.among; target = target_model program d.dom.model d.of.target }; root = d.of.of.root; has = d.of.of.has; stands = d.of.of.stands }

  pub is_template : (t : Tmpl) (at : Option Place) → IsTargetTemplate program rel t at → Contains templates (t, at)
  is_template t at is =
      all.more (t, at) (record { dom = is.dom; among = is.of.is; of = record { target = model_target program is.dom.model is.of.target; of = record { root = is.root; has = is.has; stands = is.stands } } })

-- ---- E3

module _ (metas : List MetaDesc) (well : AreWell metas) (program : Program) (number : ℕ) (rel : Rel) (meant : IsMeant program number rel) (range : AreVariablesInRange metas program rel) (known : List Bool)
    (table : IsKnownTable program rel known) where
  abbrev meta : ℕ
  meta = target_meta program

  over_told : (e : Typed) → is_over_known rel known e ≡ true → IsOverKnown program rel e
  over_told e h = λ v names. table.sound v (all_each (is_marked known) (variables_of (length rel.vars) e) h v (names_listed rel e v names))

  told_over : (e : Typed) → IsOverKnown program rel e → is_over_known rel known e ≡ true
  told_over e h = all_from (is_marked known) (variables_of (length rel.vars) e)
      (λ v among. let names = listed_names rel e v among in table.complete v names.own (h v names))

  -- conjuncts

  conjunct_told : (c : Conj) → Contains rel.wheres c → is_settled_conjunct rel known c ≡ true → IsSettledConjunct program rel c
  conjunct_told (conjuncts.Cond e) among h = over_told e h
  conjunct_told (conjuncts.Equation v e) among h =
      let at = among_some rel.wheres (conjuncts.Equation v e) among in
      let are = meant.wheres.are at.0 v e at.1 in
      (are.0, are.1)
  conjunct_told (conjuncts.Call r args) among h = tt

  told_conjunct : (c : Conj) → IsSettledConjunct program rel c → is_settled_conjunct rel known c ≡ true
  told_conjunct (conjuncts.Cond e) h = told_over e h
  told_conjunct (conjuncts.Equation v e) h = refl
  told_conjunct (conjuncts.Call r args) h = refl

  -- items

  object_told : (item : Item) (e : Typed) → item.value ≡ items.Expr e → has_class e.ty ≡ true → is_object_settled metas program rel meta item.prop e ≡ true → IsSettledItem metas program rel item
  object_told item e is classy h = by (variable_alone (out-Node e.node)) refl h
    where
      by : (o : Option ℕ) → variable_alone (out-Node e.node) ≡ o → is_variable_settled metas program rel meta item.prop e.ty o ≡ true → IsSettledItem metas program rel item
      by None none g = absurd (cc)
      by (Some v) alone g =
          let class = there_class e.ty classy in
          let same : e ≡ record { ty = types.Class class.0 class.1; node = nodes.Variable v } = alone_is e v alone ∙ ap (λ (ty : Ty). let t : Typed = record { ty = ty; node = nodes.Variable v } in t) class.2 in
          IsSettledItem.object v class.0 class.1 (is ∙ ap (λ (t : Typed). items.Expr t) same)
          (target_there program rel v (and_first (is_target_variable program rel v) (fits_property metas meta item.prop e.ty) g))
          (property_told metas well meta item.prop (types.Class class.0 class.1)
          (subst (λ (ty : Ty). fits_property metas meta item.prop ty ≡ true) class.2 (and_second (is_target_variable program rel v) (fits_property metas meta item.prop e.ty) g)))

  expression_told : (item : Item) (e : Typed) → item.value ≡ items.Expr e → is_settled_expression metas program rel meta known item.prop e ≡ true → IsSettledItem metas program rel item
  expression_told item e is h = by (has_class e.ty) refl h
    where
      by : (b : Bool) → has_class e.ty ≡ b → (if b then is_object_settled metas program rel meta item.prop e else is_over_known rel known e) ≡ true → IsSettledItem metas program rel item
      by true classy g = object_told item e is classy g
      by false plain g = IsSettledItem.data_value e is (no_class e.ty plain) (over_told e g)

  value_told : (item : Item) (d : layers.ItemValue-F ItemValue Item Tmpl) → out-ItemValue item.value ≡ d → is_settled_value metas program rel meta known item.prop d ≡ true → IsSettledItem metas program rel item
  value_told item layers.Null is h = absurd (cc)
  value_told item (layers.Expr e) is h = expression_told item e (expression_is item.value e is) h
  value_told item (layers.Nested part) is h = IsSettledItem.nested part (nested_is item.value part is) (property_told metas well meta item.prop (types.Class meta (out-Tmpl part).class) h)

  item_told : (item : Item) → is_settled_item metas program rel meta known item ≡ true → IsSettledItem metas program rel item
  item_told item h = value_told item (out-ItemValue item.value) refl h

  told_item : (item : Item) → IsSettledItem metas program rel item → is_settled_item metas program rel meta known item ≡ true
  told_item item (IsSettledItem.nested part is fits) =
      ap (is_settled_value metas program rel meta known item.prop) (is_nested item.value part is) ∙ told_property metas well meta item.prop (types.Class meta (out-Tmpl part).class) fits
  told_item item (IsSettledItem.object v m class is target fits) =
      let e : Typed = record { ty = types.Class m class; node = nodes.Variable v } in
      ap (is_settled_value metas program rel meta known item.prop) (is_expression item.value e is)
      ∙ ap (λ (b : Bool). if b then is_object_settled metas program rel meta item.prop e else is_over_known rel known e) (class_there (types.Class m class) m class refl)
      ∙ ap (is_variable_settled metas program rel meta item.prop (types.Class m class)) (is_alone e (types.Class m class) v refl)
      ∙ and_both (is_target_variable program rel v) (fits_property metas meta item.prop (types.Class m class)) (there_target program rel v target)
      (told_property metas well meta item.prop (types.Class m class) fits)
  told_item item (IsSettledItem.data_value e is plain over) =
      ap (is_settled_value metas program rel meta known item.prop) (is_expression item.value e is)
      ∙ ap (λ (b : Bool). if b then is_object_settled metas program rel meta item.prop e else is_over_known rel known e)
      (false_unless (has_class e.ty) (λ h. let c = there_class e.ty h in plain c.0 c.1 c.2))
      ∙ told_over e over

  -- the whole

  module _ (templates : List Shown) (all : Adds (IsOfDomains (IsOfTarget program) rel.domains) [] templates) where
    abbrev settled_conjuncts : Bool
    settled_conjuncts = list_all (is_settled_conjunct rel known) rel.wheres

    abbrev settled_templates : Bool
    settled_templates = list_all (is_settled_template metas program rel meta known) templates

    pub unsettled_there : (settled_conjuncts && settled_templates) ≡ false → HasUnsettledPart metas program rel
    unsettled_there h = elim (and_cases settled_conjuncts settled_templates h) [
      | inl bad ↦ (let found = all_fails (is_settled_conjunct rel known) rel.wheres bad in
          HasUnsettledPart.conjunct found.0 found.1 (λ settled. true≢false (sym (told_conjunct found.0 settled) ∙ found.2)))
      | inr bad ↦ (let found = all_fails (is_settled_template metas program rel meta known) templates bad in
          let s = found.0 in
          let item = all_fails (is_settled_item metas program rel meta known) (out-Tmpl s.0).items found.2 in
          HasUnsettledPart.item s.0 s.1 item.0 (template_is program rel templates all s found.1) item.1 (λ settled. true≢false (sym (told_item item.0 settled) ∙ item.2)))
    ]

    pub there_unsettled : HasUnsettledPart metas program rel → (settled_conjuncts && settled_templates) ≡ false
    there_unsettled (HasUnsettledPart.conjunct c among other) =
        false_unless (settled_conjuncts && settled_templates)
        (λ h. other (conjunct_told c among (all_each (is_settled_conjunct rel known) rel.wheres (and_first settled_conjuncts settled_templates h) c among)))
    there_unsettled (HasUnsettledPart.item t at item is has other) =
        false_unless (settled_conjuncts && settled_templates)
        (λ h. other (item_told item (all_each (is_settled_item metas program rel meta known) (out-Tmpl t).items
        (all_each (is_settled_template metas program rel meta known) templates (and_second settled_conjuncts settled_templates h) (t, at) (is_template program rel templates all t at is)) item has)))

    pub unsettled_told : (b : Bool) → b ≡ (settled_conjuncts && settled_templates) → (b ≡ false) ↔ HasUnsettledPart metas program rel
    unsettled_told b is = (λ h. unsettled_there (sym is ∙ h), λ u. is ∙ there_unsettled u)

    pub settled_told : (m : ℕ) → m ≡ target_meta program → (b : Bool)
        → b ≡ (list_all (is_settled_conjunct rel known) rel.wheres && list_all (is_settled_template metas program rel m known) templates) → IsTrue (not b) ↔ HasUnsettledPart metas program rel
    settled_told m same b is =
        let told = unsettled_told b (is ∙ ap (λ (n : ℕ). list_all (is_settled_conjunct rel known) rel.wheres && list_all (is_settled_template metas program rel n known) templates) same) in
        (λ h. told.0 (not_true b h), λ u. not_false b (told.1 u))
