-- The templates of the target name what is there, and so do the keys of its classes.
use Rattle.std.proofs.Common.{◌≡◌, ◌<◌, ℕ, List, Option, None, Some, sym, ap, ◌∙◌, subst, length}
use Rattle.std.specs.Prelude.{Contains, slice_get}
use Rattle.std.proofs.lemmas.Option.{same_Some, none-some, get_or_from_slice_get}
use Rattle.mof_metamodel.specs.declared.desc.MetaDesc.{MetaDesc}
use Rattle.mof_metamodel.specs.declared.desc.PropId.{PropId}
use Rattle.mof_metamodel.specs.Metamodels.{class_count, prop_count}
use Rattle.mof_metamodel.proofs.PropLemmas.{prop_known}
use Rattle.qv_syntax.specs.declared.query.ModelSlot.{ModelSlot}
use Rattle.qv_syntax.specs.declared.program.Program.{Program}
use Rattle.qv_syntax.specs.declared.program.Rel.{Rel}
use Rattle.qv_syntax.specs.declared.program.Key.{Key}
use Rattle.qv_syntax.specs.declared.program.Tmpl.{Tmpl, out-Tmpl}
use Rattle.qv_syntax.specs.declared.program.Item.{Item}
use Rattle.qv_syntax.specs.Parts.{HasItem, IsNested}
use Rattle.qv_syntax.specs.ProgramNumbers.{IsTemplateInRange, IsRelationInRange, HasNumbersInRange}
use Rattle.qv_syntax.specs.WellFormed.{IsWellFormed}
use Rattle.ocl_environments.specs.Environments.{meta_at, no_meta}
use Rattle.enforcement_rules.specs.declared.standing.Place.{Place}
use Rattle.enforcement_rules.specs.KeyTables.{IsKeyWithin}
use Rattle.enforcement_rules.specs.KeyTests.{HaveVariables}
use Rattle.enforcement_rules.specs.PatternTests.{AreSound}
use Rattle.enforcement_rules.specs.Standings.{Shown, AreTargetTemplates}
use Rattle.enforcement_rules.specs.TargetParts.{Stands, IsTargetTemplate, no_slot, target_meta}
use Rattle.enforcement_rules.specs.Tasks.{IsRelationOf}
use Rattle.enforcement_rules.proofs.ListLaws.{within_some, some_among}
use Rattle.enforcement_rules.proofs.SettledLaws.{template_is}
use Rattle.enforcement_rules.proofs.StandingLaws.{stands_nested}

-- the metamodel of a number is the one that is found
meta_is : (metas : List MetaDesc) (m : ℕ) (desc : MetaDesc) → slice_get metas m ≡ Some desc → desc ≡ meta_at metas m
meta_is metas m desc found = sym (get_or_from_slice_get metas m desc no_meta found)

-- ---- places

place_known : (desc : MetaDesc) (t : Tmpl) (begin : Option Place) (inner : Tmpl) (at : Option Place) → Stands t begin inner at
    → ((u : Tmpl) → IsNested t u → (item : Item) → HasItem u item → item.prop.0 < prop_count desc) → ((place : Place) → begin ≡ Some place → place.prop.0 < prop_count desc)
    → (place : Place) → at ≡ Some place → place.prop.0 < prop_count desc
place_known desc t begin inner at (Stands.whole _ _) known first = first
place_known desc t begin inner at (Stands.inside _ _ prop part _ _ has rest) known first =
    place_known desc part (Some (record { parent = (out-Tmpl t).var; prop = prop })) inner at rest
    (λ u nested. known u (IsNested.inside t prop part u has nested))
    (λ place is. subst (λ (p : PropId). p.0 < prop_count desc) (ap (λ (q : Place). q.prop) (same_Some (record { parent = (out-Tmpl t).var; prop = prop }) place is)) (known t (IsNested.whole t) _ has))

-- ---- the templates of the target

module _ (metas : List MetaDesc) (program : Program) (numbers : HasNumbersInRange metas program) (rel : Rel) (range : IsRelationInRange metas program rel)
    (templates : List Shown) (all : AreTargetTemplates program rel templates) where
  slot : (s : ModelSlot) × (slice_get program.models program.target ≡ Some s)
  slot = within_some program.models program.target numbers.target

  slot_meta : slot.0.meta ≡ target_meta program
  slot_meta = sym (ap (λ (s : ModelSlot). s.meta) (get_or_from_slice_get program.models program.target slot.0 no_slot slot.1))

  abbrev desc : MetaDesc
  desc = meta_at metas (target_meta program)

  nested_in : (s : Shown) (i : IsTargetTemplate program rel s.0 s.1) (u : Tmpl) → IsNested i.root u → IsTemplateInRange metas rel slot.0.meta u
  nested_in s i u nested =
      range.templates i.dom (record { is = i.of.is; model = program.target; of_model = i.of.target; slot = slot.0; found = slot.1 }) u (record { root = i.root; has = i.has; nested = nested })

  class_meta : (u : Tmpl) (r : IsTemplateInRange metas rel slot.0.meta u) → r.class.meta ≡ desc
  class_meta u r = meta_is metas slot.0.meta r.class.meta r.class.found ∙ ap (meta_at metas) slot_meta

  item_known : (s : Shown) (i : IsTargetTemplate program rel s.0 s.1) (u : Tmpl) → IsNested i.root u → (item : Item) → HasItem u item → item.prop.0 < prop_count desc
  item_known s i u nested item has =
      let r = nested_in s i u nested in
      subst (λ (d : MetaDesc). item.prop.0 < prop_count d) (class_meta u r) (prop_known r.class.meta (out-Tmpl u).class.0 item.prop.0 (r.items item has))

  sound : AreSound desc templates
  sound s among =
      let i = template_is program rel templates all s among in
      let nested = stands_nested i.root None s.0 s.1 i.stands in
      let r = nested_in s i s.0 nested in
      record {
        class = subst (λ (d : MetaDesc). (out-Tmpl s.0).class.0 < class_count d) (class_meta s.0 r) r.class.within;
        items = item_known s i s.0 nested;
        place = place_known desc i.root None s.0 s.1 i.stands (item_known s i) (λ place is. absurd (none-some place is));
      }

  pub sound_of : (m : ℕ) → m ≡ target_meta program → AreSound (meta_at metas m) templates
  sound_of m same = subst (λ (n : ℕ). AreSound (meta_at metas n) templates) (sym same) sound

  pub have_variables : HaveVariables rel templates
  have_variables s among =
      let i = template_is program rel templates all s among in
      (nested_in s i s.0 (stands_nested i.root None s.0 s.1 i.stands)).var

-- ---- the program

module _ (metas : List MetaDesc) (program : Program) (formed : IsWellFormed metas program) where
  pub meta_within : (m : ℕ) → m ≡ target_meta program → m < length metas
  meta_within m same =
      let s = within_some program.models program.target formed.numbers.target in
      let at : s.0.meta ≡ target_meta program = sym (ap (λ (x : ModelSlot). x.meta) (get_or_from_slice_get program.models program.target s.0 no_slot s.1)) in
      subst (λ (n : ℕ). n < length metas) (at ∙ sym same) (formed.numbers.slots s.0 (some_among program.models program.target s.0 s.1))

  pub keys_within : (m : ℕ) (key : Key) → Contains program.keys key → IsKeyWithin (meta_at metas m) m (class_count (meta_at metas m)) key
  keys_within m key among =
      let k = formed.keys.keys key among in
      record {
        class = λ same. subst (λ (d : MetaDesc). key.class.0 < class_count d) (meta_is metas key.meta k.class.meta k.class.found ∙ ap (meta_at metas) same) k.class.within;
        props = λ same p has. subst (λ (d : MetaDesc). p.0 < prop_count d) (meta_is metas key.meta k.class.meta k.class.found ∙ ap (meta_at metas) same)
            (prop_known k.class.meta key.class.0 p.0 (k.own p has));
      }

  pub relation_of : (k : ℕ) (rel : Rel) → slice_get program.rels k ≡ Some rel → IsRelationOf metas program rel
  relation_of k rel found = record { number = k; found = found; meant = formed.relations k rel found; range = formed.numbers.relations rel (some_among program.rels k rel found) }
