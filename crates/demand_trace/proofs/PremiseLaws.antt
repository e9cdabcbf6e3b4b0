-- What a program that can be enforced, and a set of its demands, say of the names that a trace needs.
use Rattle.std.specs.Prelude.{◌≡◌, ◌<◌, ℕ, List, Some, slice_get, length, Contains, All}
use Rattle.std.proofs.Common.{refl, sym, ap, subst, ◌∙◌}
use Rattle.std.proofs.lemmas.List.Elements.{All-contains, All-contains_itself, All-weaker}
use Rattle.mof_metamodel.specs.declared.desc.MetaDesc.{MetaDesc}
use Rattle.mof_metamodel.specs.declared.desc.PropId.{PropId}
use Rattle.mof_metamodel.specs.Metamodels.{class_count, prop_count}
use Rattle.mof_metamodel.specs.Tables.{IsPropOf}
use Rattle.object_tables.specs.Models.{ModelData}
use Rattle.ocl_environments.specs.Environments.{meta_at}
use Rattle.qv_syntax.specs.declared.program.Program.{Program}
use Rattle.qv_syntax.specs.declared.program.Rel.{Rel}
use Rattle.qv_syntax.specs.declared.program.Key.{Key}
use Rattle.enforcement_rules.specs.TargetParts.{target_meta}
use Rattle.enforcement_rules.proofs.RangeLaws.{keys_within}
use Rattle.repair_semantics.specs.declared.demand.Demand.{Demand}
use Rattle.repair_semantics.specs.declared.entry.Entry.{Entry}
use Rattle.repair_semantics.specs.TargetItems.{TargetItem, target_items, target_metamodel, target_meta_number, key_of}
use Rattle.repair_semantics.specs.EntryOrder.{AreEntries}
use Rattle.reading_laws.proofs.EntryRoots.{entry_rooted}
use Rattle.entry_finding.specs.Premises.{CanBeEnforced}
use Rattle.entry_finding.proofs.RelationLaws.{meta_is, key_with}
use Rattle.entry_finding.proofs.OrderableLaws.{is_orderable}
use Rattle.demand_set.specs.DemandSets.{DemandData, IsDemandSet}
use Rattle.repair_laws.proofs.ManagedLaws.{numbers_agree}
use Rattle.repair_laws.proofs.EntryDemanded.{asked_by}
use Rattle.demand_trace.specs.Naming.{HasPlace}
use Rattle.demand_trace.specs.Cuts.{AreFrom}
use Rattle.demand_trace.proofs.CutLaws.{demands_in_order}

module _ (metas : List MetaDesc) (program : Program) (models : List ModelData) (p : CanBeEnforced metas program models) where
  -- ---- keys

  -- the metamodel that is found by the target's number is that of the target model
  numbered : (meta : ℕ) → meta ≡ target_meta program → meta_at metas meta ≡ target_metamodel program models
  numbered meta same = ap (meta_at metas) same ∙ meta_is metas program models p

  pub keys_placed : (key : Key) → Contains program.keys key → HasPlace (target_meta_number program) (class_count (target_metamodel program models)) key
  keys_placed key among same =
      let at : key.meta ≡ target_meta program = same ∙ sym (numbers_agree metas program p.evaluable.well) in
      subst (λ desc. key.class.0 < class_count desc) (numbered key.meta at) ((keys_within metas program p.evaluable.well key.meta key among).class refl)

  pub key_props_known : (class : ℕ) (props : List PropId) → key_of program class ≡ Some props → All (IsPropOf (target_metamodel program models)) props
  key_props_known class props is =
      let k = key_with metas program models p class props is in
      All-weaker (Contains props) (IsPropOf (target_metamodel program models))
      (λ q there. subst (λ desc. q.0 < prop_count desc) (numbered k.key.meta k.meta)
      ((keys_within metas program p.evaluable.well k.key.meta k.key k.among).props refl q (subst (λ qs. Contains qs q) (sym k.props_are) there)))
      props (All-contains_itself props)

  -- ---- demands

  module _ (d : DemandData) (set : IsDemandSet program models d) where
    prop_known : (x : Demand) → Contains d.list x → IsPropOf (target_metamodel program models) x.prop
    prop_known x there =
        let a = asked_by program models d.entries d.entries 0 x (λ e among. among) (subst (λ ds. Contains ds x) set.list there) in
        let rooted = entry_rooted metas program models p.evaluable p.enforceable a.e (set.entries.only a.e a.among) a.rel a.found in
        let props = (is_orderable metas program models p a.e.rel a.rel a.found rooted.direction).props in
        subst (IsPropOf (target_metamodel program models)) (sym a.prop)
        (All-contains (λ (i : TargetItem). i.prop.0 < prop_count (target_metamodel program models)) (target_items program a.rel) a.item props a.there)

    pub props_known : All (λ (x : Demand). IsPropOf (target_metamodel program models) x.prop) d.list
    props_known =
        All-weaker (Contains d.list) (λ (x : Demand). IsPropOf (target_metamodel program models) x.prop) prop_known d.list (All-contains_itself d.list)

    pub list_in_order : AreFrom 0 d.list
    list_in_order = subst (AreFrom 0) (sym set.list) (demands_in_order program models d.entries)
