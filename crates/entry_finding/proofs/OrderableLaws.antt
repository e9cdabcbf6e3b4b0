-- What each relation of the direction makes can be computed in an order: its equations have no cycle, nor have the variables in key values.
use Rattle.std.specs.Prelude.{◌≡◌, ◌<◌, ℕ, true, List, Some, slice_get, Contains}
use Rattle.std.proofs.Common.{sym, ap, subst, ◌∙◌}
use Rattle.std.proofs.lemmas.Option.{get_or_from_slice_get, same_Some}
use Rattle.std.proofs.lemmas.List.Elements.{All-contains_itself}
use Rattle.mof_metamodel.specs.declared.desc.MetaDesc.{MetaDesc}
use Rattle.mof_metamodel.specs.declared.desc.PropId.{PropId}
use Rattle.mof_metamodel.specs.Metamodels.{prop_count}
use Rattle.mof_metamodel.proofs.PropLemmas.{prop_known}
use Rattle.object_tables.specs.Models.{ModelData}
use Rattle.qv_syntax.specs.declared.query.ModelSlot.{ModelSlot}
use Rattle.qv_syntax.specs.declared.program.Program.{Program}
use Rattle.qv_syntax.specs.declared.program.Rel.{Rel}
use Rattle.qv_syntax.specs.declared.program.Tmpl.{out-Tmpl}
use Rattle.qv_syntax.specs.Relations.{IsTemplateOf}
use Rattle.ocl_environments.specs.Environments.{meta_at, no_meta}
use Rattle.enforcement_rules.specs.TargetParts.{target_desc, no_slot}
use Rattle.repair_semantics.specs.TargetItems.{TargetItem, target_metamodel, target_items}
use Rattle.reading_laws.proofs.MeetingPlaces.{target_item_stands}
use Rattle.entry_making.specs.Orderable.{IsOrderable}
use Rattle.entry_finding.specs.Premises.{CanBeEnforced}
use Rattle.entry_finding.proofs.RelationLaws.{meta_is, ranges, domain_of}
use Rattle.entry_finding.proofs.EquationOrder.{equations_end}
use Rattle.entry_finding.proofs.KeyOrder.{keys_end}

module _ (metas : List MetaDesc) (program : Program) (models : List ModelData) (p : CanBeEnforced metas program models)
    (place : ℕ) (rel : Rel) (found : slice_get program.rels place ≡ Some rel) (direction : rel.in_direction ≡ true) where
  prop_below : (i : TargetItem) → Contains (target_items program rel) i → i.prop.0 < prop_count (target_metamodel program models)
  prop_below i there =
      let s = target_item_stands program rel i there in
      let of : IsTemplateOf s.dom s.stands.template = record { root = s.root; has = s.is.has; nested = s.stands.nested } in
      let d = domain_of metas program models p place rel found s.dom s.is.of s.stands.template of in
      let t = (ranges metas program models p place rel found).templates s.dom d s.stands.template of in
      let model : d.model ≡ program.target = same_Some d.model program.target (sym d.of_model ∙ s.is.of.target) in
      let slot : slice_get program.models program.target ≡ Some d.slot = ap (slice_get program.models) (sym model) ∙ d.found in
      let meta : target_desc metas program ≡ t.class.meta
      = ap (λ (x : ModelSlot). meta_at metas x.meta) (get_or_from_slice_get program.models program.target d.slot no_slot slot) ∙ get_or_from_slice_get metas d.slot.meta t.class.meta no_meta t.class.found in
      let known = prop_known t.class.meta (out-Tmpl s.stands.template).class.0 s.stands.item.prop.0 (t.items s.stands.item s.stands.has) in
      subst (λ (q : PropId). q.0 < prop_count (target_metamodel program models)) s.stands.prop
      (subst (λ (m : MetaDesc). s.stands.item.prop.0 < prop_count m) (sym meta ∙ meta_is metas program models p) known)

  -- the relation can be ordered
  pub is_orderable : IsOrderable program (target_metamodel program models) rel
  is_orderable = record {
    props = λ k d lt. prop_below _ (All-contains_itself (target_items program rel) k d lt);
    equations = equations_end metas program models p place rel found direction;
    keys = keys_end metas program models p place rel found direction;
  }
