-- The model that enforcement makes of the entries of a program that can be enforced is one in which their terms have objects and their demands
-- stand.
use Rattle.std.specs.Prelude.{◌≡◌, ◌≤◌, ◌+◌, ◌^◌, false, List, length, Option, None, Some, slice_get, Contains, IsTrue}
use Rattle.std.specs.Option.{option_map_or}
use Rattle.std.proofs.Common.{refl, ap, sym, ◌∙◌, subst, true≢false}
use Rattle.mof_metamodel.specs.declared.desc.MetaDesc.{MetaDesc}
use Rattle.mof_metamodel.specs.WellMeta.{WellMeta, is_name}
use Rattle.object_tables.specs.Models.{ModelData}
use Rattle.object_tables.specs.Validity.{Valid}
use Rattle.qv_syntax.specs.declared.program.Program.{Program}
use Rattle.qv_syntax.specs.declared.program.Rel.{Rel}
use Rattle.evaluation_laws.specs.Evaluable.{IsEvaluable}
use Rattle.enforcement_rules.specs.TargetParts.{target_desc}
use Rattle.ocl_environments.specs.Environments.{meta_at}
use Rattle.qv_syntax.specs.declared.query.ModelSlot.{ModelSlot}
use Rattle.source_laws.proofs.BindingLaws.{found_within}
use Rattle.repair_semantics.specs.declared.term.Term.{Term}
use Rattle.repair_semantics.specs.declared.entry.Entry.{Entry}
use Rattle.repair_semantics.specs.declared.demand.Demand.{Demand}
use Rattle.repair_semantics.specs.TargetItems.{no_metamodel}
use Rattle.repair_semantics.specs.Making.{entry_known}
use Rattle.repair_semantics.specs.Unmet.{is_unmet}
use Rattle.repair_semantics.specs.Entries.{IsEntry}
use Rattle.repair_semantics.specs.EntryOrder.{AreEntries}
use Rattle.repair_semantics.specs.Demands.{demands_of, demanded_terms}
use Rattle.repair_semantics.specs.CandidateObjects.{fresh_terms, term_number}
use Rattle.repair_semantics.specs.Candidates.{candidate}
use Rattle.reading_laws.specs.Keyed.{TellsByKeys}
use Rattle.reading_laws.specs.Readings.{IsReading, AllStand, HasTermsAmong, AreOver}
use Rattle.repair_laws.specs.DemandedKeys.{IsDemandedByKey}
use Rattle.repair_laws.specs.Enforced.{AreEnforced, HaveTypedData}
use Rattle.repair_laws.specs.Going.{GoesInto}
use Rattle.repair_laws.proofs.ManagedLaws.{meta_found, slot_at}
use Rattle.repair_laws.proofs.KeyedLaws.{tells_by_keys}
use Rattle.repair_laws.proofs.EntryDemanded.{good, terms_among, asked_entry, keys_demanded}
use Rattle.repair_laws.proofs.GoingLaws.{goes_into}
use Rattle.repair_laws.proofs.CandidateReading.{all_stand, reads}

-- a model of the target is of the metamodel that the program names for it
pub over_described : (metas : List MetaDesc) (program : Program) (models : List ModelData) (m : ModelData) → IsEvaluable metas program models → slice_get models program.target ≡ Some m
    → (target_desc metas program ≡ m.meta) × WellMeta m.meta
over_described metas program models m evaluable found =
    let slot = found_within program.models program.target evaluable.well.numbers.target in
    let r = evaluable.kept program.target slot.0 m slot.1 found in (
      ap (λ (s : ModelSlot). meta_at metas s.meta) (slot_at program.models program.target slot.0 slot.1) ∙ sym (meta_found metas slot.0.meta m.meta r.described),
      r.kept.well,
    )

-- so the entries over sources are those that are enforced over other models of the target too
pub enforced_over : (metas : List MetaDesc) (program : Program) (sources models : List ModelData) (m : ModelData) (entries : List Entry) → AreOver metas program sources models m → AreEntries program sources entries
    → ((e : Entry) (rel : Rel) → IsEntry program sources e → slice_get program.rels e.rel ≡ Some rel → is_unmet program sources rel (entry_known program sources rel e.values) ≡ false)
    → AreEnforced metas program sources m entries
enforced_over metas program sources models m entries over are met =
    let d = over_described metas program models m over.evaluable over.target in
    record {
      evaluable = over.over_sources;
      enforceable = over.enforceable;
      metamodel = over.metamodel;
      described = d.0;
      well = d.1;
      are = are;
      met = met;
    }

module _ (metas : List MetaDesc) (program : Program) (sources : List ModelData) (m : ModelData) (entries : List Entry) (all : AreEnforced metas program sources m entries) where
  abbrev demands : List Demand
  demands = demands_of program sources entries

  pub terms_enforced : (e : Entry) (rel : Rel) → IsEntry program sources e → slice_get program.rels e.rel ≡ Some rel
      → HasTermsAmong program m (demanded_terms demands) rel (entry_known program sources rel e.values).values
  terms_enforced = terms_among metas program all.evaluable.well all.enforceable sources m all.metamodel all.described entries all.are all.met

  pub keys_enforced : (t : Term) → Contains (demanded_terms demands) t → IsDemandedByKey program m.meta demands t
  keys_enforced = keys_demanded metas program all.evaluable.well all.enforceable sources m all.metamodel all.described entries all.are all.met

  pub tells_enforced : TellsByKeys program m
  tells_enforced = tells_by_keys metas program all.evaluable.well all.enforceable m all.described all.well

  -- the sources have a model of the target's metamodel at the target
  pub target_there : (before : ModelData) × (slice_get sources program.target ≡ Some before) × (before.meta ≡ m.meta)
  target_there = by (slice_get sources program.target) refl
    where
      by : (o : Option ModelData) → slice_get sources program.target ≡ o → (before : ModelData) × (slice_get sources program.target ≡ Some before) × (before.meta ≡ m.meta)
      by None none =
          let empty : no_metamodel ≡ m.meta = sym (ap (λ (x : Option ModelData). option_map_or (λ n. n.meta) x no_metamodel) none) ∙ all.metamodel in
          absurd (true≢false (sym (subst (λ (x : MetaDesc). IsTrue (is_name x.name)) (sym empty) all.well.names.metamodel)))
      by (Some before) found = (before, found, sym (ap (λ (x : Option ModelData). option_map_or (λ n. n.meta) x no_metamodel) found) ∙ all.metamodel)

  module _ (typed : HaveTypedData metas program sources) where
    pub all_go : (d : Demand) → Contains demands d → GoesInto program m d
    all_go d c =
        let (before, found, same) = target_there in
        let a = asked_entry metas program all.evaluable.well all.enforceable sources m all.metamodel all.described entries all.are all.met d c in
        let entry = all.are.only a.e a.among in
        goes_into metas program sources all.evaluable all.enforceable m before same all.described found demands d entries a entry
        (good metas program all.evaluable.well all.enforceable sources m all.metamodel all.described entries all.are all.met a.e entry a.rel a.found) (typed a.e a.rel entry a.found)

    module _ (valid : Valid m) (valid_made : Valid (candidate program m demands)) (few : length (fresh_terms program m (demanded_terms demands)) + length m.objects ≤ 2 ^ 64) where
      pub enforced_reads : IsReading program (candidate program m demands) (demanded_terms demands) (term_number program m (demanded_terms demands))
      enforced_reads = reads program m demands valid valid_made few tells_enforced keys_enforced all_go

      pub enforced_stand : AllStand program (candidate program m demands) (term_number program m (demanded_terms demands)) demands
      enforced_stand = all_stand program m demands valid valid_made few tells_enforced keys_enforced all_go
