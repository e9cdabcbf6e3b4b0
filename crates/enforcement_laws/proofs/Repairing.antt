-- What is demanded of a target of a program that can be enforced can be made of it, and where what is made is valid, the target can be repaired.
use Rattle.std.specs.Prelude.{◌≡◌, ◌≤◌, ◌+◌, ◌^◌, ℕ, false, List, length, Some, slice_get}
use Rattle.std.proofs.Common.{ap, sym, ◌∙◌, subst, arith}
use Rattle.mof_metamodel.specs.declared.desc.MetaDesc.{MetaDesc}
use Rattle.object_tables.specs.Models.{ModelData}
use Rattle.object_tables.specs.Sameness.{IsSame}
use Rattle.object_tables.specs.Validity.{Valid}
use Rattle.qv_syntax.specs.declared.program.Program.{Program}
use Rattle.repair_semantics.specs.declared.term.Term.{Term}
use Rattle.repair_semantics.specs.declared.entry.Entry.{Entry}
use Rattle.repair_semantics.specs.declared.demand.Demand.{Demand}
use Rattle.repair_semantics.specs.EntryOrder.{AreEntries}
use Rattle.repair_semantics.specs.Demands.{demands_of, demanded_terms}
use Rattle.repair_semantics.specs.Conflicts.{AreAtPeace}
use Rattle.repair_semantics.specs.Deletions.{managed_classes, images_of, is_unneeded}
use Rattle.repair_semantics.specs.CandidateObjects.{fresh_terms}
use Rattle.repair_semantics.specs.Candidates.{candidate}
use Rattle.repair_semantics.proofs.EntryOrderLaws.{entries_once}
use Rattle.reading_laws.proofs.EntryTime.{all_met}
use Rattle.repair_laws.specs.Enforced.{AreEnforced}
use Rattle.repair_laws.specs.Repairs.{CanBeRepaired, with_target, repaired_models}
use Rattle.repair_laws.proofs.EnforcedReading.{over_described}
use Rattle.entry_finding.specs.Premises.{CanBeEnforced}
use Rattle.demand_set.specs.DemandSets.{DemandData, IsDemandSet}
use Rattle.enforce_mode.specs.Premises.{AreDemands}
use Rattle.enforce_mode.specs.Made.{IsSound}
use Rattle.enforcement_laws.proofs.FreshObjects.{few_fresh, none_fresh}
use Rattle.enforcement_laws.proofs.Replacing.{metamodel_at, target_there, target_again, enforced_moved, demands_moved}

-- ---- one set of demands

abbrev data_of : List Entry → List Demand → List Term → DemandData
data_of entries list terms = record { entries = entries; list = list; terms = terms }

pub one_set : (program : Program) (models : List ModelData) (d e : DemandData) → IsDemandSet program models d → IsDemandSet program models e → d ≡ e
one_set program models d e one other =
    let entries : d.entries ≡ e.entries = entries_once program models d.entries e.entries one.entries other.entries in
    let list : d.list ≡ e.list = one.list ∙ ap (demands_of program models) entries ∙ sym other.list in
    let terms : d.terms ≡ e.terms = one.terms ∙ ap demanded_terms list ∙ sym other.terms in
    ap (λ x. data_of x d.list d.terms) entries ∙ ap (λ x. data_of e.entries x d.terms) list ∙ ap (λ x. data_of e.entries e.list x) terms

module _ (metas : List MetaDesc) (program : Program) (models : List ModelData) (m : ModelData) (d : DemandData) (can : CanBeEnforced metas program models)
    (target : slice_get models program.target ≡ Some m) (are : IsDemandSet program models d)
  where
    peaceful : AreAtPeace m.meta d.list
    peaceful = subst (λ (x : MetaDesc). AreAtPeace x d.list) (metamodel_at program models m target) are.peaceful

    enforced : AreEnforced metas program models m d.entries
    enforced =
        let described = over_described metas program models m can.evaluable target in
        record {
          evaluable = can.evaluable;
          enforceable = can.enforceable;
          metamodel = metamodel_at program models m target;
          described = described.0;
          well = described.1;
          are = are.entries;
          met = all_met metas program can.evaluable.well models are.acyclic are.short are.met;
        }

    pub are_demands : AreDemands program m d
    are_demands = record {
      metas = metas;
      sources = models;
      are = record { entries = d.entries; enforced = enforced; list = are.list; terms = are.terms; peaceful = peaceful };
    }

    -- a target of which a valid model is made can be repaired
    pub repair_by : Valid m → Valid (candidate program m d.list) → length (fresh_terms program m (demanded_terms d.list)) + length m.objects ≤ 2 ^ 64
        → CanBeRepaired metas program models m d.entries
    repair_by valid repaired few = record {
      evaluable = can.evaluable;
      enforceable = can.enforceable;
      target = target;
      valid = valid;
      made = are.entries;
      acyclic = are.acyclic;
      short = are.short;
      met = are.met;
      peaceful = subst (AreAtPeace m.meta) are.list peaceful;
      repaired = subst (λ (ds : List Demand). Valid (candidate program m ds)) are.list repaired;
      few = subst (λ (ds : List Demand). length (fresh_terms program m (demanded_terms ds)) + length m.objects ≤ 2 ^ 64) are.list few;
    }

    pub repair : Valid m → length m.objects ≤ 3_999_000_000 → IsSound (candidate program m d.list) → CanBeRepaired metas program models m d.entries
    repair valid room sound = repair_by valid sound.valid (few_fresh program m d.list sound.few room)

    -- what holds of the model by its entries, of the model by its demands
    pub of_demands : (P : ModelData → Type 0) → P (candidate program m (demands_of program models d.entries)) → P (candidate program m d.list)
    of_demands P holds = subst (λ (ds : List Demand). P (candidate program m ds)) (sym are.list) holds

    -- what is needed by the demands is needed by the entries
    pub needed_by : ((o : ℕ) → is_unneeded m (managed_classes program) (images_of program m d.terms) o ≡ false)
        → (o : ℕ) → is_unneeded m (managed_classes program) (images_of program m (demanded_terms (demands_of program models d.entries))) o ≡ false
    needed_by needed o =
        sym (ap (λ (ts : List Term). is_unneeded m (managed_classes program) (images_of program m ts) o) (are.terms ∙ ap demanded_terms are.list)) ∙ needed o

    -- That of each valid model that is the same as what is made, with the list of all entries over it, the same is made again.
    abbrev pub StaysByEntries : Type 0
    StaysByEntries = (n : ModelData) → IsSame (candidate program m (demands_of program models d.entries)) n → Valid n → (others : List Entry)
        → AreEntries program (with_target program models n) others → candidate program n (demands_of program (with_target program models n) others) ≡ n

    -- so it is with what is demanded over it
    pub again_for : StaysByEntries → (n : ModelData) → IsSame (candidate program m d.list) n → Valid n → (again : DemandData)
        → IsDemandSet program (with_target program models n) again → candidate program n again.list ≡ n
    again_for stays n same valid again are_again =
        ap (candidate program n) are_again.list
        ∙ stays n (subst (λ (ds : List Demand). IsSame (candidate program m ds) n) are.list same) valid again.entries are_again.entries

    -- which is what was demanded before
    pub again_by : StaysByEntries → (n : ModelData) → IsSame (candidate program m d.list) n → Valid n → candidate program n d.list ≡ n
    again_by stays n same valid = again_for stays n same valid d (demands_moved program models m n target metas can same.meta d are)

-- ---- a target that is made again

module _ (metas : List MetaDesc) (program : Program) (models : List ModelData) (m : ModelData) (d : DemandData) (can : CanBeEnforced metas program models)
    (target : slice_get models program.target ≡ Some m) (are : IsDemandSet program models d) (n : ModelData) (same : n.meta ≡ m.meta) (valid : Valid n)
    (room : length n.objects ≤ 3_999_000_000) (again : candidate program n d.list ≡ n)
  where
    abbrev others : List ModelData
    others = with_target program models n

    are_others : IsDemandSet program others d
    are_others = demands_moved program models m n target metas can same d are

    pub repair_again : CanBeRepaired metas program others n d.entries
    repair_again =
        let few : length (fresh_terms program n (demanded_terms d.list)) ≡ 0 = none_fresh program n d.list again room in
        repair_by metas program others n d (enforced_moved program models m n target metas can same valid.kept) (target_there program models m n target)
        are_others valid (subst Valid (sym again) valid) (omega (arith, few, room))

    -- the models with what is made of it are the models with it
    pub others_again : repaired_models program others n d.entries ≡ others
    others_again =
        ap (with_target program others) (ap (candidate program n) (sym are_others.list) ∙ again) ∙ target_again program models m n target n
