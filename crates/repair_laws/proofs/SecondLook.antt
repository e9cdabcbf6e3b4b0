-- Enforcement needs no second look: what it makes satisfies the relations; a target that satisfies them stays, where no object is unneeded; and so
-- does what enforcement made.
use Rattle.std.specs.Prelude.{◌≡◌, ◌≢◌, ◌⊎◌, ℕ, zero, suc, true, false, List, [], ◌∷◌, Option, Some, slice_get, slice_set, Contains}
use Rattle.std.specs.Option.{option_map_or}
use Rattle.std.proofs.Common.{refl, ap, sym, ◌∙◌, subst, arith, inl, inr, eqb}
use Rattle.std.proofs.lemmas.Bool.Decides.{eqb_tells}
use Rattle.mof_metamodel.specs.declared.desc.MetaDesc.{MetaDesc}
use Rattle.mof_metamodel.specs.WellMeta.{WellMeta}
use Rattle.object_tables.specs.Models.{ModelData}
use Rattle.object_tables.specs.Validity.{Valid}
use Rattle.object_tables.specs.Sameness.{IsSame}
use Rattle.object_tables.proofs.SamenessLemmas.{same_as_equal}
use Rattle.qv_syntax.specs.declared.program.Program.{Program}
use Rattle.qv_syntax.specs.WellFormed.{IsWellFormed}
use Rattle.qvtr_semantics.specs.Expressions.{setting}
use Rattle.qvtr_semantics.specs.Calls.{RelationCall}
use Rattle.qvtr_semantics.specs.Satisfaction.{Satisfied}
use Rattle.qvtr_semantics.specs.Chains.{Chain, IsCyclic, IsDeep}
use Rattle.template_match.proofs.ListLaws.{contains_left, contains_right}
use Rattle.evaluation_laws.specs.Evaluable.{IsEvaluable}
use Rattle.evaluation_laws.specs.TypedValues.{IsModelFor, AreModels}
use Rattle.source_laws.specs.Agreement.{AgreeBut}
use Rattle.source_laws.proofs.BindingLaws.{opposite}
use Rattle.enforcement_rules.specs.TargetParts.{target_desc}
use Rattle.repair_semantics.specs.declared.term.Term.{Term}
use Rattle.repair_semantics.specs.declared.entry.Entry.{Entry}
use Rattle.repair_semantics.specs.declared.demand.Demand.{Demand}
use Rattle.repair_semantics.specs.TargetItems.{no_metamodel, target_metamodel}
use Rattle.repair_semantics.specs.EntryOrder.{AreEntries}
use Rattle.repair_semantics.specs.Demands.{entry_demands, demands_from, demands_of, demanded_terms}
use Rattle.repair_semantics.specs.Images.{image}
use Rattle.repair_semantics.specs.Deletions.{managed_classes, images_of, is_unneeded}
use Rattle.repair_semantics.specs.CandidateObjects.{term_number}
use Rattle.repair_semantics.specs.Candidates.{candidate}
use Rattle.repair_semantics.proofs.EntryOrderLaws.{entries_once}
use Rattle.reading_laws.specs.Keyed.{TellsByKeys}
use Rattle.reading_laws.specs.Readings.{Numbering, IsReading, AreOver, HaveObjects, AllStand}
use Rattle.reading_laws.specs.EntryPremises.{EntriesHaveTerms, EntriesAreMet, EntriesStand}
use Rattle.reading_laws.proofs.EntryTime.{all_met}
use Rattle.reading_laws.proofs.EntryGround.{Ground}
use Rattle.reading_laws.proofs.EntryClosed.{ground, meets}
use Rattle.reading_laws.proofs.HoldEntries.{satisfied}
use Rattle.reading_laws.proofs.ChainEntries.{no_cyclic, none_deep}
use Rattle.repair_laws.specs.Closed.{AreClosed}
use Rattle.repair_laws.specs.Enforced.{AreEnforced, HaveTypedData}
use Rattle.repair_laws.specs.Repairs.{CanBeRepaired, with_target, repaired_models}
use Rattle.repair_laws.proofs.ImageLaws.{one_image_one_term}
use Rattle.repair_laws.proofs.CandidateReading.{closed}
use Rattle.repair_laws.proofs.TypedData.{typed_data}
use Rattle.repair_laws.proofs.EnforcedReading.{over_described, terms_enforced, keys_enforced, tells_enforced, all_go, enforced_reads, enforced_stand}
use Rattle.repair_laws.proofs.ImageReadings.{images_read}
use Rattle.repair_laws.proofs.TermListLaws.{standing_terms}
use Rattle.repair_laws.proofs.SameReadings.{second_changes_nothing}
use Rattle.repair_laws.proofs.SettledLaws.{satisfied_is_settled}
use Rattle.demand_sources.proofs.EntriesMoved.{entry_moved, demands_same}
use Rattle.repair_laws.proofs.EntriesRead.{entries_read}

-- ---- models with another target

set_there : {X : Type 0} (xs : List X) (i : ℕ) (x y : X) → slice_get xs i ≡ Some y → slice_get (slice_set xs i x) i ≡ Some x
set_there [] i x y is = absurd (cc)
set_there (z ∷ xs) zero x y is = refl
set_there (z ∷ xs) (suc i) x y is = set_there xs i x y is

set_elsewhere : {X : Type 0} (xs : List X) (i j : ℕ) (x : X) → j ≢ i → slice_get (slice_set xs i x) j ≡ slice_get xs j
set_elsewhere [] i j x other = refl
set_elsewhere (z ∷ xs) zero zero x other = absurd (other refl)
set_elsewhere (z ∷ xs) zero (suc j) x other = refl
set_elsewhere (z ∷ xs) (suc i) zero x other = refl
set_elsewhere (z ∷ xs) (suc i) (suc j) x other = set_elsewhere xs i j x (λ same. other (ap suc same))

one_model : (a b : ModelData) → Some a ≡ Some b → a ≡ b
one_model a b h = cc

-- the demands of an entry of a list are among all
among_all : (program : Program) (models : List ModelData) (es : List Entry) (n : ℕ) (e : Entry) → Contains es e
    → (k : ℕ) × ((d : Demand) → Contains (entry_demands program models k e) d → Contains (demands_from program models n es) d)
among_all program models [] n e (k, within, is) = absurd (omega (arith, within))
among_all program models (x ∷ es) n e (zero, within, is) = (
  n,
  λ d has. contains_left d (entry_demands program models n x) (demands_from program models (suc n) es) (subst (λ z. Contains (entry_demands program models n z) d) (sym is) has),
)
among_all program models (x ∷ es) n e (suc k, within, is) =
    let rest = among_all program models es (suc n) e (k, omega (arith, within), is) in
    (rest.0, λ d has. contains_right d (entry_demands program models n x) (demands_from program models (suc n) es) (rest.1 d has))

module _ (metas : List MetaDesc) (program : Program) (models : List ModelData) (m : ModelData) (entries : List Entry) (c : CanBeRepaired metas program models m entries) where
  abbrev demands : List Demand
  demands = demands_of program models entries

  abbrev terms : List Term
  terms = demanded_terms demands

  abbrev well : IsWellFormed metas program
  well = c.evaluable.well

  -- ---- entries

  met : EntriesAreMet program models
  met = all_met metas program well models c.acyclic c.short c.met

  metamodel : target_metamodel program models ≡ m.meta
  metamodel = ap (λ (x : Option ModelData). option_map_or (λ n. n.meta) x no_metamodel) c.target

  described : (target_desc metas program ≡ m.meta) × WellMeta m.meta
  described = over_described metas program models m c.evaluable c.target

  enforced : AreEnforced metas program models m entries
  enforced = record {
    evaluable = c.evaluable;
    enforceable = c.enforceable;
    metamodel = metamodel;
    described = described.0;
    well = described.1;
    are = c.made;
    met = met;
  }

  tells : TellsByKeys program m
  tells = tells_enforced metas program models m entries enforced

  among : EntriesHaveTerms program models m terms
  among = terms_enforced metas program models m entries enforced

  typed : HaveTypedData metas program models
  typed = typed_data metas program models c.evaluable c.enforceable

  all_closed : AreClosed program terms
  all_closed = closed program m demands c.valid c.repaired c.few tells (keys_enforced metas program models m entries enforced) (all_go metas program models m entries enforced typed)

  -- ---- a target that satisfies the relations

  over_target : AreOver metas program models models m
  over_target = record {
    enforceable = c.enforceable;
    evaluable = c.evaluable;
    over_sources = c.evaluable;
    others = λ k other. refl;
    target = c.target;
    metamodel = metamodel;
    valid = c.valid;
    tells = tells;
  }

  pub target_stays : Satisfied program models → ((o : ℕ) → is_unneeded m (managed_classes program) (images_of program m terms) o ≡ false) → candidate program m demands ≡ m
  target_stays holds needed =
      let reading : IsReading program m terms (image program m) =
      images_read program m terms needed (λ t u n ht hu it iu. one_image_one_term program m terms c.valid tells all_closed t ht u n it iu) all_closed.within in
      let base : Ground metas program models models m terms (image program m) = ground metas program models models m terms (image program m) over_target reading among met in
      satisfied_is_settled metas program models m entries c.target c.valid well c.enforceable holds (entries_read metas program models m terms (image program m) base) c.made.only needed

  pub target_is_same : Satisfied program models → ((o : ℕ) → is_unneeded m (managed_classes program) (images_of program m terms) o ≡ false) → IsSame m (candidate program m demands)
  target_is_same holds needed = same_as_equal m (candidate program m demands) (target_stays holds needed)

  -- ---- the model that is made

  abbrev made : ModelData
  made = candidate program m demands

  abbrev number : Numbering
  number = term_number program m terms

  abbrev repaired : List ModelData
  repaired = repaired_models program models m entries

  reading_made : IsReading program made terms number
  reading_made = enforced_reads metas program models m entries enforced typed c.valid c.repaired c.few

  stand_made : AllStand program made number demands
  stand_made = enforced_stand metas program models m entries enforced typed c.valid c.repaired c.few

  tells_made : TellsByKeys program made
  tells_made = record { keyed = tells.keyed; single = tells.single; apart = tells.apart }

  models_made : AreModels metas (setting program repaired)
  models_made k slot model at there = by (eqb_tells k program.target)
    where
      by : ((eqb k program.target ≡ true) × (k ≡ program.target)) ⊎ ((eqb k program.target ≡ false) × (k ≢ program.target)) → IsModelFor metas slot model
      by (inr other) = c.evaluable.kept k slot model at (sym (set_elsewhere models program.target k made other.1) ∙ there)
      by (inl same) =
          let old = c.evaluable.kept k slot m at (ap (slice_get models) same.1 ∙ c.target) in
          let one : made ≡ model = one_model made model (sym (set_there models program.target made m c.target) ∙ ap (slice_get repaired) (sym same.1) ∙ there) in
          subst (IsModelFor metas slot) one (record { kept = c.repaired.kept; described = old.described })

  over_made : AreOver metas program models repaired made
  over_made = record {
    enforceable = c.enforceable;
    evaluable = record { well = well; texts = c.evaluable.texts; kept = models_made };
    over_sources = c.evaluable;
    others = λ k other. sym (set_elsewhere models program.target k made other);
    target = set_there models program.target made m c.target;
    metamodel = metamodel;
    valid = c.repaired;
    tells = tells_made;
  }

  among_made : EntriesHaveTerms program models made terms
  among_made e rel is found = let h = among e rel is found in record { among = h.among; typed = h.typed }

  have_made : HaveObjects terms number
  have_made = standing_terms program made number demands stand_made

  entries_stand : EntriesStand program models made number
  entries_stand e is = let k = among_all program models entries 0 e (c.made.all e is) in (k.0, λ d has. stand_made d (k.1 d has))

  base_made : Ground metas program models repaired made terms number
  base_made = ground metas program models repaired made terms number over_made reading_made among_made met

  pub made_satisfies : Satisfied program repaired
  made_satisfies =
      satisfied metas program models repaired made terms number base_made have_made
      (meets metas program models repaired made terms number over_made reading_made among_made met entries_stand) c.acyclic c.short

  pub no_bad_chain : (chain : List RelationCall) → Chain program repaired chain → (¬ IsCyclic chain) × (¬ IsDeep chain)
  no_bad_chain chain reached = (
    no_cyclic metas program models repaired made terms number base_made c.acyclic c.short chain reached,
    none_deep metas program models repaired made terms number base_made c.acyclic c.short chain reached,
  )

  -- ---- the second time

  pub made_stays : (n : ModelData) → IsSame made n → Valid n → candidate program n demands ≡ n
  made_stays n same valid =
      second_changes_nothing program made n demands number same c.repaired valid tells_made reading_made (λ t has. all_closed.managed t has) stand_made

  module _ (n : ModelData) (same : IsSame made n) (valid : Valid n) where
    abbrev others : List ModelData
    others = with_target program models n

    meta_same : n.meta ≡ m.meta
    meta_same = same.meta

    models_others : AreModels metas (setting program others)
    models_others k slot model at there = by (eqb_tells k program.target)
      where
        by : ((eqb k program.target ≡ true) × (k ≡ program.target)) ⊎ ((eqb k program.target ≡ false) × (k ≢ program.target)) → IsModelFor metas slot model
        by (inr other) = c.evaluable.kept k slot model at (sym (set_elsewhere models program.target k n other.1) ∙ there)
        by (inl here) =
            let old = c.evaluable.kept k slot m at (ap (slice_get models) here.1 ∙ c.target) in
            let one : n ≡ model = one_model n model (sym (set_there models program.target n m c.target) ∙ ap (slice_get others) (sym here.1) ∙ there) in
            subst (IsModelFor metas slot) one (record { kept = valid.kept; described = old.described ∙ ap (λ (x : MetaDesc). Some x) (sym meta_same) })

    evaluable_others : IsEvaluable metas program others
    evaluable_others = record { well = well; texts = c.evaluable.texts; kept = models_others }

    agree : AgreeBut program.target models others
    agree k other = sym (set_elsewhere models program.target k n other)

    metas_same : target_metamodel program models ≡ target_metamodel program others
    metas_same =
        metamodel ∙ sym meta_same ∙ sym (ap (λ (x : Option ModelData). option_map_or (λ y. y.meta) x no_metamodel) (set_there models program.target n m c.target))

    -- the entries are the same over the other target
    entries_others : AreEntries program others entries
    entries_others = record {
      sorted = c.made.sorted;
      only = λ e has. entry_moved metas program models others c.evaluable c.enforceable agree metas_same e (c.made.only e has);
      all = λ e is. c.made.all e (entry_moved metas program others models evaluable_others c.enforceable (opposite program.target models others agree) (sym metas_same) e is);
    }

    made_stays_by : (asked : List Entry) → asked ≡ entries → candidate program n (demands_of program others asked) ≡ n
    made_stays_by asked is =
        let one : demands_of program others asked ≡ demands =
        ap (demands_of program others) is ∙ sym (demands_same metas program models others c.evaluable c.enforceable agree metas_same entries c.made.only) in
        ap (candidate program n) one ∙ made_stays n same valid

    -- of all entries there is one list
    pub made_stays_for : (asked : List Entry) → AreEntries program others asked → candidate program n (demands_of program others asked) ≡ n
    made_stays_for asked are = made_stays_by asked (entries_once program others asked entries are entries_others)
