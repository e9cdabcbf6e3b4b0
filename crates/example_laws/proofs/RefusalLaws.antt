-- Over the models of the example nothing is refused but for want of memory.
use Rattle.std.proofs.Common.{◌≡◌, ◌≤◌, ℕ, List, refl, sym, subst, arith}
use Rattle.std.specs.Prelude.{Contains}
use Rattle.mof_metamodel.specs.declared.desc.MetaDesc.{MetaDesc}
use Rattle.object_tables.specs.declared.limit.TheConstants.{MAX_OBJECTS}
use Rattle.object_tables.specs.Models.{ModelData}
use Rattle.repair_semantics.specs.declared.term.Term.{Term}
use Rattle.repair_semantics.specs.declared.entry.Entry.{Entry}
use Rattle.repair_semantics.specs.declared.demand.Demand.{Demand}
use Rattle.repair_semantics.specs.EntryOrder.{AreEntries}
use Rattle.repair_semantics.specs.Demands.{demands_of, demanded_terms}
use Rattle.repair_semantics.specs.Candidates.{candidate}
use Rattle.repair_laws.specs.DemandedKeys.{IsDemandedByKey}
use Rattle.repair_laws.proofs.EnforcedReading.{keys_enforced}
use Rattle.entry_finding.specs.Premises.{CanBeEnforced}
use Rattle.demand_set.specs.declared.demand_error.DemandError.{DemandError}
use Rattle.demand_set.specs.declared.demand_error.DemandError.TheVariants as errors
use Rattle.demand_set.specs.DemandSets.{DemandData, IsDemandSet, IsRefusal}
use Rattle.enforce_mode.specs.Premises.{AreDemands}
use Rattle.enforce_mode.specs.Made.{IsSound}
use Rattle.enforce_mode.proofs.MadeLaws.{fresh_fewer}
use Rattle.enforce_mode.proofs.PlacingLaws.{placeable}
use Rattle.enforcement_laws.proofs.Repairing.{are_demands}
use Rattle.example_models.specs.RdbTable.{rdb_desc}
use Rattle.example_models.specs.declared.limits.TheConstants.{MAX_SOURCE_CLASSES}
use Rattle.example_program.specs.MainProgram.{main_program_data}
use Rattle.example_laws.specs.ExampleModels.{empty_target, first_models}
use Rattle.example_laws.specs.ExampleDemands.{IsExampleDemand}
use Rattle.example_laws.proofs.EntryLaws.{entries_are_example}
use Rattle.example_laws.proofs.ChainLaws.{no_cycle, no_deep, no_unmet}
use Rattle.example_laws.proofs.DemandLaws.{demands_are_example}
use Rattle.example_laws.proofs.PeaceLaws.{at_peace}
use Rattle.example_laws.proofs.TermLaws.{few_terms}
use Rattle.example_laws.proofs.EmptyLaws.{empty_is_valid}
use Rattle.example_laws.proofs.SoundLaws.{is_sound}

module _ (n seed : ℕ) (few : n ≤ MAX_SOURCE_CLASSES) where
  abbrev M : List ModelData
  M = first_models n seed

  -- ---- demands

  only_example : (entries : List Entry) → AreEntries main_program_data M entries → (d : Demand) → Contains (demands_of main_program_data M entries) d → IsExampleDemand n seed d
  only_example entries are d c = demands_are_example n seed entries (λ e there. entries_are_example n seed e (are.only e there)) d c

  pub only_memory : (e : DemandError) → IsRefusal main_program_data (first_models n seed) e → e ≡ errors.NoMemory
  only_memory errors.NoMemory refusal = refl
  only_memory (errors.Cycle chain) refusal = absurd (no_cycle n seed chain refusal)
  only_memory (errors.Deep chain) refusal = absurd (no_deep n seed chain refusal)
  only_memory (errors.Unmet entry place) refusal = absurd (no_unmet n seed entry refusal.0)
  only_memory (errors.Conflict clash) refusal =
      let c = refusal.clash_is in
      absurd (at_peace n seed few (demands_of main_program_data M refusal.entries) (only_example refusal.entries refusal.are) c.first c.second c.c c.d c.conflict)

  -- ---- the model that is made

  sound_by : (d : DemandData) → AreDemands main_program_data empty_target d → ((x : Demand) → Contains d.list x → IsExampleDemand n seed x)
      → IsSound (candidate main_program_data empty_target d.list)
  sound_by d are only =
      let terms = few_terms n seed d.list only few in
      let fewer = fresh_fewer main_program_data empty_target (demanded_terms d.list) in
      let most : MAX_OBJECTS ≡ 200_000 = refl in
      let keys : (t : Term) → Contains (demanded_terms d.list) t → IsDemandedByKey main_program_data rdb_desc d.list t =
      subst (λ (ds : List Demand). (t : Term) → Contains (demanded_terms ds) t → IsDemandedByKey main_program_data rdb_desc ds t) (sym are.are.list)
      (keys_enforced are.metas main_program_data are.sources empty_target are.are.entries are.are.enforced) in
      is_sound n seed few d.list only (placeable main_program_data empty_target d are empty_is_valid (omega (arith, terms, fewer))) keys (omega (arith, terms, fewer, most))

  pub sound_target : (metas : List MetaDesc) (d : DemandData) → CanBeEnforced metas main_program_data (first_models n seed) → IsDemandSet main_program_data (first_models n seed) d
      → IsSound (candidate main_program_data empty_target d.list)
  sound_target metas d can are =
      sound_by d (are_demands metas main_program_data M empty_target d can refl are)
      (subst (λ (ds : List Demand). (x : Demand) → Contains ds x → IsExampleDemand n seed x) (sym are.list) (only_example d.entries are.entries))
