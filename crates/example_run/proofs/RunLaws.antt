-- From the first enforcement of an example to its outcome.
use Rattle.std.proofs.Common.{◌≡◌, ℕ, true, List, refl, sym, ap, ◌∙◌, subst}
use Rattle.std.specs.Prelude.{Some, slice_get}
use Rattle.std.proofs.lemmas.Option.{same_Some}
use Rattle.object_tables.specs.Models.{ModelData}
use Rattle.object_tables.specs.Validity.{Valid}
use Rattle.qv_syntax.specs.declared.program.Program.{Program}
use Rattle.repair_semantics.specs.declared.report.Report.{Report}
use Rattle.repair_semantics.specs.Candidates.{candidate}
use Rattle.enforce_mode.specs.Made.{IsSound}
use Rattle.entry_finding.specs.Premises.{CanBeEnforced}
use Rattle.demand_set.specs.declared.demand_error.DemandError.{DemandError}
use Rattle.demand_set.specs.declared.demand_error.DemandError.TheVariants as demands
use Rattle.demand_set.specs.DemandSets.{DemandData, IsDemandSet, IsRefusal}
use Rattle.example_models.specs.Source.{source_data}
use Rattle.example_program.specs.MainProgram.{main_program_data}
use Rattle.example_run.specs.declared.outcome.Outcome.{Outcome}
use Rattle.example_run.specs.Repaired.{IsReadable, IsUnrefused, IsRepaired, IsAfter}
use Rattle.example_laws.specs.ExampleModels.{empty_target, first_models}
use Rattle.example_run.specs.Examples.{example_metas, IsGoodProgram, IsOutcome}
use Rattle.example_run.proofs.EmptyLaws.{made_is_readable}
use Rattle.example_run.proofs.PremiseLaws.{can_enforce, target_readable}
use Rattle.example_run.proofs.SecondLaws.{made_there}

module _ (classes seed : ℕ) (valid : Valid (source_data classes seed)) (good : IsGoodProgram main_program_data) where
  -- ---- of the program and the models themselves

  module _ (later : List ModelData) (report : Report) (r : IsRepaired main_program_data (first_models classes seed) later report) where
    abbrev after_there : IsAfter main_program_data later
    after_there = record {
      metas = example_metas;
      before = first_models classes seed;
      report = report;
      can = can_enforce classes seed valid good;
      readable = target_readable classes seed valid;
      repaired = r;
    }

    -- what was made can be enforced on again
    made_fine : (target : ModelData) → empty_target ≡ target → IsSound (candidate main_program_data target r.demands.list) → IsReadable (candidate main_program_data target r.demands.list)
    made_fine target is sound =
        subst (λ (m : ModelData). IsReadable (candidate main_program_data m r.demands.list)) is
        (made_is_readable main_program_data r.demands.list (subst (λ (m : ModelData). IsSound (candidate main_program_data m r.demands.list)) (sym is) sound))

    later_readable : (m : ModelData) → slice_get later main_program_data.target ≡ Some m → IsReadable m
    later_readable m is =
        subst IsReadable (same_Some (candidate main_program_data r.target r.demands.list) m (sym (made_there main_program_data later after_there) ∙ is))
        (made_fine r.target (same_Some empty_target r.target r.demanded.target_is) r.sound)

    outcome_there : IsOutcome classes seed (record { created = report.created; holds = true; unchanged = true })
    outcome_there = record { created_are = record { after = later; report = report; repaired = r; created_is = refl }; holds_then = refl; unchanged_then = refl }

  -- ---- of values that are these

  module _ (program : Program) (models : List ModelData) (p : program ≡ main_program_data) (m : models ≡ first_models classes seed) where
    pub can_first : CanBeEnforced example_metas program models
    can_first =
        subst (λ (x : Program). CanBeEnforced example_metas x models) (sym p)
        (subst (λ (ms : List ModelData). CanBeEnforced example_metas main_program_data ms) (sym m) (can_enforce classes seed valid good))

    pub readable_first : (target : ModelData) → slice_get models program.target ≡ Some target → IsReadable target
    readable_first target is = target_readable classes seed valid target (ap (λ (x : Program). slice_get (first_models classes seed) x.target) (sym p) ∙ ap (λ (ms : List ModelData). slice_get ms program.target) (sym m) ∙ is)

    -- nothing is refused, where the laws of the example hold
    pub unrefused_first : ((e : DemandError) → IsRefusal main_program_data (first_models classes seed) e → e ≡ demands.NoMemory)
        → ((d : DemandData) → CanBeEnforced example_metas main_program_data (first_models classes seed) → IsDemandSet main_program_data (first_models classes seed) d
        → IsSound (candidate main_program_data empty_target d.list)) → IsUnrefused program models
    unrefused_first memory sound =
        subst (λ (x : Program). IsUnrefused x models) (sym p)
        (subst (λ (ms : List ModelData). IsUnrefused main_program_data ms) (sym m) (record {
          demanded = memory;
          sound = λ target d r.
              subst (λ (t : ModelData). IsSound (candidate main_program_data t d.list)) (same_Some empty_target target r.target_is) (sound d (can_enforce classes seed valid good) r.are);
        }))

    repaired_there : (later : List ModelData) (report : Report) → IsRepaired program models later report → IsRepaired main_program_data (first_models classes seed) later report
    repaired_there later report r =
        subst (λ (ms : List ModelData). IsRepaired main_program_data ms later report) m (subst (λ (x : Program). IsRepaired x models later report) p r)

    module _ (later : List ModelData) (report : Report) (r : IsRepaired program models later report) where
      pub after_first : IsAfter program later
      after_first = subst (λ (x : Program). IsAfter x later) (sym p) (after_there later report (repaired_there later report r))

      pub readable_later : (target : ModelData) → slice_get later program.target ≡ Some target → IsReadable target
      readable_later target is = later_readable later report (repaired_there later report r) target (ap (λ (x : Program). slice_get later x.target) (sym p) ∙ is)

      pub outcome_first : (o : Outcome) → o ≡ record { created = report.created; holds = true; unchanged = true } → IsOutcome classes seed o
      outcome_first o is = subst (IsOutcome classes seed) (sym is) (outcome_there later report (repaired_there later report r))
