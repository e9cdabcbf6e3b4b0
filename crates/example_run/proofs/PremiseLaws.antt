-- The example's transformation can be enforced over its models.
use Rattle.std.proofs.Common.{◌≡◌, ◌<◌, ◌^◌, ℕ, zero, suc, length, refl, sym, ap, ◌∙◌, subst, arith}
use Rattle.std.specs.Prelude.{codes, Some, slice_get}
use Rattle.std.proofs.lemmas.Option.{same_Some, none-some}
use Rattle.std.proofs.lemmas.List.Elements.{All-contains}
use Rattle.object_tables.specs.Models.{ModelData}
use Rattle.object_tables.specs.Kept.{Kept}
use Rattle.object_tables.specs.Validity.{Valid}
use Rattle.qv_syntax.specs.declared.query.ModelSlot.{ModelSlot}
use Rattle.qv_syntax.specs.declared.program.Rel.{Rel}
use Rattle.qvtr_semantics.specs.Expressions.{setting}
use Rattle.evaluation_laws.specs.TypedValues.{IsModelFor, AreModels}
use Rattle.entry_finding.specs.Premises.{CanBeEnforced}
use Rattle.example_models.specs.Source.{source_data}
use Rattle.example_program.specs.MainProgram.{main_program_data}
use Rattle.example_run.specs.Repaired.{IsReadable}
use Rattle.example_laws.specs.ExampleModels.{empty_target, first_models}
use Rattle.example_laws.proofs.EmptyLaws.{empty_is_valid}
use Rattle.example_run.specs.Examples.{example_metas, IsGoodProgram}
use Rattle.example_run.proofs.EmptyLaws.{empty_is_readable}

module _ (classes seed : ℕ) (valid : Valid (source_data classes seed)) where
  -- a model of the metamodel of the slot
  model_for : (slot there : ModelSlot) (model m : ModelData) → there ≡ slot → m ≡ model → Kept m → slice_get example_metas there.meta ≡ Some m.meta → IsModelFor example_metas slot model
  model_for slot there model m s e kept described = record {
    kept = subst Kept e kept;
    described = ap (λ (x : ModelSlot). slice_get example_metas x.meta) (sym s) ∙ described ∙ ap (λ (x : ModelData). Some x.meta) e;
  }

  models_are : AreModels example_metas (setting main_program_data (first_models classes seed))
  models_are zero slot model at is =
      model_for slot (record { name = codes "uml"; meta = 0 }) model (source_data classes seed) (same_Some (record { name = codes "uml"; meta = 0 }) slot at) (same_Some (source_data classes seed) model is)
      valid.kept refl
  models_are (suc zero) slot model at is =
      model_for slot (record { name = codes "rdb"; meta = 1 }) model empty_target (same_Some (record { name = codes "rdb"; meta = 1 }) slot at) (same_Some empty_target model is) empty_is_valid.kept refl
  models_are (suc (suc n)) slot model at is = absurd (none-some model is)

  pub target_readable : (m : ModelData) → slice_get (first_models classes seed) main_program_data.target ≡ Some m → IsReadable m
  target_readable m is = subst IsReadable (same_Some empty_target m is) empty_is_readable

  pub can_enforce : IsGoodProgram main_program_data → CanBeEnforced example_metas main_program_data (first_models classes seed)
  can_enforce p = record {
    evaluable = record { well = p.well; texts = p.texts; kept = models_are };
    enforceable = p.enforceable;
    target = omega arith;
    rels = omega arith;
    vars = p.vars;
    wheres = λ rel has. All-contains (λ (r : Rel). length r.wheres < 2 ^ 32) main_program_data.rels rel p.wheres has;
  }
