-- What the files of a case give: models of the metamodels of their slots.
use Rattle.std.specs.Prelude.{◌≡◌, ◌⊎◌, ◌<◌, ◌^◌, ℕ, List, [], ◌∷◌, ◌++◌, length, All, Some, slice_get}
use Rattle.std.proofs.Common.{sym, ap, subst, ◌∙◌, inl, inr}
use Rattle.std.proofs.lemmas.Option.{same_Some}
use Rattle.std.proofs.lemmas.List.Elements.{All-contains}
use Rattle.mof_metamodel.specs.declared.desc.MetaDesc.{MetaDesc}
use Rattle.object_tables.specs.Models.{ModelData}
use Rattle.qv_syntax.specs.declared.query.ModelSlot.{ModelSlot}
use Rattle.model_assembly.specs.declared.fault.Externs.TheVariants as externs
use Rattle.model_files.specs.declared.file_form.Form.{Form}
use Rattle.model_files.specs.declared.file_form.Form.TheVariants as forms
use Rattle.model_files.specs.Files.{SpellsIn}
use Rattle.evaluation_laws.specs.TypedValues.{IsModelFor, AreModels}
use Rattle.qvtr_types.proofs.ArgumentLaws.{slice_get_push_cases}
use Rattle.qv_syntax.specs.declared.program.Program.{Program}
use Rattle.evaluation_laws.specs.Evaluable.{IsEvaluable}
use Rattle.enforcement_rules.specs.Rules.{IsEnforceable}
use Rattle.entry_finding.specs.Premises.{CanBeEnforced}
use Rattle.repair_cases.specs.Small.{IsSmall}

-- the model of a file is of the metamodel by which it is read
pub file_meta : (meta : MetaDesc) (form : Form) (bytes : List ℕ) (m : ModelData) → SpellsIn meta externs.None bytes form m → m.meta ≡ meta
file_meta meta forms.Xmi bytes m s = s.model.content.meta
file_meta meta forms.Json bytes m s = s.2.model.content.meta

-- one model more, for the slot behind those that have theirs
pub model_more : (metas : List MetaDesc) (slots : List ModelSlot) (models : List ModelData) (slot : ModelSlot) (m : ModelData) → slice_get slots (length models) ≡ Some slot → IsModelFor metas slot m
    → AreModels metas (record { slots = slots; models = models }) → AreModels metas (record { slots = slots; models = models ++ m ∷ [] })
model_more metas slots models slot m at is are number other model placed found = by (slice_get_push_cases models m number model found)
  where
    by : (slice_get models number ≡ Some model) ⊎ ((number ≡ length models) × (m ≡ model)) → IsModelFor metas other model
    by (inl before) = are number other model placed before
    by (inr last) =
        let same : slot ≡ other = same_Some slot other (sym at ∙ ap (slice_get slots) (sym last.0) ∙ placed) in
        subst (IsModelFor metas other) last.1 (subst (λ (s : ModelSlot). IsModelFor metas s m) same is)

-- a program that can be enforced over models of its slots, with relations that are small
pub can_be_enforced : (metas : List MetaDesc) (program : Program) (models : List ModelData) → IsEvaluable metas program models → IsEnforceable metas program → program.target < length models
    → length program.rels < 2 ^ 32 → All IsSmall program.rels → CanBeEnforced metas program models
can_be_enforced metas program models evaluable enforceable target rels small = record {
  evaluable = evaluable;
  enforceable = enforceable;
  target = target;
  rels = rels;
  vars = λ rel has. (All-contains IsSmall program.rels rel small has).0;
  wheres = λ rel has. (All-contains IsSmall program.rels rel small has).1;
}
