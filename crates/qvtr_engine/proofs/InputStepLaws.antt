-- Each step of `check`, up to its models, gives one thing or stops with one reply.
use Rattle.std.proofs.Common.{◌≡◌, ℕ, ◌<◌, true, false, cond, List, [], ◌∷◌, length, map, sym, subst, true≢false}
use Rattle.std.specs.Prelude.{◌||◌, Contains}
use Rattle.std.specs.List.{AllZip, AllByRecursion}
use Rattle.std.specs.Set.{is_member}
use Rattle.std.proofs.lemmas.List.Elements.{All-from_recursion}
use Rattle.vault_io.specs.Files.{Files}
use Rattle.mof_metamodel.specs.declared.desc.MetaDesc.{MetaDesc}
use Rattle.mof_metamodel.specs.Characters.{same_name}
use Rattle.mof_metamodel.specs.WellMeta.{WellMeta}
use Rattle.model_assembly.specs.declared.fault.Externs.TheVariants as externs
use Rattle.model_files.specs.Emof.{emof}
use Rattle.model_files.specs.Files.{IsFileError, IsMetaFileError}
use Rattle.qv_syntax.specs.declared.script.Script.{Script}
use Rattle.ocl_environments.specs.Environments.{no_meta, AreWell}
use Rattle.script_scopes.specs.Declarations.{meta_of}
use Rattle.script_scopes.specs.Environments.{metamodel_names}
use Rattle.script_scopes.specs.ScriptNames.{model_names}
use Rattle.qvtr_engine.specs.CheckWords.{Bound, CheckWords}
use Rattle.qvtr_engine.specs.CheckedNames.{NamesFit, name_of}
use Rattle.qvtr_engine.specs.CheckedMetamodels.{AreMetamodels, MetamodelsStop, IsMeta, MetaStops, metamodel_files, numbered_metas}
use Rattle.qvtr_engine.specs.CheckedModels.{AreModels, ModelsStop, IsModel, ModelStops, meta_for, model_files}
use Rattle.qvtr_engine.specs.NamedFiles.{named_item}
use Rattle.qvtr_engine.specs.OneSteps.{AreOne, HaveOneStep}
use Rattle.qvtr_engine.specs.Reply.{Reply}
use Rattle.qvtr_engine.specs.Steps.{IsOneStep}
use Rattle.qvtr_engine.proofs.ConvertAnswerLaws.{stops_single, metamodel_goes_on, model_goes_on, one_metamodel_at, one_model_at}
use Rattle.qvtr_engine.proofs.FileLaws.{one_told, one_told_of_meta, described_well}
use Rattle.qvtr_engine.proofs.FirstLaws.{one_by_one}
use Rattle.qvtr_engine.proofs.InputNameLaws.{names_are_one}
use Rattle.qvtr_engine.proofs.ModelFileLaws.{meta_within, models_known}
use Rattle.qvtr_engine.proofs.NumberingLaws.{has_meta_file}
use Rattle.qvtr_engine.proofs.ScriptFileLaws.{one_script_at, script_goes_on, one_script_stop}

-- ---- the metamodels

each_meta : (files : Files) (bs : List Bound) → AllByRecursion (λ b. (r o : Reply) → MetaStops files b r → MetaStops files b o → r ≡ o) bs
each_meta files [] = tt
each_meta files (b ∷ bs) = (λ r o s t. stops_single files b.path emof IsMetaFileError r o one_told_of_meta s t, each_meta files bs)

metamodels_are_one : (files : Files) (w : CheckWords) (s : Script) → IsOneStep (AreMetamodels files w s) (MetamodelsStop files w s) AreOne
metamodels_are_one files w s =
    one_by_one (IsMeta files) (MetaStops files)
    (λ b x y h k. one_metamodel_at files b.path x y h k)
    (λ b x reply h st. metamodel_goes_on files b.path x reply h st)
    (metamodel_files w s) (each_meta files (metamodel_files w s))

-- no fault stands in them

named_well : (files : Files) (bs : List Bound) (metas : List MetaDesc) (name : List ℕ) → AllZip (IsMeta files) bs metas
    → is_member same_name (map name_of bs) name ≡ true → WellMeta (named_item no_meta bs metas name)
named_well files [] metas name all has = absurd (true≢false (sym has))
named_well files (b ∷ bs) [] name all has = absurd all
named_well files (b ∷ bs) (meta ∷ metas) name all has =
    elim (same_name name (name_of b)) as (λ t. (t || is_member same_name (map name_of bs) name) ≡ true → WellMeta (cond t meta (named_item no_meta bs metas name))) [
      | true ↦ λ here. described_well all.0.0 meta all.0.2
      | false ↦ λ later. named_well files bs metas name all.1 later
    ] has

all_well : (files : Files) (bs : List Bound) (metas : List MetaDesc) (names : List (List ℕ)) → AllZip (IsMeta files) bs metas
    → AllByRecursion (λ name. is_member same_name (map name_of bs) name ≡ true) names → AllByRecursion WellMeta (map (named_item no_meta bs metas) names)
all_well files bs metas [] all has = tt
all_well files bs metas (name ∷ names) all has = (named_well files bs metas name all has.0, all_well files bs metas names all has.1)

metas_well : (files : Files) (w : CheckWords) (s : Script) (metas : List MetaDesc) → NamesFit w s → AreMetamodels files w s metas → AreWell (numbered_metas w s metas)
metas_well files w s metas fits all =
    All-from_recursion WellMeta (numbered_metas w s metas)
    (all_well files (metamodel_files w s) metas (metamodel_names s) all (has_meta_file w s fits))

-- ---- the models

meta_is_well : (s : Script) (metas : List MetaDesc) (b : Bound) → length metas ≡ length (metamodel_names s) → AreWell metas
    → Contains (model_names s.models) (name_of b) → WellMeta (meta_for s metas b)
meta_is_well s metas b long well has =
    well (meta_of s (name_of b)) no_meta (subst (λ n. meta_of s (name_of b) < n) (sym long) (meta_within s (name_of b) has))

each_model : (files : Files) (s : Script) (metas : List MetaDesc) → length metas ≡ length (metamodel_names s) → AreWell metas
    → (bs : List Bound) → AllByRecursion (λ b. Contains (model_names s.models) (name_of b)) bs
    → AllByRecursion (λ b. (r o : Reply) → ModelStops files s metas b r → ModelStops files s metas b o → r ≡ o) bs
each_model files s metas long well [] known = tt
each_model files s metas long well (b ∷ bs) known = (
  λ r o st su. stops_single files b.path (meta_for s metas b) (IsFileError (meta_for s metas b) externs.None) r o
      (λ bytes. one_told (meta_for s metas b) externs.None bytes (meta_is_well s metas b long well known.0)) st su,
  each_model files s metas long well bs known.1,
)

models_are_one : (files : Files) (w : CheckWords) (s : Script) (metas : List MetaDesc) → NamesFit w s → length metas ≡ length (metamodel_names s) → AreWell metas
    → IsOneStep (AreModels files w s metas) (ModelsStop files w s metas) AreOne
models_are_one files w s metas fits long well =
    one_by_one (IsModel files s metas) (ModelStops files s metas)
    (λ b x y h k. one_model_at files b.path (meta_for s metas b) x y h k)
    (λ b x reply h st. model_goes_on files b.path (meta_for s metas b) x reply h st)
    (model_files w s) (each_model files s metas long well (model_files w s) (models_known w s fits))

pub steps_are_one : (files : Files) (w : CheckWords) → HaveOneStep files w
steps_are_one files w = record {
  scripts = record { one = one_script_at files w.script; apart = script_goes_on files w.script; alike = one_script_stop files w.script };
  names = names_are_one w;
  metamodels = λ s fits. metamodels_are_one files w s;
  well = metas_well files w;
  models = models_are_one files w;
}
