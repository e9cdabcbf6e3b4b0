-- The metamodels and the models of `check` that are read, against its steps.
use Rattle.std.proofs.Common.{◌≡◌, ℕ, ◌<◌, List, length, map, sym, ◌∙◌, ap, subst, Option, Some, None}
use Rattle.std.specs.Prelude.{not, IfSome, Contains, All, slice_get}
use Rattle.std.specs.List.{AllZip}
use Rattle.std.specs.Option.{unwrap_or}
use Rattle.std.proofs.lemmas.List.{length-map}
use Rattle.std.proofs.lemmas.List.Elements.{All-from_recursion, All-contains}
use Rattle.vault_io.specs.Files.{Files}
use Rattle.mof_metamodel.specs.declared.desc.MetaDesc.{MetaDesc}
use Rattle.mof_metamodel.specs.NameTables.{value_of}
use Rattle.object_tables.specs.Models.{ModelData}
use Rattle.qv_syntax.specs.declared.query.ModelSlot.{ModelSlot}
use Rattle.qv_syntax.specs.declared.script.Script.{Script}
use Rattle.ocl_environments.specs.Environments.{no_meta}
use Rattle.script_scopes.specs.Declarations.{meta_of}
use Rattle.script_scopes.specs.Environments.{metamodel_names, slots_of}
use Rattle.script_scopes.specs.ScriptNames.{model_names}
use Rattle.script_scopes.specs.VariableTypes.{metamodel_numbers}
use Rattle.mof_metamodel.proofs.Facts.{contains_at}
use Rattle.script_variables.proofs.PlaceLaws.{meta_found}
use Rattle.qvtr_engine.specs.declared.numbering_inputs.Found.{Found}
use Rattle.qvtr_engine.specs.declared.outcome.Stop.{Stop}
use Rattle.qvtr_engine.specs.CheckWords.{Bound, CheckWords, check_paths}
use Rattle.qvtr_engine.specs.CheckedNames.{NamesFit, name_of}
use Rattle.qvtr_engine.specs.CheckedMetamodels.{IsMeta, IsReadMeta, MetaStops, MetamodelsStop, is_metamodel, metamodel_files, numbered_metas}
use Rattle.qvtr_engine.specs.CheckedModels.{IsModel, IsReadModel, StopsBy, ModelStops, ModelsStop, AreModels, meta_for, model_files}
use Rattle.qvtr_engine.specs.ConvertAnswer.{IsModelAt}
use Rattle.qvtr_engine.specs.FirstStops.{FirstStop}
use Rattle.qvtr_engine.specs.FoundFiles.{items_of, names_of, items_named}
use Rattle.qvtr_engine.specs.NumberedInputs.{HasMetas}
use Rattle.qvtr_engine.specs.Reply.{Reply}
use Rattle.qvtr_engine.specs.Stops.{StoppedBy}
use Rattle.qvtr_engine.proofs.ModelFileLaws.{meta_within, models_known}
use Rattle.qvtr_engine.proofs.NumberingLaws.{metas_numbered}
use Rattle.qvtr_engine.proofs.ReadingInputLaws.{paths_of, of_the_words}
use Rattle.qvtr_engine.proofs.StopLaws.{stopped_wider}

same_replies : (told : Option Files) (P : Files → Reply → Type 0) → IfSome told (λ files. (reply : Reply) → P files reply → P files reply)
same_replies None P = tt
same_replies (Some files) P = λ reply h. h

-- ---- the metamodels

metas_had : (told : Option Files) (w : CheckWords) (s : Script) (found : List (Found MetaDesc)) → IfSome told (λ files. AllZip (IsMeta files) (metamodel_files w s) (items_of found))
    → (numbered : List MetaDesc) → numbered ≡ numbered_metas w s (items_of found) → IfSome told (λ files. HasMetas files w s numbered)
metas_had None w s found all numbered is = tt
metas_had (Some files) w s found all numbered is = record { metas = items_of found; are = all; is = is }

pub metas_read : (told : Option Files) (w : CheckWords) (s : Script) (bs : List Bound) (found : List (Found MetaDesc)) (names : List (List ℕ)) (numbered : List MetaDesc)
    → bs ≡ metamodel_files w s → names ≡ metamodel_names s → IfSome told (λ files. AllZip (IsMeta files) bs (items_of found)) → names_of found ≡ map name_of bs
    → numbered ≡ items_named no_meta found names → IfSome told (λ files. HasMetas files w s numbered)
metas_read told w s bs found names numbered same listed all named is =
    let all_files = subst (λ (xs : List Bound). IfSome told (λ files. AllZip (IsMeta files) xs (items_of found))) same all in
    metas_had told w s found all_files numbered
    (is ∙ ap (items_named no_meta found) listed ∙ metas_numbered w s found (named ∙ ap (map name_of) same))

pub metas_count : (found : List (Found MetaDesc)) (s : Script) (names : List (List ℕ)) (numbered : List MetaDesc) → names ≡ metamodel_names s
    → numbered ≡ items_named no_meta found names → length numbered ≡ length (metamodel_names s)
metas_count found s names numbered listed is = ap length is ∙ length-map names _ ∙ ap length listed

pub metas_stopped : (stop : Stop) (told : Option Files) (w : CheckWords) (s : Script) (bs : List Bound) (faulted : Type 0) → bs ≡ metamodel_files w s
    → StoppedBy stop told (λ files. FirstStop (IsReadMeta files) (MetaStops files) bs) faulted (paths_of bs)
    → StoppedBy stop told (λ files. MetamodelsStop files w s) faulted (check_paths w)
metas_stopped stop told w s bs faulted same h =
    let chosen = subst (λ (xs : List Bound). StoppedBy stop told (λ files. FirstStop (IsReadMeta files) (MetaStops files) xs) faulted (paths_of xs)) same h in
    stopped_wider stop told (λ files. MetamodelsStop files w s) (λ files. MetamodelsStop files w s) faulted faulted (paths_of (metamodel_files w s)) (check_paths w)
    (same_replies told (λ files. MetamodelsStop files w s)) (λ f. f) (of_the_words w (is_metamodel s)) chosen

-- ---- the models

-- the number of the metamodel of a model
pub number_is : (s : Script) (slots : List ModelSlot) (name : List ℕ) (number : ℕ) → slots ≡ slots_of s → number ≡ unwrap_or (value_of (metamodel_numbers slots) name) 0
    → Contains (model_names s.models) name → number ≡ meta_of s name
number_is s slots name number same is has =
    is ∙ ap (λ (xs : List ModelSlot). unwrap_or (value_of (metamodel_numbers xs) name) 0) same ∙ ap (λ (o : Option ℕ). unwrap_or o 0) (meta_found s name has)

pub number_within : (s : Script) (slots : List ModelSlot) (name : List ℕ) (number : ℕ) (numbered : List MetaDesc) → slots ≡ slots_of s
    → number ≡ unwrap_or (value_of (metamodel_numbers slots) name) 0 → Contains (model_names s.models) name → length numbered ≡ length (metamodel_names s) → number < length numbered
number_within s slots name number numbered same is has count =
    subst (λ (n : ℕ). number < n) (sym count) (subst (λ (n : ℕ). n < length (metamodel_names s)) (sym (number_is s slots name number same is has)) (meta_within s name has))

pub known_at : (s : Script) (bs : List Bound) (i : ℕ) (b : Bound) → All (λ x. Contains (model_names s.models) (name_of x)) bs → slice_get bs i ≡ Some b
    → Contains (model_names s.models) (name_of b)
known_at s bs i b all at = All-contains (λ x. Contains (model_names s.models) (name_of x)) bs b all (contains_at bs i b at)

-- a model that is read by the metamodel of its number
pub model_by : (told : Option Files) (s : Script) (numbered : List MetaDesc) (b : Bound) (meta : MetaDesc) (m : ModelData) → meta ≡ meta_for s numbered b
    → IfSome told (λ files. IsModelAt files b.path meta m) → IfSome told (λ files. IsModel files s numbered b m)
model_by told s numbered b meta m is h = subst (λ (d : MetaDesc). IfSome told (λ files. IsModelAt files b.path d m)) is h

pub stopped_by : (stop : Stop) (told : Option Files) (s : Script) (numbered : List MetaDesc) (b : Bound) (meta : MetaDesc) (faulted : Type 0) (paths : List (List ℕ))
    → meta ≡ meta_for s numbered b → StoppedBy stop told (λ files. StopsBy files b meta) faulted paths
    → StoppedBy stop told (λ files. ModelStops files s numbered b) faulted paths
stopped_by stop told s numbered b meta faulted paths is h = subst (λ (d : MetaDesc). StoppedBy stop told (λ files. StopsBy files b d) faulted paths) is h

pub models_of_words : (w : CheckWords) (s : Script) (bs : List Bound) → NamesFit w s → bs ≡ model_files w s → All (λ b. Contains (model_names s.models) (name_of b)) bs
models_of_words w s bs fits same =
    subst (All (λ b. Contains (model_names s.models) (name_of b))) (sym same)
    (All-from_recursion (λ b. Contains (model_names s.models) (name_of b)) (model_files w s) (models_known w s fits))

pub models_read : (told : Option Files) (w : CheckWords) (s : Script) (numbered : List MetaDesc) (bs : List Bound) (items : List ModelData) → bs ≡ model_files w s
    → IfSome told (λ files. AllZip (IsModel files s numbered) bs items) → IfSome told (λ files. AreModels files w s numbered items)
models_read told w s numbered bs items same all = subst (λ (xs : List Bound). IfSome told (λ files. AllZip (IsModel files s numbered) xs items)) same all

pub models_stopped : (stop : Stop) (told : Option Files) (w : CheckWords) (s : Script) (numbered : List MetaDesc) (bs : List Bound) (faulted : Type 0) → bs ≡ model_files w s
    → StoppedBy stop told (λ files. FirstStop (IsReadModel files s numbered) (ModelStops files s numbered) bs) faulted (paths_of bs)
    → StoppedBy stop told (λ files. ModelsStop files w s numbered) faulted (check_paths w)
models_stopped stop told w s numbered bs faulted same h =
    let chosen = subst (λ (xs : List Bound). StoppedBy stop told (λ files. FirstStop (IsReadModel files s numbered) (ModelStops files s numbered) xs) faulted (paths_of xs)) same h in
    stopped_wider stop told (λ files. ModelsStop files w s numbered) (λ files. ModelsStop files w s numbered) faulted faulted (paths_of (model_files w s)) (check_paths w)
    (same_replies told (λ files. ModelsStop files w s numbered)) (λ f. f) (of_the_words w (λ b. not (is_metamodel s b))) chosen
