-- The fifth step of `check`: the models of the script are read, in the order of the words, each by its metamodel.
use Rattle.std.specs.Prelude.{List, [], not, map, filter}
use Rattle.std.specs.List.{AllZip}
use Rattle.vault_io.specs.Files.{Files}
use Rattle.mof_metamodel.specs.declared.desc.MetaDesc.{MetaDesc}
use Rattle.object_tables.specs.Models.{ModelData}
use Rattle.model_assembly.specs.declared.fault.Externs.TheVariants as externs
use Rattle.model_files.specs.Files.{IsFileError}
use Rattle.qv_syntax.specs.declared.script.Script.{Script}
use Rattle.ocl_environments.specs.Environments.{no_meta, meta_at}
use Rattle.script_scopes.specs.Declarations.{meta_of}
use Rattle.script_scopes.specs.ScriptNames.{model_names}
use Rattle.qvtr_engine.specs.CheckWords.{Bound, CheckWords}
use Rattle.qvtr_engine.specs.CheckedNames.{name_of}
use Rattle.qvtr_engine.specs.CheckedMetamodels.{is_metamodel}
use Rattle.qvtr_engine.specs.ConvertAnswer.{IsModelAt}
use Rattle.qvtr_engine.specs.FileStops.{Stops}
use Rattle.qvtr_engine.specs.FirstStops.{FirstStop}
use Rattle.qvtr_engine.specs.NamedFiles.{named_item}
use Rattle.qvtr_engine.specs.Reply.{Reply}

-- a name that is a metamodel's too is none of them
abbrev pub model_files : CheckWords → Script → List Bound
model_files w s = filter (λ b. not (is_metamodel s b)) w.files

-- the metamodel by which the file of a model is read, of those of the script by their numbers: that of the first model of the name
abbrev pub meta_for : Script → List MetaDesc → Bound → MetaDesc
meta_for s metas b = meta_at metas (meta_of s (name_of b))

-- ---- it goes on

-- the model at the path of a name
abbrev pub IsModel : Files → Script → List MetaDesc → Bound → ModelData → Type 0
IsModel files s metas b m = IsModelAt files b.path (meta_for s metas b) m

abbrev pub AreModels : Files → CheckWords → Script → List MetaDesc → List ModelData → Type 0
AreModels files w s metas models = AllZip (IsModel files s metas) (model_files w s) models

abbrev pub no_model : ModelData
no_model = record { meta = no_meta; objects = [] }

-- the models by their numbers: in the order of the script
abbrev pub numbered_models : CheckWords → Script → List ModelData → List ModelData
numbered_models w s models = map (named_item no_model (model_files w s) models) (model_names s.models)

-- ---- or stops: at the first file that is no model

abbrev pub IsReadModel : Files → Script → List MetaDesc → Bound → Type 0
IsReadModel files s metas b = (m : ModelData) × IsModel files s metas b m

-- the file that is read by this metamodel stops the work
abbrev pub StopsBy : Files → Bound → MetaDesc → Reply → Type 0
StopsBy files b meta reply = Stops files b.path meta (IsFileError meta externs.None) reply

abbrev pub ModelStops : Files → Script → List MetaDesc → Bound → Reply → Type 0
ModelStops files s metas b reply = StopsBy files b (meta_for s metas b) reply

abbrev pub ModelsStop : Files → CheckWords → Script → List MetaDesc → Reply → Type 0
ModelsStop files w s metas reply = FirstStop (IsReadModel files s metas) (ModelStops files s metas) (model_files w s) reply
