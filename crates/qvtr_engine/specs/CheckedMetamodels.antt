-- The fourth step of `check`: the metamodels of the script are read, in the order of the words.
use Rattle.std.specs.Prelude.{Bool, List, map, filter}
use Rattle.std.specs.List.{AllZip}
use Rattle.std.specs.Set.{is_member}
use Rattle.vault_io.specs.Files.{Files}
use Rattle.mof_metamodel.specs.declared.desc.MetaDesc.{MetaDesc}
use Rattle.mof_metamodel.specs.Characters.{same_name}
use Rattle.model_files.specs.Emof.{emof}
use Rattle.model_files.specs.Files.{IsMetaFileError}
use Rattle.qv_syntax.specs.declared.script.Script.{Script}
use Rattle.ocl_environments.specs.Environments.{no_meta}
use Rattle.script_scopes.specs.Environments.{metamodel_names}
use Rattle.qvtr_engine.specs.CheckWords.{Bound, CheckWords}
use Rattle.qvtr_engine.specs.CheckedNames.{name_of}
use Rattle.qvtr_engine.specs.ConvertAnswer.{IsMetamodelAt}
use Rattle.qvtr_engine.specs.FileStops.{Stops}
use Rattle.qvtr_engine.specs.FirstStops.{FirstStop}
use Rattle.qvtr_engine.specs.NamedFiles.{named_item}
use Rattle.qvtr_engine.specs.Reply.{Reply}

-- the name is one of a metamodel
abbrev pub is_metamodel : Script → Bound → Bool
is_metamodel s b = is_member same_name (metamodel_names s) (name_of b)

abbrev pub metamodel_files : CheckWords → Script → List Bound
metamodel_files w s = filter (is_metamodel s) w.files

-- ---- it goes on

-- the metamodel at the path of a name
abbrev pub IsMeta : Files → Bound → MetaDesc → Type 0
IsMeta files b meta = IsMetamodelAt files b.path meta

abbrev pub AreMetamodels : Files → CheckWords → Script → List MetaDesc → Type 0
AreMetamodels files w s metas = AllZip (IsMeta files) (metamodel_files w s) metas

-- the metamodels by their numbers: in the order in which the script first names them
abbrev pub numbered_metas : CheckWords → Script → List MetaDesc → List MetaDesc
numbered_metas w s metas = map (named_item no_meta (metamodel_files w s) metas) (metamodel_names s)

-- ---- or stops: at the first file that is no metamodel

abbrev pub IsReadMeta : Files → Bound → Type 0
IsReadMeta files b = (meta : MetaDesc) × IsMeta files b meta

abbrev pub MetaStops : Files → Bound → Reply → Type 0
MetaStops files b reply = Stops files b.path emof IsMetaFileError reply

abbrev pub MetamodelsStop : Files → CheckWords → Script → Reply → Type 0
MetamodelsStop files w s reply = FirstStop (IsReadMeta files) (MetaStops files) (metamodel_files w s) reply
