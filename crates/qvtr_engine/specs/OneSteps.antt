-- What makes the reply to a check over files one, up to its models: each step gives one thing, or stops with one reply, and never both.
use Rattle.std.specs.Prelude.{◌≡◌, List, length}
use Rattle.vault_io.specs.Files.{Files}
use Rattle.mof_metamodel.specs.declared.desc.MetaDesc.{MetaDesc}
use Rattle.qv_syntax.specs.declared.script.Script.{Script}
use Rattle.ocl_environments.specs.Environments.{AreWell}
use Rattle.script_scopes.specs.Environments.{metamodel_names}
use Rattle.qvtr_engine.specs.CheckWords.{CheckWords}
use Rattle.qvtr_engine.specs.CheckedMetamodels.{AreMetamodels, MetamodelsStop, numbered_metas}
use Rattle.qvtr_engine.specs.CheckedModels.{AreModels, ModelsStop}
use Rattle.qvtr_engine.specs.CheckedNames.{NamesFit, NamesStop}
use Rattle.qvtr_engine.specs.Reply.{Reply}
use Rattle.qvtr_engine.specs.ScriptFile.{IsScriptAt, ScriptStops}
use Rattle.qvtr_engine.specs.Steps.{IsOneStep, IsOneTest}

-- one reply
abbrev pub AreOne : Reply → Reply → Type 0
AreOne r o = r ≡ o

pub record HaveOneStep (files : Files) (w : CheckWords) : Type 0 where
  pub scripts : IsOneStep (IsScriptAt files w.script) (ScriptStops files w.script) AreOne
  pub names : (s : Script) → IsOneTest (NamesFit w s) (NamesStop w s) AreOne
  pub metamodels : (s : Script) → NamesFit w s → IsOneStep (AreMetamodels files w s) (MetamodelsStop files w s) AreOne
  pub well : (s : Script) (metas : List MetaDesc) → NamesFit w s → AreMetamodels files w s metas → AreWell (numbered_metas w s metas)
  pub models : (s : Script) (metas : List MetaDesc) → NamesFit w s → length metas ≡ length (metamodel_names s) → AreWell metas
      → IsOneStep (AreModels files w s metas) (ModelsStop files w s metas) AreOne
