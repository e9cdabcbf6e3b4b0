-- The metamodels of `check` by their numbers.
use Rattle.std.specs.Prelude.{◌≡◌, List}
use Rattle.vault_io.specs.Files.{Files}
use Rattle.mof_metamodel.specs.declared.desc.MetaDesc.{MetaDesc}
use Rattle.qv_syntax.specs.declared.script.Script.{Script}
use Rattle.qvtr_engine.specs.CheckWords.{CheckWords}
use Rattle.qvtr_engine.specs.CheckedMetamodels.{numbered_metas, AreMetamodels}

-- the metamodels at the paths of the words, by their numbers
pub record HasMetas (files : Files) (w : CheckWords) (s : Script) (numbered : List MetaDesc) : Type 0 where
  pub metas : List MetaDesc
  pub are : AreMetamodels files w s metas
  pub is : numbered ≡ numbered_metas w s metas
