-- A program and the models over which its expressions are evaluated.
use Rattle.std.specs.Prelude.{List}
use Rattle.mof_metamodel.specs.declared.desc.MetaDesc.{MetaDesc}
use Rattle.object_tables.specs.Models.{ModelData}
use Rattle.qv_syntax.specs.declared.program.Program.{Program}
use Rattle.qv_syntax.specs.WellFormed.{IsWellFormed}
use Rattle.qvtr_semantics.specs.Expressions.{setting}
use Rattle.evaluation_laws.specs.TypedValues.{AreModels}
use Rattle.evaluation_laws.specs.Literals.{HasStorableTexts}

-- the program is well formed and its texts are storable; each model is kept and of its slot's metamodel
pub record IsEvaluable (metas : List MetaDesc) (program : Program) (models : List ModelData) : Type 0 where
  pub well : IsWellFormed metas program
  pub texts : HasStorableTexts program
  pub kept : AreModels metas (setting program models)
