-- What a check asks: do the relations of a program hold between models.
use Rattle.std.specs.Prelude.{List}
use Rattle.mof_metamodel.specs.declared.desc.MetaDesc.{MetaDesc}
use Rattle.object_tables.specs.Models.{ModelData}
use Rattle.qv_syntax.specs.declared.program.Program.{Program}

-- a program in the direction of its target, over metamodels and models by their numbers
pub record Question : Type 0 where
  pub metas : List MetaDesc
  pub program : Program
  pub models : List ModelData
