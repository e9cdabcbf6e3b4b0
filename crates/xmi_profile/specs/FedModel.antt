-- What a reader of a model in pieces was given: a metamodel, what references to the outside may name, and bytes.
use Rattle.std.specs.Prelude.{ℕ, List}
use Rattle.mof_metamodel.specs.declared.desc.MetaDesc.{MetaDesc}
use Rattle.model_assembly.specs.declared.fault.Externs.{Externs}

pub record FedModel : Type 0 where
  pub meta : MetaDesc
  pub outside : Externs
  pub bytes : List ℕ
