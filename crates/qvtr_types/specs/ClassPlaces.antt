-- Classes of the metamodels of a script by their numbers.
use Rattle.std.specs.Prelude.{◌<◌, ℕ, List, length}
use Rattle.mof_metamodel.specs.declared.desc.MetaDesc.{MetaDesc}
use Rattle.mof_metamodel.specs.declared.desc.ClassId.{ClassId}
use Rattle.mof_metamodel.specs.Metamodels.{class_count}
use Rattle.ocl_environments.specs.Environments.{meta_at}

-- the metamodels have the class
abbrev pub IsClassAt : List MetaDesc → ℕ × ClassId → Type 0
IsClassAt metas class = (class.0 < length metas) × (class.1.0 < class_count (meta_at metas class.0))
