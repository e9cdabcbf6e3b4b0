-- Which types go together (OCL 2.4, section 8.2.1).
use Rattle.std.specs.Prelude.{◌≡◌, ◌<◌, ℕ, List, Option, None, Some, ◌⊎◌, length}
use Rattle.mof_metamodel.specs.declared.desc.MetaDesc.{MetaDesc}
use Rattle.mof_metamodel.specs.declared.desc.ClassId.{ClassId}
use Rattle.mof_metamodel.specs.Metamodels.{class_count, Conforms}
use Rattle.qv_syntax.specs.declared.ty.Ty.{Ty}
use Rattle.ocl_environments.specs.Environments.{meta_at, class_of}

-- a class of the metamodel of number m conforms to another
abbrev pub ClassConforms : List MetaDesc → ℕ → ClassId → ClassId → Type 0
ClassConforms metas m c d = (m < length metas) × (c.0 < class_count (meta_at metas m)) × Conforms (meta_at metas m) c.0 d.0

-- what it is for types whose classes are these, if they are classes
abbrev pub ConformsBy : List MetaDesc → Ty → Ty → Option (ℕ × ClassId) → Option (ℕ × ClassId) → Type 0
ConformsBy metas a b (Some c) (Some d) = (c.0 ≡ d.0) × ClassConforms metas c.0 c.1 d.1
ConformsBy metas a b (Some c) None = a ≡ b
ConformsBy metas a b None d = a ≡ b

-- a type conforms to another: they are one, or classes of one metamodel of which the first conforms to the second
abbrev pub TypeConforms : List MetaDesc → Ty → Ty → Type 0
TypeConforms metas a b = ConformsBy metas a b (class_of a) (class_of b)

-- one of two types to which both conform
abbrev pub IsUpper : List MetaDesc → Ty → Ty → Ty → Type 0
IsUpper metas a b t = (TypeConforms metas a b × (t ≡ b)) ⊎ (TypeConforms metas b a × (t ≡ a))

-- neither of two types conforms to the other
abbrev pub AreUnrelated : List MetaDesc → Ty → Ty → Type 0
AreUnrelated metas a b = (¬ (TypeConforms metas a b)) × (¬ (TypeConforms metas b a))
