-- What is ready for a target: the model that it becomes, and what that changes.
use Rattle.std.specs.Prelude.{◌≡◌, ◌<◌, ℕ, length, Some}
use Rattle.std.specs.List.{filter}
use Rattle.object_tables.specs.Models.{ModelData, class_at}
use Rattle.repair_semantics.specs.declared.report.Report.{Report}
use Rattle.repair_semantics.specs.Reports.{numbers, is_updated, is_removed}

pub record EditData : Type 0 where
  pub made : ModelData
  pub report : Report

-- the models have one metamodel, and an object of the one that is in the other too has its class there
pub record HasClassesOf (m n : ModelData) : Type 0 where
  pub meta : n.meta ≡ m.meta
  pub classes : (o class : ℕ) → o < length m.objects → class_at n o ≡ Some class → class_at m o ≡ Some class

-- how many objects of the one are in the other with another slot
abbrev pub updated_count : ModelData → ModelData → ℕ
updated_count m n = length (filter (is_updated m n) (numbers m))

-- how many objects of the one aren't in the other
abbrev pub deleted_count : ModelData → ModelData → ℕ
deleted_count m n = length (filter (is_removed m n) (numbers m))
