-- What a repair changes: how many objects it makes, changes and deletes (this engine's own).
use Rattle.std.specs.Prelude.{◌≡◌, ◌↔◌, ℕ, Bool, true, ◌&&◌, not, List, length, Option, None, Some, is_some, is_none, nat_eq, IsTrue}
use Rattle.std.specs.List.{list_all, filter, range_with_len}
use Rattle.std.specs.Cmp.Lexicographic.{pointwise}
use Rattle.mof_metamodel.specs.Metamodels.{props_of}
use Rattle.object_tables.specs.Models.{ModelData, object_at, class_at, values_at, partners_at}
use Rattle.qv_syntax.specs.declared.program.Program.{Program}
use Rattle.qvtr_semantics.specs.Data.{same_value}
use Rattle.repair_semantics.specs.declared.demand.Demand.{Demand}
use Rattle.repair_semantics.specs.declared.report.Report.{Report}
use Rattle.repair_semantics.specs.Demands.{demanded_terms}
use Rattle.repair_semantics.specs.CandidateObjects.{fresh_terms}
use Rattle.repair_semantics.specs.Candidates.{candidate}

-- the numbers of the target's objects
abbrev pub numbers : ModelData → List ℕ
numbers m = range_with_len 0 (length m.objects)

-- the values, and the partners in their order, are the same in two models
abbrev pub same_slot : ModelData → ModelData → ℕ → ℕ → Bool
same_slot m n o p = pointwise same_value (values_at m o p) (values_at n o p) && pointwise nat_eq (partners_at m o p) (partners_at n o p)

-- all slots of an object of the class are the same in two models
abbrev pub same_slots : ModelData → ModelData → ℕ → Option ℕ → Bool
same_slots m n o None = true
same_slots m n o (Some class) = list_all (same_slot m n o) (props_of m.meta class)

-- the object is in both models, and one of its slots differs
abbrev pub is_updated : ModelData → ModelData → ℕ → Bool
is_updated m n o = is_some (object_at n o) && not (same_slots m n o (class_at m o))

-- the object is in the first model alone
abbrev pub is_removed : ModelData → ModelData → ℕ → Bool
is_removed m n o = is_some (object_at m o) && is_none (object_at n o)

-- the counts of what enforcing the demands changes in the target
pub record IsReport (program : Program) (m : ModelData) (demands : List Demand) (report : Report) : Type 0 where
  pub created : report.created ≡ length (fresh_terms program m (demanded_terms demands))
  pub updated : report.updated ≡ length (filter (is_updated m (candidate program m demands)) (numbers m))
  pub deleted : report.deleted ≡ length (filter (is_removed m (candidate program m demands)) (numbers m))
  pub unchanged : IsTrue report.unchanged ↔ ((report.created ≡ 0) × (report.updated ≡ 0) × (report.deleted ≡ 0))
