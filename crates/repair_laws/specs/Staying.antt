-- Which objects of the target stay where demands are enforced (this engine's own).
use Rattle.std.specs.Prelude.{ℕ, Bool, List}
use Rattle.object_tables.specs.Models.{ModelData}
use Rattle.qv_syntax.specs.declared.program.Program.{Program}
use Rattle.repair_semantics.specs.declared.demand.Demand.{Demand}
use Rattle.repair_semantics.specs.Demands.{demanded_terms}
use Rattle.repair_semantics.specs.Deletions.{managed_classes, images_of, stays}

-- the object stays
abbrev pub is_staying : Program → ModelData → List Demand → ℕ → Bool
is_staying program m demands o = stays m (managed_classes program) (images_of program m (demanded_terms demands)) o
