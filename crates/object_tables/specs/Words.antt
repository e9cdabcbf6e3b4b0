-- The printed words of breaches and faults, and the limits of models.
use Rattle.std.specs.Prelude.{ℕ, List, codes}
use Rattle.object_tables.specs.declared.breach.BreachKind.{BreachKind}
use Rattle.object_tables.specs.declared.breach.BreachKind.TheVariants as kinds
use Rattle.object_tables.specs.declared.fault.AddFault.{AddFault}
use Rattle.object_tables.specs.declared.fault.AddFault.TheVariants as faults
use Rattle.object_tables.specs.declared.limit.LimitKind.{LimitKind}
use Rattle.object_tables.specs.declared.limit.LimitKind.TheVariants as limits

abbrev pub breach_word : BreachKind → List ℕ
breach_word kinds.Lower = codes "Lower"
breach_word kinds.Upper = codes "Upper"
breach_word kinds.ContainmentCycle = codes "ContainmentCycle"

abbrev pub fault_word : AddFault → List ℕ
fault_word faults.Abstract = codes "Abstract"
fault_word faults.DuplicateId = codes "DuplicateId"
fault_word faults.Limit = codes "Limit"
fault_word faults.NoMemory = codes "NoMemory"

abbrev pub limit_word : LimitKind → List ℕ
limit_word limits.Objects = codes "Objects"
limit_word limits.Depth = codes "Depth"
