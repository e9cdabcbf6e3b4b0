-- Why an object is not added. Of several causes the first in the order of `Limit`, `Abstract` and `DuplicateId` is answered.
use Rattle.std.specs.Prelude.{◌≡◌, ℕ, true, false, List}
use Rattle.mof_metamodel.specs.Metamodels.{class_at as meta_class}
use Rattle.object_tables.specs.declared.fault.AddFault.{AddFault}
use Rattle.object_tables.specs.declared.fault.AddFault.TheVariants as faults
use Rattle.object_tables.specs.Models.{ModelData, IsFull, HasId, IsAddable}

abbrev pub IsAddFault : ModelData → ℕ → List ℕ → AddFault → Type 0
IsAddFault m class id faults.Limit = IsFull m
IsAddFault m class id faults.Abstract = (¬ IsFull m) × ((meta_class m.meta class).is_abstract ≡ true)
IsAddFault m class id faults.DuplicateId = (¬ IsFull m) × ((meta_class m.meta class).is_abstract ≡ false) × HasId m id
IsAddFault m class id faults.NoMemory = IsAddable m class id
