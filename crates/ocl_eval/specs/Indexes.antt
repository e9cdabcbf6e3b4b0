-- The indexes that stand beside models.
use Rattle.std.specs.Prelude.{List, Option, IfSome}
use Rattle.std.specs.List.{AllZip}
use Rattle.object_tables.specs.Models.{ModelData}
use Rattle.key_index.specs.Indexes.{IndexData, IsIndexOf}

-- beside each model stands none, or an index of it
abbrev pub AreIndexes : {T : Type 0} → (T → ModelData) → List T → List (Option IndexData) → Type 0
AreIndexes model = AllZip (λ m index. IfSome index (IsIndexOf (model m)))
