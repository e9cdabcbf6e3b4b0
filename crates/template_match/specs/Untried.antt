-- The candidates for a variable that are yet to be tried.
use Rattle.std.specs.Prelude.{ℕ, List, [], map, reverse, Option, None, Some, Contains}
use Rattle.mof_metamodel.specs.declared.desc.ClassId.{ClassId}
use Rattle.object_tables.specs.Models.{ModelData}
use Rattle.qvtr_semantics.specs.declared.datum.Datum.{Datum}
use Rattle.qvtr_semantics.specs.declared.datum.Datum.TheVariants.{Obj}
use Rattle.template_match.specs.declared.untried.Objects.{Objects}
use Rattle.template_match.specs.Search.{objects_of}

-- the objects that are left, the next one last
abbrev pub objects_left : Option Objects → List Datum
objects_left None = []
objects_left (Some left) = reverse (map (λ o. Obj left.model o) left.extent)

-- each object of the class is a candidate
abbrev pub HasObjects : List ModelData → Option (ℕ × ClassId) → List Datum → Type 0
HasObjects models extent candidates = (d : Datum) → Contains (objects_of models extent) d → Contains candidates d
