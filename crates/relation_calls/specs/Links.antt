-- Chains of calls in where clauses, each made by the one before it (QVT 1.3, section 7.10.2).
use Rattle.std.specs.Prelude.{List, [], ◌∷◌, ◌++◌, Option, Some, Contains}
use Rattle.object_tables.specs.Models.{ModelData}
use Rattle.qv_syntax.specs.declared.program.Program.{Program}
use Rattle.qvtr_semantics.specs.Calls.{RelationCall}
use Rattle.qvtr_semantics.specs.Chains.{GoesOn}

abbrev pub IsLinked : Program → List ModelData → List RelationCall → Type 0
IsLinked program models [] = Unit {0}
IsLinked program models (first ∷ more) = GoesOn program models first more

-- each of the calls is one that the last call of `upto` makes
abbrev pub AreLinked : Program → List ModelData → List RelationCall → List (Option RelationCall) → Type 0
AreLinked program models upto calls = (d : RelationCall) → Contains calls (Some d) → IsLinked program models (upto ++ d ∷ [])
