-- What may stand at a property of an object of the target (MOF 2.5.1, Reflection: values and partners of their types).
use Rattle.std.specs.Prelude.{◌≡◌, ℕ, true, false, Some}
use Rattle.mof_metamodel.specs.Metamodels.{type_of}
use Rattle.object_tables.specs.declared.value.Value.{Value}
use Rattle.object_tables.specs.Models.{ModelData, is_class_type}
use Rattle.qv_syntax.specs.declared.program.Program.{Program}
use Rattle.qvtr_semantics.specs.declared.datum.Datum.{Datum}
use Rattle.qvtr_semantics.specs.Objects.{value_datum}
use Rattle.qvtr_semantics.specs.Outs.{value_of_datum}
use Rattle.repair_semantics.specs.TargetItems.{target_meta_number}
use Rattle.repair_semantics.specs.Claims.{Held}

-- an object at a reference, and at an attribute a datum as one of the target's values is seen
pub data FitsAt (program : Program) (m : ModelData) (p : ℕ) : Held ℕ → Type 0 where
  object : (b : ℕ) → is_class_type (type_of m.meta p) ≡ true → FitsAt program m p (Held.object b)
  datum : (d : Datum) (v : Value) → is_class_type (type_of m.meta p) ≡ false → value_of_datum d ≡ Some v → value_datum (target_meta_number program) v ≡ d
      → FitsAt program m p (Held.datum d)
