-- The objects among data.
use Rattle.std.specs.Prelude.{Option, Some, None}
use Rattle.object_tables.specs.declared.value.ObjId.{ObjId}
use Rattle.qvtr_semantics.specs.declared.datum.Datum.{Datum}
use Rattle.qvtr_semantics.specs.declared.datum.Datum.TheVariants.{Obj, Val}

-- the object that a datum is
abbrev pub object_in : Datum → Option ObjId
object_in (Obj m o) = Some o
object_in (Val m v) = None
