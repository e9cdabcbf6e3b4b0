-- The numbers of objects as the values of the code.
use Rattle.std.specs.Prelude.{ℕ, List, map}
use Rattle.object_tables.specs.declared.value.ObjId.{ObjId}

abbrev pub object_ids : List ℕ → List ObjId
object_ids numbers = map (λ o. record { 0 = o }) numbers
