-- An item that is lent out of a list with indexes beside its items.
use Rattle.std.specs.Prelude.{ℕ, List, slice_set}
use Rattle.std.specs.Borrow.{Lends, MutBor, Fml, RattleType}
use Rattle.object_tables.specs.Models.{ModelData}
use Rattle.ocl_eval.specs.contracts.models.IndexedList.{the_row}

-- the list ends with the item of that number as it is last behind the reference
abbrev pub LendsItem : (T : RattleType) → (T.Denot → ModelData) → MutBor (List T.Denot) → ℕ → MutBor T.Denot → Fml
LendsItem T model items number item = Lends (the_row T (record { model = model })) T items item (slice_set items.now number)
