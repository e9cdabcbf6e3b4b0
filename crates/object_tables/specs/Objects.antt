-- What a model is seen as: for each number of an object the object, or nothing where it is gone.
use Rattle.std.specs.Prelude.{ℕ, List, map, drop, Option, None, Some}
use Rattle.object_tables.specs.declared.value.Value.{Value}
use Rattle.object_tables.specs.declared.tables.Named.{Named}
use Rattle.object_tables.specs.Lists.{update_at}
use Rattle.object_tables.specs.Rows.{Place, Row}

-- what an object has at a property: the values of an attribute, the partners of a reference
pub record Slot : Type 0 where
  pub values : List Value
  pub partners : List ℕ

-- an object: its class, its identifier, and a slot for each property of its class, in class order
pub record Object : Type 0 where
  pub class : ℕ
  pub id : List ℕ
  pub slots : List Slot

abbrev pub slot_of : Place → Slot
slot_of place = record { values = place.values; partners = map (λ e. e.0) place.joined }

-- the object of a row, whose first two places are the far ends of references without an opposite
abbrev pub object_from : Option Named → List Place → Option Object
object_from None places = None
object_from (Some named) places = Some (record { class = named.class; id = named.id; slots = map slot_of (drop 2 places) })

abbrev pub object_of : Row → Option Object
object_of row = object_from row.named row.places

abbrev pub with_slots : (List Slot → List Slot) → Option Object → Option Object
with_slots f None = None
with_slots f (Some object) = Some (record object { slots = f object.slots })

-- one slot changed
abbrev pub with_slot : List (Option Object) → ℕ → ℕ → (Slot → Slot) → List (Option Object)
with_slot objects o k f = update_at objects o (with_slots (λ slots. update_at slots k f))
