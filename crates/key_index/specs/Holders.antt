-- Which objects of a model hold a value at an attribute, and the holders that an index keeps.
use Rattle.std.specs.Prelude.{ℕ, List, All, Contains}
use Rattle.std.specs.List.Sorted.{IsStrictlySortedBy}
use Rattle.std.specs.Ordering.{nat_cmp}
use Rattle.object_tables.specs.declared.value.Value.{Value}
use Rattle.object_tables.specs.Models.{ModelData, values_at}
use Rattle.key_index.specs.declared.holder.Holder.{Holder}
use Rattle.key_index.specs.Entries.{entry}

-- the object holds the value at the attribute; one that is gone holds none
abbrev pub Holds : ModelData → ℕ → Value → ℕ → Type 0
Holds m p v o = Contains (values_at m o p) v

-- the objects that hold the value at the attribute, by number, each once
pub record AreHolders (m : ModelData) (p : ℕ) (v : Value) (objects : List ℕ) : Type 0 where
  pub ascending : IsStrictlySortedBy nat_cmp objects
  pub only : All (Holds m p v) objects
  pub all : (o : ℕ) → Holds m p v o → Contains objects o

-- the entries are those of the model, in whichever order: one for each value that an object holds at an attribute
pub record AreAllHolders (m : ModelData) (holders : List Holder) : Type 0 where
  pub only : (h : Holder) → Contains holders h → Holds m h.prop.0 h.value h.object.0
  pub all : (o p : ℕ) (v : Value) → Holds m p v o → Contains holders (entry o p v)
