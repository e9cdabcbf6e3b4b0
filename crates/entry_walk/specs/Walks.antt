-- A walk over the calls of entries: what has to be found so that all entries are known, none of them is unmet, and no chain of calls comes
-- back to one of its calls or is too long (QVT 1.3, sections 7.2 and 7.10.2). Each call has a height: no chain has more calls behind it.
use Rattle.std.specs.Prelude.{◌≡◌, ◌⊎◌, ◌↔◌, ◌<◌, ℕ, true, false, List, Some, slice_get, Contains}
use Rattle.object_tables.specs.Models.{ModelData}
use Rattle.qv_syntax.specs.declared.program.Program.{Program}
use Rattle.qv_syntax.specs.declared.program.Rel.{Rel}
use Rattle.qvtr_semantics.specs.declared.limits.TheConstants.{MAX_CALLS}
use Rattle.repair_semantics.specs.declared.entry.Entry.{Entry}
use Rattle.repair_semantics.specs.declared.entry.EntryName.{EntryName}
use Rattle.repair_semantics.specs.EntryValues.{root_values}
use Rattle.repair_semantics.specs.Entries.{IsEntry, IsEntryWith, entry_calls}
use Rattle.entry_finding.specs.Found.{is_entry_unmet}
use Rattle.entry_tops.specs.Tops.{IsTopBy}

-- a call in a where clause that has been walked: its entries, and its height
pub record Walked : Type 0 where
  pub call : EntryName
  pub entries : List Entry
  pub height : ℕ

-- the entry is one of the call, whose calls in the when clause have their matches among these
pub record IsOfCall (program : Program) (models : List ModelData) (tops : List Entry) (c : EntryName) (e : Entry) : Type 0 where
  pub rel : Rel
  pub found : slice_get program.rels c.rel ≡ Some rel
  pub matches : List Entry
  pub is : IsEntryWith program models c.rel rel true (root_values rel c.roots) matches e
  pub among : (m : Entry) → Contains matches m → Contains tops m

-- the call has been walked, and its height is below this number
pub record IsWalkedBelow (walked : List Walked) (height : ℕ) (c : EntryName) : Type 0 where
  pub by : Walked
  pub among : Contains walked by
  pub call : by.call ≡ c
  pub lower : by.height < height

-- the entries of top relations: each of them is found, none is unmet, and the calls that they make have been walked and begin no chain that is too long
pub record AreTops (program : Program) (models : List ModelData) (tops : List Entry) (walked : List Walked) : Type 0 where
  pub only : (e : Entry) → Contains tops e → IsEntry program models e × (e.called ≡ false)
  pub all : (e : Entry) → IsTopBy program models tops e → Contains tops e
  pub met : (e : Entry) → Contains tops e → is_entry_unmet program models e ≡ false
  pub calls : (e : Entry) (c : EntryName) → Contains tops e → Contains (entry_calls program models e) c → IsWalkedBelow walked MAX_CALLS c

-- an entry makes the call that has been walked; its entries are found, none is unmet, and the calls that they make have been walked and are lower
pub record IsWhole (program : Program) (models : List ModelData) (tops : List Entry) (walked : List Walked) (x : Walked) : Type 0 where
  pub from : Entry
  pub is_from : IsEntry program models from
  pub made : Contains (entry_calls program models from) x.call
  pub exact : (e : Entry) → Contains x.entries e ↔ IsOfCall program models tops x.call e
  pub met : (e : Entry) → Contains x.entries e → is_entry_unmet program models e ≡ false
  pub calls : (e : Entry) (c : EntryName) → Contains x.entries e → Contains (entry_calls program models e) c → IsWalkedBelow walked x.height c

-- a walk that has come to its end: each call once
pub record IsWalk (program : Program) (models : List ModelData) (tops : List Entry) (walked : List Walked) : Type 0 where
  pub tops_are : AreTops program models tops walked
  pub whole : (x : Walked) → Contains walked x → IsWhole program models tops walked x
  pub once : (x y : Walked) → Contains walked x → Contains walked y → x.call ≡ y.call → x ≡ y

-- an entry of a walk: of a top relation, or of a call
abbrev pub IsAmong : List Entry → List Walked → Entry → Type 0
IsAmong tops walked e = Contains tops e ⊎ ((x : Walked) × Contains walked x × Contains x.entries e)
