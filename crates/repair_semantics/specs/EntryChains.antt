-- Chains of calls in where clauses over entries, and the entries that are unmet (QVT 1.3, section 7.10.2; that chains which come back to a
-- call or grow too long are refused, and entries that are unmet, is this engine's own).
use Rattle.std.specs.Prelude.{◌≡◌, ◌≢◌, ◌≤◌, suc, true, false, Some, slice_get, List, [], ◌∷◌, ◌++◌, length, Contains, AllPairs}
use Rattle.qvtr_semantics.specs.declared.limits.TheConstants.{MAX_CALLS}
use Rattle.object_tables.specs.Models.{ModelData}
use Rattle.qv_syntax.specs.declared.program.Program.{Program}
use Rattle.qv_syntax.specs.declared.program.Rel.{Rel}
use Rattle.repair_semantics.specs.declared.entry.Entry.{Entry}
use Rattle.repair_semantics.specs.declared.entry.EntryName.{EntryName}
use Rattle.repair_semantics.specs.Making.{entry_known}
use Rattle.repair_semantics.specs.Unmet.{is_unmet}
use Rattle.repair_semantics.specs.Entries.{IsEntry, HasRoots, entry_calls}

-- a call at the begin of a chain: by an entry that isn't called
pub record BeginsEntries (program : Program) (models : List ModelData) (to : EntryName) : Type 0 where
  pub from : Entry
  pub entry : IsEntry program models from
  pub top : from.called ≡ false
  pub calls : Contains (entry_calls program models from) to

-- an entry of the first call makes the second one
pub record CallsNext (program : Program) (models : List ModelData) (from to : EntryName) : Type 0 where
  pub by : Entry
  pub entry : IsEntry program models by
  pub called : by.called ≡ true
  pub roots : HasRoots program from by
  pub calls : Contains (entry_calls program models by) to

-- each call is made by the one before it
abbrev pub GoesOnEntries : Program → List ModelData → EntryName → List EntryName → Type 0
GoesOnEntries program models from [] = Unit {0}
GoesOnEntries program models from (to ∷ more) = CallsNext program models from to × GoesOnEntries program models to more

-- a list of calls in where clauses
abbrev pub EntryChain : Program → List ModelData → List EntryName → Type 0
EntryChain program models [] = ⊥
EntryChain program models (first ∷ more) = BeginsEntries program models first × GoesOnEntries program models first more

-- the last call is one of the earlier ones, which are distinct
pub record IsCyclicList (chain : List EntryName) : Type 0 where
  pub before : List EntryName
  pub last : EntryName
  pub is : chain ≡ before ++ last ∷ []
  pub distinct : AllPairs (λ c d. c ≢ d) before
  pub repeat : Contains before last

-- there is one call more than a chain may have, without a repeat
pub record IsDeepList (chain : List EntryName) : Type 0 where
  pub calls : length chain ≡ suc MAX_CALLS
  pub distinct : AllPairs (λ c d. c ≢ d) chain

-- a chain that comes back to one of its calls
pub record CyclicEntries (program : Program) (models : List ModelData) (chain : List EntryName) : Type 0 where
  pub reached : EntryChain program models chain
  pub cyclic : IsCyclicList chain

-- a chain with one call more than it may have
pub record DeepEntries (program : Program) (models : List ModelData) (chain : List EntryName) : Type 0 where
  pub reached : EntryChain program models chain
  pub deep : IsDeepList chain

-- ---- entries that are unmet

-- the entry has the roots of the last call of a chain that isn't too long
pub record IsCalledInTime (program : Program) (models : List ModelData) (e : Entry) : Type 0 where
  pub before : List EntryName
  pub last : EntryName
  pub reached : EntryChain program models (before ++ last ∷ [])
  pub short : length (before ++ last ∷ []) ≤ MAX_CALLS
  pub roots : HasRoots program last e

-- an entry that is unmet; one that is called counts where a chain comes to it that isn't too long
pub record IsUnmet (program : Program) (models : List ModelData) (e : Entry) : Type 0 where
  pub is : IsEntry program models e
  pub in_time : e.called ≡ true → IsCalledInTime program models e
  pub rel : Rel
  pub found : slice_get program.rels e.rel ≡ Some rel
  pub unmet : is_unmet program models rel (entry_known program models rel e.values) ≡ true
