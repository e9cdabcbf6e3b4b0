-- What holds on a walk in depth over the calls of entries: of the path, and of the calls that have been walked.
use Rattle.std.specs.Prelude.{◌≡◌, ◌≢◌, ◌<◌, ◌≤◌, ◌+◌, ℕ, suc, List, [], ◌∷◌, ◌++◌, map, length, Option, None, Some, slice_get, Contains, All, AllPairs, MatchOption}
use Rattle.object_tables.specs.Models.{ModelData}
use Rattle.qv_syntax.specs.declared.program.Program.{Program}
use Rattle.qvtr_semantics.specs.declared.limits.TheConstants.{MAX_CALLS}
use Rattle.repair_semantics.specs.declared.term.Term.{Term}
use Rattle.repair_semantics.specs.EntryChains.{CallsNext}
use Rattle.entry_making.specs.declared.numbered_call.NumberedCall.{NumberedCall}
use Rattle.entry_making.specs.CallNumbers.{call_of}
use Rattle.entry_finding.specs.Found.{entries_in, IsEntryWithin, IsCallWithin, MakesDemands}
use Rattle.entry_tops.specs.declared.tops.Tops.{Tops}
use Rattle.entry_tops.specs.Tops.{AreTopsFound}
use Rattle.entry_walk.specs.declared.finished.Finished.{Finished}
use Rattle.entry_walk.specs.declared.ends.Height.{Height}
use Rattle.entry_walk.specs.declared.ends.WalkEnd.{WalkEnd}
use Rattle.entry_walk.specs.declared.ends.WalkEnd.TheVariants as ends
use Rattle.entry_walk.specs.declared.ends.Reached.{Reached}
use Rattle.entry_walk.specs.declared.ends.Reached.TheVariants as reached
use Rattle.entry_walk.specs.declared.ends.Reaches.{Reaches}
use Rattle.entry_walk.specs.declared.ends.Reaches.TheVariants as reaches
use Rattle.entry_walk.specs.declared.walk.FromTops.{FromTops}
use Rattle.entry_walk.specs.declared.walk.FromTops.TheVariants as from
use Rattle.entry_walk.specs.Walks.{Walked, IsWhole}
use Rattle.entry_walk.specs.Paths.{path_in, IsPath, LeadsTo}
use Rattle.entry_walk.specs.FinishedTables.{height_in, IsWay}
use Rattle.entry_walk.specs.Ends.{IsWalkEnd}

-- a call that has been walked, with terms for numbers
abbrev pub walked_in : List Term → Finished → Walked
walked_in terms f = record { call = call_of terms f.call; entries = entries_in terms f.entries; height = f.height }

abbrev pub walk_in : List Term → List Finished → List Walked
walk_in terms fs = map (walked_in terms) fs

-- an entry of the call makes the one that stands at this place, which is one step lower
pub record IsBefore (program : Program) (models : List ModelData) (terms : List Term) (fs : List Finished) (f : Finished) (n : ℕ) : Type 0 where
  pub by : Finished
  pub at : slice_get fs n ≡ Some by
  pub calls : CallsNext program models (call_of terms f.call) (call_of terms by.call)
  pub height : f.height ≡ suc by.height

pub record IsFinished (program : Program) (models : List ModelData) (terms : List Term) (fs : List Finished) (f : Finished) : Type 0 where
  pub linked : MatchOption f.behind (f.height ≡ 0) (IsBefore program models terms fs f)
  pub distinct : AllPairs (λ d e. d ≢ e) (entries_in terms f.entries)
  pub demands : All (MakesDemands program models terms) f.entries
  pub within : All (IsEntryWithin terms) f.entries
  pub call_within : IsCallWithin terms f.call

-- the walk has come so far
pub record IsWalking (program : Program) (models : List ModelData) (tops : Tops) (terms : List Term) (fs : List Finished) (path : List NumberedCall) : Type 0 where
  pub tops_are : AreTopsFound program models terms tops
  pub path_is : IsPath (path_in terms path)
  pub path_within : All (IsCallWithin terms) path
  pub finished : (f : Finished) → Contains fs f → IsFinished program models terms fs f
  pub apart : (f : Finished) → Contains fs f → Contains (path_in terms path) (call_of terms f.call) → ⊥
  pub whole : (x : Walked) → Contains (walk_in terms fs) x → IsWhole program models (entries_in terms tops.entries) (walk_in terms fs) x
  pub once : AllPairs (λ x y. x.call ≢ y.call) (walk_in terms fs)

-- ---- a call at which the walk comes

-- the path leads to it
pub record IsNext (program : Program) (models : List ModelData) (terms : List Term) (path : List NumberedCall) (c : NumberedCall) : Type 0 where
  pub leads : LeadsTo program models (path_in terms path) (call_of terms c)
  pub within : IsCallWithin terms c

-- it isn't on the path, and hasn't been walked
pub record IsNew (terms : List Term) (fs : List Finished) (path : List NumberedCall) (c : NumberedCall) : Type 0 where
  pub off : Contains (path_in terms path) (call_of terms c) → ⊥
  pub unwalked : (f : Finished) → Contains fs f → call_of terms f.call ≡ call_of terms c → ⊥

-- what is told where the path can't go on
abbrev pub IsBlocked : List NumberedCall → NumberedCall → Option WalkEnd → Type 0
IsBlocked path c None = ¬ Contains path c × (length path < MAX_CALLS)
IsBlocked path c (Some (ends.Cycle chain)) = (chain ≡ path ++ c ∷ []) × Contains path c
IsBlocked path c (Some (ends.Deep chain)) = (chain ≡ path ++ c ∷ []) × ¬ Contains path c × (MAX_CALLS ≤ length path)
IsBlocked path c (Some end) = ⊥

-- the path goes on with a call that has been walked, or a chain is told that is too long
abbrev pub HasPassed : List Finished → List NumberedCall → NumberedCall → ℕ → Reached → Type 0
HasPassed fs path c n (reached.At m) = (m ≡ n) × (length path + suc (height_in fs n) ≤ MAX_CALLS)
HasPassed fs path c n (reached.Ended (ends.Deep chain)) =
    (more : List NumberedCall) × (last : ℕ) × (chain ≡ (path ++ c ∷ []) ++ more) × IsWay fs n more last × (length chain ≡ suc MAX_CALLS)
HasPassed fs path c n (reached.Ended end) = ⊥

-- ---- steps

-- more has been walked, and the path is as it was
pub record IsFurther (program : Program) (models : List ModelData) (tops : Tops) (fs : List Finished) (path : List NumberedCall)
    (terms : List Term) (after : List Finished) (path_after : List NumberedCall) : Type 0 where
  pub same_path : path_after ≡ path
  pub more : List Finished
  pub grown : after ≡ fs ++ more
  pub walking : IsWalking program models tops terms after path_after

-- the call stands at the place, and no chain over it is too long
pub record IsReachedAt (fs : List Finished) (path : List NumberedCall) (c : NumberedCall) (n : ℕ) : Type 0 where
  pub by : Finished
  pub at : slice_get fs n ≡ Some by
  pub call : by.call ≡ c
  pub room : length path + suc by.height ≤ MAX_CALLS

-- this is the height over the calls, and no chain over them is too long
pub record IsHigh (fs : List Finished) (path : List NumberedCall) (calls : List NumberedCall) (h : Height) : Type 0 where
  pub each : (c : NumberedCall) → Contains calls c → (f : Finished) × Contains fs f × (f.call ≡ c) × (f.height < h.height)
  pub behind : MatchOption h.behind (h.height ≡ 0) (λ n. (f : Finished) × (slice_get fs n ≡ Some f) × Contains calls f.call × (h.height ≡ suc f.height))
  pub room : length path + h.height ≤ MAX_CALLS

abbrev pub HasReached : Program → List ModelData → Tops → List Finished → List NumberedCall → NumberedCall → List Term → List Finished → List NumberedCall → Reached → Type 0
HasReached program models tops fs path c terms after path_after (reached.At n) = IsFurther program models tops fs path terms after path_after × IsReachedAt after path_after c n
HasReached program models tops fs path c terms after path_after (reached.Ended end) = IsWalkEnd program models terms end

abbrev pub HasReachedAll : Program → List ModelData → Tops → List Finished → List NumberedCall → List NumberedCall → List Term → List Finished → List NumberedCall → Reaches → Type 0
HasReachedAll program models tops fs path calls terms after path_after (reaches.All h) = IsFurther program models tops fs path terms after path_after × IsHigh after path_after calls h
HasReachedAll program models tops fs path calls terms after path_after (reaches.Ended end) = IsWalkEnd program models terms end

-- ---- the whole walk

pub record IsWalked (program : Program) (models : List ModelData) (terms : List Term) (tops : Tops) (fs : List Finished) : Type 0 where
  pub walking : IsWalking program models tops terms fs []
  pub each : (c : NumberedCall) → Contains tops.calls c → (f : Finished) × Contains fs f × (f.call ≡ c) × (f.height < MAX_CALLS)

abbrev pub HasWalked : Program → List ModelData → List Term → Tops → FromTops → Type 0
HasWalked program models terms tops (from.All fs) = IsWalked program models terms tops fs
HasWalked program models terms tops (from.Ended end) = IsWalkEnd program models terms end
