-- Calls that have been walked, by their places in a list, and the ways behind them.
use Rattle.std.specs.Prelude.{◌≡◌, ℕ, suc, List, [], ◌∷◌, Option, Some, slice_get, MatchOption, nat_lt, if◌then◌else◌}
use Rattle.std.specs.Option.{option_map_or}
use Rattle.std.specs.Map.{lookup}
use Rattle.std.specs.BTreeMap.{is_at}
use Rattle.entry_making.specs.declared.numbered_call.NumberedCall.{NumberedCall}
use Rattle.entry_finding.specs.declared.numbered_entry.NumberedEntry.{NumberedEntry}
use Rattle.entry_finding.specs.declared.found.Found.{Found}
use Rattle.entry_walk.specs.declared.call_key.CallKey.{CallKey}
use Rattle.entry_walk.specs.declared.ends.Height.{Height}
use Rattle.entry_walk.specs.declared.finished.Finished.{Finished}
use Rattle.entry_walk.specs.CallOrder.{key_order}

abbrev pub entries_of : Finished → List NumberedEntry
entries_of f = f.entries

-- the call stands at this place
abbrev pub IsFinishedAt : List Finished → ℕ → NumberedCall → Type 0
IsFinishedAt fs n c = (f : Finished) × (slice_get fs n ≡ Some f) × (f.call ≡ c)

-- the call stands at none
abbrev pub IsUnfinished : List Finished → NumberedCall → Type 0
IsUnfinished fs c = (n : ℕ) → IsFinishedAt fs n c → ⊥

abbrev pub key_for : NumberedCall → CallKey
key_for c = record { call = c }

-- the place of a call in a table of places
abbrev pub place_in : List (CallKey × ℕ) → NumberedCall → Option ℕ
place_in places c = lookup (is_at (key_order (key_for c))) places

-- each call is found at its place, and at no other
pub record IsIndexed (fs : List Finished) (places : List (CallKey × ℕ)) : Type 0 where
  pub found : (c : NumberedCall) (n : ℕ) → place_in places c ≡ Some n → IsFinishedAt fs n c
  pub known : (c : NumberedCall) (n : ℕ) → IsFinishedAt fs n c → place_in places c ≡ Some n

-- ---- heights

abbrev pub height_in : List Finished → ℕ → ℕ
height_in fs n = option_map_or (λ f. f.height) (slice_get fs n) 0

-- a call that is one step higher than the one behind it, or has none behind it
abbrev pub IsStepped : List Finished → Finished → Type 0
IsStepped fs f = MatchOption f.behind (f.height ≡ 0) (λ n. (g : Finished) × (slice_get fs n ≡ Some g) × (f.height ≡ suc g.height))

abbrev pub AreStepped : List Finished → Type 0
AreStepped fs = (n : ℕ) (f : Finished) → slice_get fs n ≡ Some f → IsStepped fs f

-- the height over calls with one more
abbrev pub higher : List Finished → Height → ℕ → Height
higher fs h n = if nat_lt (height_in fs n) h.height then h else record { height = suc (height_in fs n); behind = Some n }

-- a call that is finished with this height
abbrev pub finished_by : NumberedCall → Found → Height → Finished
finished_by c found h = record { call = c; entries = found.entries; height = h.height; behind = h.behind }

-- ---- ways behind a call

abbrev pub IsBehind : List Finished → ℕ → ℕ → Type 0
IsBehind fs n m = (f : Finished) × (slice_get fs n ≡ Some f) × (f.behind ≡ Some m)

-- from a call by these to the last of them, each behind the one before it
abbrev pub IsWay : List Finished → ℕ → List NumberedCall → ℕ → Type 0
IsWay fs n [] last = n ≡ last
IsWay fs n (c ∷ cs) last = (m : ℕ) × IsBehind fs n m × IsFinishedAt fs m c × IsWay fs m cs last
