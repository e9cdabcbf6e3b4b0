-- The files of a vault, and what a read of one gives.
use Rattle.std.specs.Prelude.{◌≡◌, ◌↔◌, ℕ, ◌-◌, ◌<◌, ◌≤◌, ◌⊎◌, List, length, take, drop}
use Rattle.std.specs.Prelude.{Option, None, Some, IfSome, IsSomeAnd}
use Rattle.std.specs.Ordering.{nat_cmp}
use Rattle.std.specs.Cmp.Lexicographic.{slice_cmp}
use Rattle.std.specs.FinMap.{FinMap, get, insert}
use Rattle.vault_io.specs.Counts.{Rose}

-- files by name: from the bytes of a name, in UTF-8, to the bytes of the file
abbrev pub Files : Type 0
Files = FinMap (slice_cmp nat_cmp) (List ℕ)

-- the files with a name bound to these bytes, and all others as they are; where nothing is told, nothing is
abbrev pub bound : Option Files → List ℕ → List ℕ → Option Files
bound None name bytes = None
bound (Some files) name bytes = Some (insert files name bytes)

-- the vault tells its files, and has none of this name
abbrev pub Lacks : Option Files → List ℕ → Type 0
Lacks None name = ⊥
Lacks (Some files) name = get files name ≡ None

-- where the files are told, there is one of this name, and its bytes are such
abbrev pub OfFile : Option Files → List ℕ → (List ℕ → Type 0) → Type 0
OfFile told name P = IfSome told (λ files. IsSomeAnd (get files name) P)

-- n bytes of a file from a place on stand at the front of a buffer; where the buffer has room,
-- there is none exactly at or past the end
pub record Reads (file : List ℕ) (at n : ℕ) (buffer : List ℕ) : Type 0 where
  pub within : n ≤ length file - at
  pub bytes : take n buffer ≡ take n (drop at file)
  pub ends : 0 < length buffer → (n ≡ 0) ↔ (length file ≤ at)

-- a read may fail: the count of faults rose in it or stands at its last value, or there is no such file
abbrev pub MayFail : Option Files → List ℕ → ℕ → ℕ → Type 0
MayFail files name before after = Rose before after ⊎ Lacks files name
