-- What a sink holds after a piece.
use Rattle.std.specs.Prelude.{◌≡◌, ℕ, ◌<◌, ◌≤◌, List, ◌++◌, length, take, Option, None, Some}

-- a piece after what is told; where nothing is told, nothing is
abbrev pub appended : Option (List ℕ) → List ℕ → Option (List ℕ)
appended None piece = None
appended (Some bytes) piece = Some (bytes ++ piece)

-- the first n bytes of a piece were taken, and at least one where it has one
pub record Takes (piece : List ℕ) (n : ℕ) (before after : Option (List ℕ)) : Type 0 where
  pub within : n ≤ length piece
  pub some : 0 < length piece → 0 < n
  pub bytes : after ≡ appended before (take n piece)

-- a prefix of the bytes was appended, maybe none of them
abbrev pub AppendsPrefix : List ℕ → Option (List ℕ) → Option (List ℕ) → Type 0
AppendsPrefix bytes before after = (n : ℕ) × (n ≤ length bytes) × (after ≡ appended before (take n bytes))
