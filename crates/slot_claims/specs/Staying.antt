-- Which objects of the target stay, by their numbers, and which of their elements slots keep.
use Rattle.std.specs.Prelude.{ℕ, Bool, false, ◌&&◌, not, List, slice_index_or}
use Rattle.mof_metamodel.specs.declared.desc.MetaDesc.{MetaDesc}
use Rattle.repair_semantics.specs.Claims.{Held, Claim, is_against}
use Rattle.repair_semantics.specs.Images.{same_number}
use Rattle.repair_semantics.specs.Candidates.{is_left, fact_at}

-- the object of the number stays
abbrev pub is_staying : List Bool → ℕ → Bool
is_staying staying o = slice_index_or staying o false

-- an old element of a slot is left, and no claim displaces it
abbrev pub is_kept : MetaDesc → (ℕ → Bool) → List (Claim ℕ) → ℕ → ℕ → Held ℕ → Bool
is_kept meta live claims o p h = is_left live h && not (is_against meta same_number claims (fact_at o p h))
