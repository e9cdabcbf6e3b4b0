-- Wrong answers that the definitions exclude, each on a small case: what the definition gives, and that it isn't what the wrong
-- code would answer. A contract says that the code's result is what the definition gives, so it refuses that code.
use Rattle.std.specs.Prelude.{◌≡◌, ℕ, true, false, List, [], ◌∷◌}
use Rattle.std.proofs.Common.{refl}
use Rattle.qvtr_semantics.specs.SmallModels.{rdb}
use Rattle.repair_semantics.specs.Claims.{Held, Fact, Claim, is_against}
use Rattle.repair_semantics.specs.Images.{same_number}
use Rattle.repair_semantics.specs.Candidates.{others_than, with_claimed}
use Rattle.slot_claims.specs.ObjectClaims.{slot_claim}

-- ---- a slot that holds the object 3, which is claimed too

abbrev three : List (Held ℕ)
three = Held.object 3 ∷ []

pub nothing_is_added : others_than three three ≡ []
nothing_is_added = refl

-- an element that is kept comes twice
pub kept_element_comes_twice : with_claimed three three ≡ Held.object 3 ∷ Held.object 3 ∷ [] → ⊥
kept_element_comes_twice e = cc

-- ---- the schema 0 has the table 5, for which the schema 3 is claimed

abbrev tables_of_schema : Fact ℕ
tables_of_schema = record { owner = 0; prop = 1; holds = Held.object 5 }

abbrev other_schema : List (Claim ℕ)
other_schema = slot_claim 5 2 (Held.object 3) ∷ []

pub link_is_displaced : is_against rdb same_number other_schema tables_of_schema ≡ true
link_is_displaced = refl

-- what is claimed of the other end displaces nothing
pub other_end_displaces_nothing : is_against rdb same_number other_schema tables_of_schema ≡ false → ⊥
other_end_displaces_nothing e = cc
