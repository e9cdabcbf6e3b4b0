-- Searches through names by a test.
use Rattle.std.specs.Prelude.{◌≡◌, ℕ, Bool, true, false, ◌&&◌, not, if◌then◌else◌, List, [], Some, take, slice_get, slice_index_or, All}
use Rattle.std.specs.Set.{is_member}
use Rattle.mof_metamodel.specs.Characters.{same_name}

-- the first name that fails the test stands at this place
pub record IsFirstOther (test : List ℕ → Bool) (names : List (List ℕ)) (place : ℕ) : Type 0 where
  pub name : List ℕ
  pub found : slice_get names place ≡ Some name
  pub other : test name ≡ false
  pub before : All (λ n. test n ≡ true) (take place names)

-- one for the name at a place, where it passes the test and doesn't stand before
abbrev pub counted_at : (List ℕ → Bool) → List (List ℕ) → ℕ → ℕ
counted_at test names i = let name = slice_index_or names i [] in if test name && not (is_member same_name (take i names) name) then 1 else 0
