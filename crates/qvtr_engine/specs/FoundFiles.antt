-- What files are, each with the name that it has in the words.
use Rattle.std.specs.Prelude.{◌≡◌, ℕ, true, List, [], ◌∷◌, map, chars, slice_get, Option, None, Some, if◌then◌else◌}
use Rattle.std.specs.Option.{unwrap_or}
use Rattle.mof_metamodel.specs.Characters.{same_name}
use Rattle.qvtr_engine.specs.declared.numbering_inputs.Found.{Found}

abbrev pub items_of : {A : Type 0} → List (Found A) → List A
items_of found = map (λ f. f.item) found

-- the names as characters
abbrev pub names_of : {A : Type 0} → List (Found A) → List (List ℕ)
names_of found = map (λ f. chars f.name.now) found

-- that of a name
abbrev pub item_named : {A : Type 0} → List (Found A) → List ℕ → Option A
item_named [] name = None
item_named (f ∷ found) name = if same_name name (chars f.name.now) then Some f.item else item_named found name

-- those of names, in their order
abbrev pub items_named : {A : Type 0} → A → List (Found A) → List (List ℕ) → List A
items_named other found names = map (λ name. unwrap_or (item_named found name) other) names

-- the first of this name stands at this place
pub record StandsAt {A : Type 0} (found : List (Found A)) (name : List ℕ) (place : ℕ) : Type 0 where
  pub entry : Found A
  pub there : slice_get found place ≡ Some entry
  pub named : same_name name (chars entry.name.now) ≡ true
  pub first : item_named found name ≡ Some entry.item
