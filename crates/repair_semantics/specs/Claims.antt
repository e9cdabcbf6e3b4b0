-- Claims: what a value or a link says of single places: of slots at both ends, and of the container of a part (MOF 2.5.1, Reflection: a link
-- is one pair of an association; UML 2.5.1, 9.5.3: composition). Demands, conflicts between them, and what is displaced in a model are
-- told by them. Objects are terms, or numbers in a model.
use Rattle.std.specs.Prelude.{ℕ, Bool, true, false, ◌&&◌, not, ◌==◌, List, [], ◌∷◌, ◌++◌, Option, None, Some}
use Rattle.std.specs.List.{list_any}
use Rattle.mof_metamodel.specs.declared.desc.MetaDesc.{MetaDesc}
use Rattle.mof_metamodel.specs.Metamodels.{prop_at, opposite_of}
use Rattle.qvtr_semantics.specs.declared.datum.Datum.{Datum}
use Rattle.qvtr_semantics.specs.Data.{same_datum}

-- what a slot holds: a datum, or an object
pub data Held (X : Type 0) : Type 0 where
  datum : Datum → Held X
  object : X → Held X

-- an object has the value, or is linked to the object, at a property
pub record Fact (X : Type 0) : Type 0 where
  pub owner : X
  pub prop : ℕ
  pub holds : Held X

-- a place: the slot of an object at a property, or the container of an object
pub data Spot (X : Type 0) : Type 0 where
  slot : X → ℕ → Spot X
  container : X → Spot X

-- what stands at a place: an element of the slot, or the container with its property
pub data Said (X : Type 0) : Type 0 where
  element : Held X → Said X
  within : X → ℕ → Said X

-- that something stands at a place
pub record Claim (X : Type 0) : Type 0 where
  pub spot : Spot X
  pub said : Said X

-- ---- the claims of a fact

-- what a composite property says: the part has this container
abbrev pub part_claim : {X : Type 0} → Bool → X → X → ℕ → List (Claim X)
part_claim true part whole p = record { spot = Spot.container part; said = Said.within whole p } ∷ []
part_claim false part whole p = []

-- at the other end of a link, where it has a name
abbrev pub opposite_claims : {X : Type 0} → MetaDesc → X → X → Option ℕ → List (Claim X)
opposite_claims meta a b None = []
opposite_claims meta a b (Some q) = record { spot = Spot.slot b q; said = Said.element (Held.object a) } ∷ part_claim (prop_at meta q).composite a b q

-- what a link says beyond its own slot
abbrev pub far_claims : {X : Type 0} → MetaDesc → X → ℕ → Held X → List (Claim X)
far_claims meta a p (Held.datum d) = []
far_claims meta a p (Held.object b) = opposite_claims meta a b (opposite_of meta p) ++ part_claim (prop_at meta p).composite b a p

-- its own slot holds the value; of a link the slot at the other end holds the owner, and the part has the other one for its container
abbrev pub claims_of : {X : Type 0} → MetaDesc → Fact X → List (Claim X)
claims_of meta f = record { spot = Spot.slot f.owner f.prop; said = Said.element f.holds } ∷ far_claims meta f.owner f.prop f.holds

-- ---- claims that exclude each other

-- the upper bound is 1
abbrev pub is_one : Option ℕ → Bool
is_one None = false
is_one (Some n) = n == 1

-- at most one thing stands at the place
abbrev pub is_single_spot : {X : Type 0} → MetaDesc → Spot X → Bool
is_single_spot meta (Spot.slot x p) = is_one (prop_at meta p).upper
is_single_spot meta (Spot.container x) = true

-- the slots hold the same, where objects are told apart by a test
abbrev pub same_held : {X : Type 0} → (X → X → Bool) → Held X → Held X → Bool
same_held same (Held.datum d) (Held.datum e) = same_datum d e
same_held same (Held.object x) (Held.object y) = same x y
same_held same h i = false

-- the places are one
abbrev pub same_spot : {X : Type 0} → (X → X → Bool) → Spot X → Spot X → Bool
same_spot same (Spot.slot x p) (Spot.slot y q) = same x y && (p == q)
same_spot same (Spot.container x) (Spot.container y) = same x y
same_spot same s t = false

-- the same stands there
abbrev pub same_said : {X : Type 0} → (X → X → Bool) → Said X → Said X → Bool
same_said same (Said.element h) (Said.element i) = same_held same h i
same_said same (Said.within x p) (Said.within y q) = same x y && (p == q)
same_said same a b = false

-- two claims of one single place that differ
abbrev pub are_against : {X : Type 0} → MetaDesc → (X → X → Bool) → Claim X → Claim X → Bool
are_against meta same c d = same_spot same c.spot d.spot && is_single_spot meta c.spot && not (same_said same c.said d.said)

-- a claim of the fact and one of the list are two of one single place that differ
abbrev pub is_against : {X : Type 0} → MetaDesc → (X → X → Bool) → List (Claim X) → Fact X → Bool
is_against meta same claims f = list_any (λ c. list_any (are_against meta same c) claims) (claims_of meta f)
