-- What becomes of the objects of a target, as a table by their numbers (QVT 1.3, sections 7.2 and 7.10.2; which objects go is this
-- engine's own).
use Rattle.std.specs.Prelude.{◌≡◌, ◌<◌, ℕ, Bool, true, false, List, map, length, if◌then◌else◌, slice_index_or}
use Rattle.std.specs.List.{list_any}
use Rattle.object_tables.specs.Models.{ModelData}
use Rattle.qvtr_semantics.specs.Objects.{is_number_among, conforms_at}
use Rattle.repair_semantics.specs.Deletions as deletions
use Rattle.staying_objects.specs.declared.fate.Fate.{Fate}
use Rattle.staying_objects.specs.declared.fate.Fate.TheVariants as fates
use Rattle.staying_objects.specs.declared.repair.Repair.{Repair}

-- ---- the definitions of deletions, of a repair

abbrev pub target_of : Repair → ModelData
target_of r = r.target.now

abbrev pub classes_of : Repair → List ℕ
classes_of r = map (λ c. c.0) r.classes.now

abbrev pub images_of : Repair → List ℕ
images_of r = map (λ o. o.0) r.images.now

abbrev pub is_image : Repair → ℕ → Bool
is_image r o = is_number_among o (images_of r)

-- the object is of a managed class
abbrev pub is_managed : Repair → ℕ → Bool
is_managed r o = list_any (λ class. conforms_at (target_of r) class o) (classes_of r)

abbrev pub is_deleted : Repair → ℕ → Bool
is_deleted r o = deletions.is_deleted (target_of r) (classes_of r) (images_of r) o

abbrev pub stays : Repair → ℕ → Bool
stays r o = deletions.stays (target_of r) (classes_of r) (images_of r) o

-- ---- fates

-- what is known before any container is looked at
abbrev pub first_fate : Repair → ℕ → Fate
first_fate r o = if is_image r o then fates.Stays else if is_managed r o then fates.Goes else fates.Open

-- the fate of an object that goes, or stays
abbrev pub known_fate : Bool → Fate
known_fate true = fates.Goes
known_fate false = fates.Stays

-- the object is known to go
abbrev pub is_going : Fate → Bool
is_going fates.Open = false
is_going fates.Stays = false
is_going fates.Goes = true

-- no demand asks for the object, and it is of no managed class: it goes with its container
pub record IsOpen (r : Repair) (o : ℕ) : Type 0 where
  pub managed : is_managed r o ≡ false
  pub image : is_image r o ≡ false

-- what a fate says of an object
abbrev pub IsFate : Repair → ℕ → Fate → Type 0
IsFate r o fates.Open = IsOpen r o
IsFate r o fates.Stays = is_deleted r o ≡ false
IsFate r o fates.Goes = is_deleted r o ≡ true

-- the fate of an object; a number past the end has none
abbrev pub fate_at : List Fate → ℕ → Fate
fate_at table o = slice_index_or table o fates.Open

-- a fate for each object
pub record AreFates (r : Repair) (table : List Fate) : Type 0 where
  pub count : length table ≡ length (target_of r).objects
  pub each : (o : ℕ) → o < length (target_of r).objects → IsFate r o (fate_at table o)
