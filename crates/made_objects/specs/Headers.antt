-- Objects without what their slots hold, in models on their way to the one that is made (this engine's own).
use Rattle.std.specs.Prelude.{◌≡◌, ◌≤◌, ◌+◌, ◌==◌, ◌||◌, nat_lt, ℕ, Bool, false, not, List, [], ◌∷◌, ◌++◌, map, length, Option, None, Some, if◌then◌else◌}
use Rattle.std.specs.List.{filter, range_with_len}
use Rattle.std.specs.Option.{option_map}
use Rattle.mof_metamodel.specs.declared.desc.MetaDesc.{MetaDesc}
use Rattle.object_tables.specs.declared.limit.TheConstants.{MAX_OBJECTS}
use Rattle.object_tables.specs.Objects.{Object}
use Rattle.object_tables.specs.Models.{ModelData, object_at, id_at, HasId, live_count, new_object}
use Rattle.repair_semantics.specs.declared.term.Term.{Term, out-Term}
use Rattle.repair_semantics.specs.CandidateObjects.{fresh_id, is_used, unused_ids}
use Rattle.model_filling.specs.Unlinked.{HasNoLinks}
use Rattle.made_objects.specs.declared.identifiers.Unused.{Unused}

-- ---- objects that stay

-- an object's class and identifier
pub record Header : Type 0 where
  pub class : ℕ
  pub id : List ℕ

abbrev pub object_header : Object → Header
object_header object = record { class = object.class; id = object.id }

abbrev pub header : Option Object → Option Header
header object = option_map object_header object

abbrev pub header_at : ModelData → ℕ → Option Header
header_at m o = header (object_at m o)

-- of the objects of a model those that pass the test, under their numbers, without links
pub record KeepsWhere (m : ModelData) (test : ℕ → Bool) (made : ModelData) : Type 0 where
  pub meta : made.meta ≡ m.meta
  pub count : length made.objects ≡ length m.objects
  pub headers : (o : ℕ) → header_at made o ≡ (if test o then header_at m o else None)
  pub bare : HasNoLinks made

-- it is another object, or it stays
abbrev pub is_spared : ℕ → Bool → ℕ → Bool
is_spared o stays k = not (k == o) || stays

-- it has this number or a greater one, or it stays
abbrev pub is_left_from : ℕ → (ℕ → Bool) → ℕ → Bool
is_left_from first stays k = not (nat_lt k first) || stays k

-- ---- identifiers

-- those of the first so many of `n0`, `n1`, .. that no object has
abbrev pub unused_below : ModelData → ℕ → List (List ℕ)
unused_below m count = filter (λ id. not (is_used m id)) (map fresh_id (range_with_len 0 count))

-- the next of them that no object has
pub record IsNextUnused (m : ModelData) (from : ℕ) (found : Unused) : Type 0 where
  pub place : ℕ
  pub from_there : from ≤ place
  pub within : place ≤ from + length m.objects
  pub next : found.next ≡ place + 1
  pub id : found.id ≡ fresh_id place
  pub unused : is_used m found.id ≡ false
  pub ids : unused_below m found.next ≡ unused_below m from ++ found.id ∷ []

-- ---- fresh objects

-- bare objects for terms, with these identifiers
abbrev pub new_objects : MetaDesc → List Term → List (List ℕ) → List (Option Object)
new_objects meta [] ids = []
new_objects meta ts [] = []
new_objects meta (t ∷ ts) (id ∷ ids) = Some (new_object meta (out-Term t).class.0 id) ∷ new_objects meta ts ids

-- a model with such objects behind the others
abbrev pub with_new : ModelData → List Term → List (List ℕ) → ModelData
with_new made terms ids = record made { objects = made.objects ++ new_objects made.meta terms ids }

-- a model with fresh objects for terms behind the others, with identifiers that no object of the target has
abbrev pub with_fresh : ModelData → ModelData → List Term → ModelData
with_fresh m made terms = with_new made terms (unused_ids m (length terms))

-- so many objects with identifiers that the target's haven't can be put behind the objects of the model
pub record HasRoom (m : ModelData) (count : ℕ) (made : ModelData) : Type 0 where
  pub meta : made.meta ≡ m.meta
  pub numbers : length made.objects ≡ length m.objects
  pub identifiers : (o : ℕ) (id : List ℕ) → id_at made o ≡ Some id → HasId m id
  pub few : live_count made + count ≤ MAX_OBJECTS
  pub room : length m.objects ≤ 3_999_000_000
