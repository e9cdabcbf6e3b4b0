-- A model without its links (MOF 2.5.1, Reflection: a link is one pair of an association), and models that lose some of them.
use Rattle.std.specs.Prelude.{◌≡◌, ℕ, [], map, Option, None, Some}
use Rattle.object_tables.specs.Objects.{Object, Slot}
use Rattle.object_tables.specs.Kept.{Kept}
use Rattle.object_tables.specs.Models.{ModelData, values_at, IsLinked}
use Rattle.model_filling.specs.Counterparts.{HasObjectsOf}

abbrev pub slot_without_links : Slot → Slot
slot_without_links s = record s { partners = [] }

abbrev pub object_without_links : Option Object → Option Object
object_without_links None = None
object_without_links (Some object) = Some (record object { slots = map slot_without_links object.slots })

-- the same objects with the same values, and no partners
abbrev pub without_links : ModelData → ModelData
without_links m = record m { objects = map object_without_links m.objects }

-- no object has a partner
abbrev pub HasNoLinks : ModelData → Type 0
HasNoLinks m = (p a b : ℕ) → ¬ IsLinked m p a b

-- the objects and values are as they were, and each link was there
pub record Loses (old new : ModelData) : Type 0 where
  pub kept : Kept new
  pub objects : HasObjectsOf new old
  pub values : (o p : ℕ) → values_at new o p ≡ values_at old o p
  pub links : (p a b : ℕ) → IsLinked new p a b → IsLinked old p a b
