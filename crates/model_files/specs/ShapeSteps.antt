-- Where a value differs from the form of a model, found member by member.
use Rattle.std.specs.Prelude.{ℕ, List, [], ◌∷◌, Option, None, Some, drop}
use Rattle.std.specs.Option.{option_or}
use Rattle.std.specs.Ordering.{nat_cmp, match_ordering}
use Rattle.std.specs.Cmp.Lexicographic.{slice_cmp}
use Rattle.serde_json.specs.Data.{Data}
use Rattle.model_files.specs.declared.shape.ModelMember.{ModelMember}
use Rattle.model_files.specs.declared.shape.ModelMember.TheVariants as models
use Rattle.model_files.specs.declared.shape.ObjectMember.{ObjectMember}
use Rattle.model_files.specs.declared.shape.ObjectMember.TheVariants as objects
use Rattle.model_files.specs.Shape.{Path, Expected, at_member, model_members, object_members}

-- the members that are expected of an object of the list from this one on
abbrev pub object_from : Option ObjectMember → Expected
object_from None = []
object_from (Some objects.Class) = object_members
object_from (Some objects.Id) = drop 1 object_members
object_from (Some objects.Slots) = drop 2 object_members

-- those that are expected of the whole value
abbrev pub model_from : Option ModelMember → Expected
model_from None = []
model_from (Some models.Metamodel) = model_members
model_from (Some models.Objects) = drop 1 model_members
model_from (Some models.Version) = drop 2 model_members

-- the name of the member that is expected next
abbrev pub next_name : Expected → Option (List ℕ)
next_name [] = None
next_name (wanted ∷ rest) = Some wanted.0

-- where an object is amiss by the name of its next member
abbrev pub amiss_by_name : Path → Option (List ℕ) → List ℕ → Option Path
amiss_by_name path None name = Some (at_member path name)
amiss_by_name path (Some wanted) name =
    match_ordering (slice_cmp nat_cmp name wanted) (Some (at_member path name)) None (Some (at_member path wanted))

-- where the value of the member that is expected next is amiss
abbrev pub amiss_by_value : Expected → Path → Data → Option Path
amiss_by_value [] path d = None
amiss_by_value (wanted ∷ rest) path d = wanted.1 path d

-- where an object is amiss by its next member
abbrev pub amiss_next : Path → Expected → List ℕ → Data → Option Path
amiss_next path expected name d = option_or (amiss_by_name path (next_name expected) name) (amiss_by_value expected (at_member path name) d)

-- where an object is amiss that has no more members
abbrev pub amiss_at_end : Path → Option (List ℕ) → Option Path
amiss_at_end path None = None
amiss_at_end path (Some wanted) = Some (at_member path wanted)
