-- Which values of JSON have the form of a model, and where another one first differs: an object with the members `metamodel`, a text,
-- `objects`, a list, and `version`, the number 1; each object of the list with the members `class` and `id`, texts, and `slots`, an
-- object whose members are lists. No other members stand there.
--
-- A place is told by its path: a `/` before the name of each member and the number of each item that lead to it (RFC 6901, without
-- its escapes). Places go in the order of their members by name, and of their items by number.
use Rattle.std.specs.Prelude.{ℕ, suc, ◌==◌, Bool, true, false, List, [], ◌∷◌, ◌++◌, codes, chars, Option, None, Some, if◌then◌else◌}
use Rattle.std.specs.Fmt.{decimal}
use Rattle.std.specs.Option.{option_or}
use Rattle.std.specs.Ordering.{nat_cmp, match_ordering}
use Rattle.std.specs.Cmp.Lexicographic.{slice_cmp}
use Rattle.serde_json.specs.Data.{unsigned, Data, number, string, array, object, Items, no_items, item, Members, no_members, member}

abbrev pub Path : Type 0
Path = List ℕ

-- a path with one step more
abbrev pub stepped : Path → List ℕ → Path
stepped path step = path ++ 47 ∷ step

abbrev pub at_member : Path → List ℕ → Path
at_member path name = stepped path (chars name)

abbrev pub at_item : Path → ℕ → Path
at_item path place = stepped path (decimal place)

-- What may stand at a place

abbrev pub is_text : Data → Bool
is_text (string s) = true
is_text d = false

abbrev pub is_list : Data → Bool
is_list (array ds) = true
is_list d = false

abbrev pub is_one : Data → Bool
is_one (number (unsigned n)) = n == 1
is_one d = false

-- the path, unless the test holds there
abbrev pub unless : Bool → Path → Option Path
unless holds path = if holds then None else Some path

-- Members that have to stand in an object, in the order of their names, each with what is amiss of it at a path

abbrev pub Expected : Type 0
Expected = List (List ℕ × (Path → Data → Option Path))

-- The first of the expected members that is missing or amiss, or of the others, by name
abbrev pub amiss_in : Path → Expected → Members → Option Path
amiss_in path [] no_members = None
amiss_in path [] (member name d others) = Some (at_member path name)
amiss_in path (wanted ∷ rest) no_members = Some (at_member path wanted.0)
amiss_in path (wanted ∷ rest) (member name d others) =
    match_ordering (slice_cmp nat_cmp name wanted.0)
    (Some (at_member path name))
    (option_or (wanted.1 (at_member path name) d) (amiss_in path rest others))
    (Some (at_member path wanted.0))

abbrev pub amiss_object : Expected → Path → Data → Option Path
amiss_object expected path (object members) = amiss_in path expected members
amiss_object expected path d = Some path

-- slots: each is a list
abbrev pub amiss_slots_in : Path → Members → Option Path
amiss_slots_in path no_members = None
amiss_slots_in path (member name d others) = option_or (unless (is_list d) (at_member path name)) (amiss_slots_in path others)

abbrev pub amiss_slots : Path → Data → Option Path
amiss_slots path (object members) = amiss_slots_in path members
amiss_slots path d = Some path

abbrev pub object_members : Expected
object_members =
    (codes "class", λ path d. unless (is_text d) path)
    ∷ (codes "id", λ path d. unless (is_text d) path)
    ∷ (codes "slots", amiss_slots)
    ∷ []

-- objects from a number on
abbrev pub amiss_objects_in : Path → ℕ → Items → Option Path
amiss_objects_in path place no_items = None
amiss_objects_in path place (item d ds) = option_or (amiss_object object_members (at_item path place) d) (amiss_objects_in path (suc place) ds)

abbrev pub amiss_objects : Path → Data → Option Path
amiss_objects path (array ds) = amiss_objects_in path 0 ds
amiss_objects path d = Some path

abbrev pub model_members : Expected
model_members =
    (codes "metamodel", λ path d. unless (is_text d) path)
    ∷ (codes "objects", amiss_objects)
    ∷ (codes "version", λ path d. unless (is_one d) path)
    ∷ []

-- where the value first differs from the form of a model
abbrev pub first_amiss : Data → Option Path
first_amiss d = amiss_object model_members [] d
