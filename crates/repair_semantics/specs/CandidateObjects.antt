-- The objects of the model that enforcement makes: the objects of the target that stay, under their numbers, and after them a fresh one for each
-- demanded term without an image, in the order of terms (this engine's own).
use Rattle.std.specs.Prelude.{ℕ, ◌+◌, ◌-◌, nat_lt, Bool, false, not, List, ◌++◌, map, length, take, codes, Option, Some, is_none, slice_get, if◌then◌else◌}
use Rattle.std.specs.List.{list_any, filter, position, range_with_len}
use Rattle.std.specs.Option.{option_map, option_map_or}
use Rattle.std.specs.Fmt.{decimal}
use Rattle.mof_metamodel.specs.Characters.{same_name}
use Rattle.object_tables.specs.Objects.{Object}
use Rattle.object_tables.specs.Models.{ModelData}
use Rattle.qv_syntax.specs.declared.program.Program.{Program}
use Rattle.repair_semantics.specs.declared.term.Term.{Term}
use Rattle.repair_semantics.specs.Terms.{same_term}
use Rattle.repair_semantics.specs.Images.{image}

-- the demanded terms without an image, in order
abbrev pub fresh_terms : Program → ModelData → List Term → List Term
fresh_terms program m terms = filter (λ t. is_none (image program m t)) terms

-- ---- objects and their numbers

-- an object: one of the target, by its number there, or a fresh one, by its term
pub data CandidateObject : Type 0 where
  old : ℕ → CandidateObject
  fresh : Term → CandidateObject

-- the object that a demanded term is
abbrev pub object_for : Program → ModelData → Term → CandidateObject
object_for program m t = option_map_or (λ o. CandidateObject.old o) (image program m t) (CandidateObject.fresh t)

-- the number of an object: an old one keeps its own, and fresh ones have the next ones
abbrev pub number_of : Program → ModelData → List Term → CandidateObject → Option ℕ
number_of program m terms (CandidateObject.old o) = Some o
number_of program m terms (CandidateObject.fresh t) = option_map (λ k. length m.objects + k) (position (same_term t) (fresh_terms program m terms))

-- the object of a number
abbrev pub object_of : Program → ModelData → List Term → ℕ → Option CandidateObject
object_of program m terms n =
    if nat_lt n (length m.objects) then Some (CandidateObject.old n)
    else option_map (λ t. CandidateObject.fresh t) (slice_get (fresh_terms program m terms) (n - length m.objects))

-- the number of the object that a demanded term is
abbrev pub term_number : Program → ModelData → List Term → Term → Option ℕ
term_number program m terms t = number_of program m terms (object_for program m t)

-- ---- identifiers

-- `n` and a number
abbrev pub fresh_id : ℕ → List ℕ
fresh_id k = codes "n" ++ decimal k

-- the object has the identifier
abbrev pub has_id : List ℕ → Option Object → Bool
has_id id ob = option_map_or (λ o. same_name id o.id) ob false

-- an object of the target has the identifier
abbrev pub is_used : ModelData → List ℕ → Bool
is_used m id = list_any (has_id id) m.objects

-- The first so many of `n0`, `n1`, .. that no object of the target has. Of one more than there are objects at least one is unused.
abbrev pub unused_ids : ModelData → ℕ → List (List ℕ)
unused_ids m count = take count (filter (λ id. not (is_used m id)) (map fresh_id (range_with_len 0 (count + length m.objects))))
