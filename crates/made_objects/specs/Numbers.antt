-- Which objects terms are, as a list by their numbers has them (this engine's own).
use Rattle.std.specs.Prelude.{◌+◌, ℕ, List, Option, None, Some, nat_eq, is_none, slice_get, slice_index_or}
use Rattle.std.specs.List.{filter, filter_map, position}
use Rattle.std.specs.Option.{option_map, option_map_or, option_and_then}
use Rattle.object_tables.specs.declared.value.ObjId.{ObjId}

-- an object's number
abbrev pub object_number : Option ObjId → Option ℕ
object_number o = option_map (λ o. o.0) o

-- the number of the object that a term is, by the term's number
abbrev pub number_at : List (Option ObjId) → ℕ → Option ℕ
number_at objects t = option_and_then object_number (slice_get objects t)

-- what the list has at a number, none outside
abbrev pub object_in : List (Option ObjId) → ℕ → Option ObjId
object_in objects t = slice_index_or objects t None

-- the objects of those of the terms that have one
abbrev pub known_in : List (Option ObjId) → List ℕ → List ObjId
known_in objects terms = filter_map (object_in objects) terms

-- those of the terms that have none
abbrev pub unknown_in : List (Option ObjId) → List ℕ → List ℕ
unknown_in objects terms = filter (λ t. is_none (object_in objects t)) terms

-- the object of a term where the fresh ones have the numbers from the end on, in their order
abbrev pub numbered_at : List (Option ObjId) → ℕ → List ℕ → ℕ → Option ObjId
numbered_at objects end fresh t = option_map_or (λ k. Some (record { 0 = end + k })) (position (nat_eq t) fresh) (object_in objects t)
