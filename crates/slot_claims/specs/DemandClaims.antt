-- What numbered demands claim, where a list has the number of the object that each term is.
use Rattle.std.specs.Prelude.{ℕ, List, [], Option, Some, slice_get}
use Rattle.std.specs.List.{filter_map, flat_map}
use Rattle.std.specs.Option.{option_map, option_map_or, option_and_then}
use Rattle.mof_metamodel.specs.declared.desc.MetaDesc.{MetaDesc}
use Rattle.object_tables.specs.declared.value.ObjId.{ObjId}
use Rattle.term_table.specs.declared.numbered.NumberedValue.{NumberedValue}
use Rattle.term_table.specs.declared.numbered.NumberedValue.TheVariants as numbered
use Rattle.demand_conflicts.specs.declared.demand.NumberedDemand.{NumberedDemand}
use Rattle.repair_semantics.specs.Claims.{Held, Fact, Claim, claims_of}

-- the numbers of the objects that terms are, by the terms' numbers; none for a term that isn't demanded
abbrev pub ObjectNumbers : Type 0
ObjectNumbers = List (Option ObjId)

-- an object's number
abbrev pub object_number : Option ObjId → Option ℕ
object_number o = option_map (λ o. o.0) o

-- the number of the object that a term is
abbrev pub number_at : ObjectNumbers → ℕ → Option ℕ
number_at numbers t = option_and_then object_number (slice_get numbers t)

-- what a slot holds, where the value is a datum or a term that is an object
abbrev pub held_at : ObjectNumbers → NumberedValue → Option (Held ℕ)
held_at numbers (numbered.Val d) = Some (Held.datum d)
held_at numbers (numbered.Term t) = option_map (λ n. Held.object n) (number_at numbers t)

-- what a demand says, its objects by their numbers
abbrev pub fact_in : ObjectNumbers → NumberedDemand → Option (Fact ℕ)
fact_in numbers d =
    option_and_then (λ o. option_map (λ h. record { owner = o; prop = d.prop.0; holds = h }) (held_at numbers d.value)) (number_at numbers d.owner)

-- what a demand claims
abbrev pub demand_claims : MetaDesc → ObjectNumbers → NumberedDemand → List (Claim ℕ)
demand_claims meta numbers d = option_map_or (claims_of meta) (fact_in numbers d) []

-- what demands claim
abbrev pub all_claims : MetaDesc → ObjectNumbers → List NumberedDemand → List (Claim ℕ)
all_claims meta numbers ds = flat_map (claims_of meta) (filter_map (fact_in numbers) ds)
