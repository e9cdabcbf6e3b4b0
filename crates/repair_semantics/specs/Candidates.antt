-- The model that enforcement makes of the target (QVT 1.3, section 7.2 on enforcement; which model it is, is this engine's own): the demanded
-- values and links, and each old one between objects that stay which no demand displaces. In each slot the old elements keep their order, and
-- new ones follow, values in value order and partners by number.
use Rattle.std.specs.Prelude.{ℕ, suc, Bool, true, ◌&&◌, not, ◌==◌, List, [], ◌∷◌, ◌++◌, map, length, Option, None, Some, if◌then◌else◌}
use Rattle.std.specs.List.{list_any, filter, filter_map, flat_map, range_with_len}
use Rattle.std.specs.Option.{option_map, option_and_then}
use Rattle.std.specs.Ordering.{nat_cmp}
use Rattle.std.specs.declared.cmp.Ordering.{Ordering}
use Rattle.std.specs.declared.cmp.Ordering.TheVariants.{Less, Greater}
use Rattle.mof_metamodel.specs.declared.desc.MetaDesc.{MetaDesc}
use Rattle.mof_metamodel.specs.Metamodels.{props_of}
use Rattle.object_tables.specs.declared.value.Value.{Value}
use Rattle.object_tables.specs.Objects.{Object, Slot}
use Rattle.object_tables.specs.Models.{ModelData, object_at}
use Rattle.qv_syntax.specs.declared.program.Program.{Program}
use Rattle.qvtr_semantics.specs.Outs.{value_of_datum}
use Rattle.ocl_eval.specs.Order.{datum_order}
use Rattle.repair_semantics.specs.declared.term.Term.{Term, out-Term}
use Rattle.repair_semantics.specs.declared.demand.Demand.{Demand}
use Rattle.repair_semantics.specs.Terms.{each_once}
use Rattle.repair_semantics.specs.Demands.{demanded_terms}
use Rattle.repair_semantics.specs.Claims.{Held, Fact, Spot, Said, Claim, claims_of, is_against, same_held}
use Rattle.repair_semantics.specs.Conflicts.{fact_of}
use Rattle.repair_semantics.specs.Images.{same_number, held_in}
use Rattle.repair_semantics.specs.Deletions.{managed_classes, images_of, stays}
use Rattle.repair_semantics.specs.CandidateObjects.{fresh_terms, term_number, unused_ids}

-- ---- demands by the numbers of objects

-- what a slot holds, an object by its number
abbrev pub held_by_number : (Term → Option ℕ) → Held Term → Option (Held ℕ)
held_by_number number (Held.datum d) = Some (Held.datum d)
held_by_number number (Held.object t) = option_map (λ n. Held.object n) (number t)

-- what a demand says, its objects by their numbers
abbrev pub fact_by_number : (Term → Option ℕ) → Fact Term → Option (Fact ℕ)
fact_by_number number f = option_and_then (λ o. option_map (λ h. record { owner = o; prop = f.prop; holds = h }) (held_by_number number f.holds)) (number f.owner)

-- what demands claim, where the objects of terms have these numbers
abbrev pub claims_by_number : MetaDesc → (Term → Option ℕ) → List Demand → List (Claim ℕ)
claims_by_number meta number demands = flat_map (claims_of meta) (filter_map (λ d. fact_by_number number (fact_of d)) demands)

-- ---- slots

-- what a claim puts into a slot, if it is one of that slot
abbrev pub element_at : ℕ → ℕ → Spot ℕ → Said ℕ → Option (Held ℕ)
element_at o p (Spot.slot a q) (Said.element h) = if (a == o) && (q == p) then Some h else None
element_at o p spot said = None

-- what the claims put into a slot
abbrev pub claimed_at : List (Claim ℕ) → ℕ → ℕ → List (Held ℕ)
claimed_at claims o p = filter_map (λ c. element_at o p c.spot c.said) claims

-- data in value order, objects by number
abbrev pub held_order : Held ℕ → Held ℕ → Ordering
held_order (Held.datum d) (Held.datum e) = datum_order d e
held_order (Held.datum d) (Held.object b) = Less
held_order (Held.object a) (Held.datum e) = Greater
held_order (Held.object a) (Held.object b) = nat_cmp a b

-- a datum stays, and an object where it stays
abbrev pub is_left : (ℕ → Bool) → Held ℕ → Bool
is_left live (Held.datum d) = true
is_left live (Held.object b) = live b

-- that an object holds something at a property
abbrev pub fact_at : ℕ → ℕ → Held ℕ → Fact ℕ
fact_at o p h = record { owner = o; prop = p; holds = h }

-- the old elements of a slot that are left and that no claim displaces
abbrev pub kept_at : Program → ModelData → (ℕ → Bool) → List (Claim ℕ) → ℕ → ℕ → List (Held ℕ)
kept_at program m live claims o p = filter (λ h. is_left live h && not (is_against m.meta same_number claims (fact_at o p h))) (held_in program m o p)

-- the list without the elements of another one
abbrev pub others_than : List (Held ℕ) → List (Held ℕ) → List (Held ℕ)
others_than kept hs = filter (λ h. not (list_any (same_held same_number h) kept)) hs

-- the old ones that are kept, and behind them those that are claimed besides, in order
abbrev pub with_claimed : List (Held ℕ) → List (Held ℕ) → List (Held ℕ)
with_claimed kept claimed = kept ++ each_once held_order (others_than kept claimed)

-- what the slot of an object at a property holds
abbrev pub contents_at : Program → ModelData → (ℕ → Bool) → List (Claim ℕ) → ℕ → ℕ → List (Held ℕ)
contents_at program m live claims o p = with_claimed (kept_at program m live claims o p) (claimed_at claims o p)

-- the value, if it is a datum
abbrev pub value_held : Held ℕ → Option Value
value_held (Held.datum d) = value_of_datum d
value_held (Held.object b) = None

-- the number, if it is an object
abbrev pub partner_held : Held ℕ → Option ℕ
partner_held (Held.datum d) = None
partner_held (Held.object b) = Some b

-- a slot as models have it
abbrev pub slot_with : List (Held ℕ) → Slot
slot_with hs = record { values = filter_map value_held hs; partners = filter_map partner_held hs }

-- the slots of an object of the class, in class order
abbrev pub slots_of : Program → ModelData → (ℕ → Bool) → List (Claim ℕ) → ℕ → ℕ → List Slot
slots_of program m live claims o class = map (λ p. slot_with (contents_at program m live claims o p)) (props_of m.meta class)

-- ---- objects

-- an old object where it stays
abbrev pub old_object : Program → ModelData → (ℕ → Bool) → List (Claim ℕ) → ℕ → Option Object → Option Object
old_object program m live claims o None = None
old_object program m live claims o (Some ob) = if live o then Some (record ob { slots = slots_of program m live claims o ob.class }) else None

-- the objects of the target by their numbers
abbrev pub old_objects : Program → ModelData → (ℕ → Bool) → List (Claim ℕ) → List (Option Object)
old_objects program m live claims = map (λ o. old_object program m live claims o (object_at m o)) (range_with_len 0 (length m.objects))

-- a fresh object of the term's class; its old slots are empty, since no object of the target has its number
abbrev pub fresh_object : Program → ModelData → (ℕ → Bool) → List (Claim ℕ) → ℕ → Term → List ℕ → Option Object
fresh_object program m live claims o t id = Some (record { class = (out-Term t).class.0; id = id; slots = slots_of program m live claims o (out-Term t).class.0 })

-- the fresh objects of terms, from this number on
abbrev pub fresh_objects : Program → ModelData → (ℕ → Bool) → List (Claim ℕ) → ℕ → List Term → List (List ℕ) → List (Option Object)
fresh_objects program m live claims o [] ids = []
fresh_objects program m live claims o ts [] = []
fresh_objects program m live claims o (t ∷ ts) (id ∷ ids) = fresh_object program m live claims o t id ∷ fresh_objects program m live claims (suc o) ts ids

-- the model with these fresh terms, where so objects stay and so much is claimed
abbrev pub candidate_with : Program → ModelData → (ℕ → Bool) → List (Claim ℕ) → List Term → ModelData
candidate_with program m live claims fresh = record m {
  objects = old_objects program m live claims ++ fresh_objects program m live claims (length m.objects) fresh (unused_ids m (length fresh));
}

-- the model that enforcing the demands makes, of which these terms are demanded
abbrev pub candidate_by : Program → ModelData → List Demand → List Term → ModelData
candidate_by program m demands terms =
    candidate_with program m (stays m (managed_classes program) (images_of program m terms)) (claims_by_number m.meta (term_number program m terms) demands) (fresh_terms program m terms)

-- the model that enforcing the demands makes of the target
abbrev pub candidate : Program → ModelData → List Demand → ModelData
candidate program m demands = candidate_by program m demands (demanded_terms demands)
