-- Wrong answers that the definitions exclude, each on a small case: what the definition gives, and that it isn't what the wrong
-- code would answer. A contract says that the code's result is what the definition gives, so it refuses that code.
use Rattle.std.specs.Prelude.{◌≡◌, ℕ, Bool, true, false, List, [], ◌∷◌, codes, Option, None, Some}
use Rattle.std.proofs.Common.{inl, refl, arith}
use Rattle.mof_metamodel.specs.declared.desc.MetaDesc.{MetaDesc}
use Rattle.mof_metamodel.specs.declared.desc.PropDesc.{PropDesc}
use Rattle.object_tables.specs.declared.limit.TheConstants.{MAX_OBJECTS}
use Rattle.object_tables.specs.Objects.{Object}
use Rattle.object_tables.specs.Models.{ModelData, object_at, id_at, partners_at, linked, deleted, live_count, IsAddable}
use Rattle.object_tables.specs.Validity.{Valid}

-- a class Box with its parts, and with their owner
abbrev reference : List ℕ → Option ℕ → Bool → List ℕ → PropDesc
reference name upper composite opposite = record {
  name = name;
  type_name = codes "Box";
  lower = 0;
  upper = upper;
  composite = composite;
  ordered = false;
  opposite = Some (record { class = codes "Box"; prop = opposite });
}

abbrev boxes : MetaDesc
boxes = record {
  name = codes "Boxes";
  classes = record {
    name = codes "Box";
    is_abstract = false;
    supers = [];
    props = reference (codes "parts") None true (codes "owner") ∷ reference (codes "owner") (Some 1) false (codes "parts") ∷ [];
  } ∷ [];
  enums = [];
}

abbrev box : List ℕ → List ℕ → List ℕ → Option Object
box id parts owner = Some (record { class = 0; id = id; slots = record { values = []; partners = parts } ∷ record { values = []; partners = owner } ∷ [] })

-- two boxes, apart; the second in the first; and a box in itself
abbrev two : ModelData
two = record { meta = boxes; objects = box (codes "a") [] [] ∷ box (codes "b") [] [] ∷ [] }

abbrev one_in_the_other : ModelData
one_in_the_other = record { meta = boxes; objects = box (codes "a") (1 ∷ []) [] ∷ box (codes "b") [] (0 ∷ []) ∷ [] }

abbrev one_in_itself : ModelData
one_in_itself = record { meta = boxes; objects = box (codes "a") (0 ∷ []) (0 ∷ []) ∷ [] }

pub each_stands_at_the_other : linked two 0 0 1 ≡ one_in_the_other
each_stands_at_the_other = refl

-- a part without an owner, where a link of the owner is made
pub link_forgets_the_opposite : partners_at (linked two 0 0 1) 1 1 ≡ [] → ⊥
link_forgets_the_opposite e = cc

pub the_owner_alone_is_gone : deleted one_in_the_other 0 ≡ record { meta = boxes; objects = None ∷ box (codes "b") [] [] ∷ [] }
the_owner_alone_is_gone = refl

-- a part that still names the owner that is gone
pub delete_leaves_pairs : partners_at (deleted one_in_the_other 0) 1 1 ≡ 0 ∷ [] → ⊥
delete_leaves_pairs e = cc

-- a part that is gone with its owner
pub delete_drops_what_it_contained : object_at (deleted one_in_the_other 0) 1 ≡ None → ⊥
delete_drops_what_it_contained e = cc

-- an object that is found by its identifier after it was deleted
pub by_id_finds_the_deleted : id_at (deleted one_in_the_other 0) 0 ≡ Some (codes "a") → ⊥
by_id_finds_the_deleted e = cc

-- a model that is valid, and has a circle of containers
pub validity_misses_cycles : Valid one_in_itself → ⊥
validity_misses_cycles valid = valid.acyclic 0 (0, [], (0, record { composite = refl; linked = (0, omega arith, refl) }), refl)

-- an object that can be added where there are as many as a model may have
pub limit_one_too_late : (m : ModelData) (class : ℕ) (id : List ℕ) → live_count m ≡ MAX_OBJECTS → IsAddable m class id → ⊥
limit_one_too_late m class id full addable = addable.room (inl (omega arith))
