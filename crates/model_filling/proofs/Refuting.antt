-- Models that aren't filled with what a wanted one holds, which the definitions exclude: a box `a` with two neighbours is wanted.
use Rattle.std.specs.Prelude.{◌≡◌, ℕ, false, List, [], ◌∷◌, codes, Option, None, Some}
use Rattle.std.proofs.Common.{refl, ap, arith}
use Rattle.mof_metamodel.specs.declared.desc.MetaDesc.{MetaDesc}
use Rattle.mof_metamodel.specs.declared.desc.PropDesc.{PropDesc}
use Rattle.object_tables.specs.declared.value.Value.{Value}
use Rattle.object_tables.specs.declared.value.Value.TheVariants.{Str}
use Rattle.object_tables.specs.Objects.{Object}
use Rattle.object_tables.specs.Models.{ModelData}
use Rattle.model_filling.specs.Filling.{IsFilledAt, IsOrderedAt}

-- a class of boxes with a name and neighbours
abbrev property : List ℕ → List ℕ → PropDesc
property name type_name = record { name = name; type_name = type_name; lower = 0; upper = None; composite = false; ordered = false; opposite = None }

abbrev boxes : MetaDesc
boxes = record {
  name = codes "Boxes";
  classes = record {
    name = codes "Box";
    is_abstract = false;
    supers = [];
    props = property (codes "name") (codes "String") ∷ property (codes "neighbours") (codes "Box") ∷ [];
  } ∷ [];
  enums = [];
}

abbrev box : List ℕ → List Value → List ℕ → Option Object
box id names neighbours = Some (record { class = 0; id = id; slots = record { values = names; partners = [] } ∷ record { values = []; partners = neighbours } ∷ [] })

-- three boxes, of which the first one has these names and neighbours
abbrev three : List Value → List ℕ → ModelData
three names neighbours = record { meta = boxes; objects = box (codes "b0") names neighbours ∷ box (codes "b1") [] [] ∷ box (codes "b2") [] [] ∷ [] }

abbrev wanted : ModelData
wanted = three (Str (codes "a") ∷ []) (1 ∷ 2 ∷ [])

-- the only value is dropped
pub last_value_dropped : IsFilledAt wanted (three [] (1 ∷ 2 ∷ [])) 0 0 → ⊥
last_value_dropped filled = let e = filled.values in cc

-- of no numbers 0, else the first one
abbrev first_of : List ℕ → ℕ
first_of [] = 0
first_of (n ∷ ns) = n

-- the first object's partners stand in another order
pub first_object_not_ordered : IsOrderedAt wanted (three (Str (codes "a") ∷ []) (2 ∷ 1 ∷ [])) 0 1 → ⊥
first_object_not_ordered e = let apart : 2 ≡ 1 = ap first_of e in omega (arith, apart)
