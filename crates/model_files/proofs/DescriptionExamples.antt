-- A model of EMOF and the metamodel that it describes, computed.
use Rattle.std.specs.Prelude.{◌≡◌, ℕ, pos, false, List, [], ◌∷◌, codes, None, Some}
use Rattle.std.proofs.Common.{refl}
use Rattle.mof_metamodel.specs.declared.desc.PropDesc.{PropDesc}
use Rattle.object_tables.specs.declared.value.Value.TheVariants as values
use Rattle.object_tables.specs.Objects.{Slot}
use Rattle.object_tables.specs.Models.{ModelData}
use Rattle.model_files.specs.Described.{top_packages, description_of}
use Rattle.model_files.specs.Emof.{emof}

abbrev nothing : Slot
nothing = record { values = []; partners = [] }

abbrev text : List ℕ → Slot
text t = record { values = values.Str t ∷ []; partners = [] }

abbrev to : ℕ → Slot
to o = record { values = []; partners = o ∷ [] }

-- the Package Tiny with the class A, whose property n is an optional String
abbrev tiny : ModelData
tiny = record {
  meta = emof;
  objects =
      Some (record { class = 2; id = codes "k"; slots = text (codes "Tiny") ∷ nothing ∷ to 1 ∷ [] })
      ∷ Some (record { class = 3; id = codes "a"; slots = text (codes "A") ∷ to 0 ∷ nothing ∷ nothing ∷ to 2 ∷ [] })
      ∷ Some (record {
        class = 7;
        id = codes "n";
        slots =
            text (codes "n") ∷ to 1 ∷ to 3 ∷ record { values = values.Int (pos 0) ∷ []; partners = [] }
            ∷ nothing ∷ nothing ∷ nothing ∷ nothing ∷ nothing ∷ nothing ∷ nothing ∷ nothing ∷ nothing ∷ [];
      })
      ∷ Some (record { class = 4; id = codes "s"; slots = text (codes "String") ∷ nothing ∷ [] })
      ∷ [];
}

abbrev property : PropDesc
property = record { name = codes "n"; type_name = codes "String"; lower = 0; upper = Some 1; composite = false; ordered = false; opposite = None }

pub one_package : top_packages tiny ≡ 0 ∷ []
one_package = refl

pub tiny_described : description_of tiny 0
    ≡ record { name = codes "Tiny"; classes = record { name = codes "A"; is_abstract = false; supers = []; props = property ∷ [] } ∷ []; enums = [] }
tiny_described = refl
