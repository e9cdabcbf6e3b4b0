-- The models of the example: a source of so many classes, and an empty target.
use Rattle.std.specs.Prelude.{ℕ, List, [], ◌∷◌}
use Rattle.object_tables.specs.Models.{ModelData}
use Rattle.example_models.specs.RdbTable.{rdb_desc}
use Rattle.example_models.specs.Source.{source_data}

abbrev pub empty_target : ModelData
empty_target = record { meta = rdb_desc; objects = [] }

-- the models before the first enforcement
abbrev pub first_models : ℕ → ℕ → List ModelData
first_models classes seed = source_data classes seed ∷ empty_target ∷ []
