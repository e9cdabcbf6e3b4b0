-- Wrong fates that the definitions exclude: of a schema with a table, where schemas are managed and nothing is demanded.
use Rattle.std.specs.Prelude.{◌≡◌, true, false, [], ◌∷◌}
use Rattle.std.proofs.Common.{refl}
use Rattle.qvtr_semantics.specs.SmallModels.{rdb_model}
use Rattle.repair_semantics.specs.Deletions.{stays}

pub schema_goes : stays rdb_model (1 ∷ []) [] 0 ≡ false
schema_goes = refl

-- an object stays that no demand asks for
pub unneeded_objects_stay : stays rdb_model (1 ∷ []) [] 0 ≡ true → ⊥
unneeded_objects_stay e = cc

pub its_table_goes : stays rdb_model (1 ∷ []) [] 1 ≡ false
its_table_goes = refl

-- a part stays whose container goes
pub parts_of_a_deleted_object_stay : stays rdb_model (1 ∷ []) [] 1 ≡ true → ⊥
parts_of_a_deleted_object_stay e = cc
