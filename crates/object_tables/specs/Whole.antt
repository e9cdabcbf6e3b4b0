-- What the parts of a model keep.
use Rattle.std.specs.Prelude.{ℕ, ◌≤◌, List, map}
use Rattle.mof_metamodel.specs.declared.desc.MetaDesc.{MetaDesc}
use Rattle.object_tables.specs.declared.limit.TheConstants.{MAX_OBJECTS}
use Rattle.object_tables.specs.Rows.{Row}
use Rattle.object_tables.specs.Objects.{object_of}
use Rattle.object_tables.specs.Tied.{IsTied}
use Rattle.object_tables.specs.Kept.{Kept}

-- they are tied to each other, there are no more live objects than a model may have, and the model that they show is kept
pub record IsWhole (meta : MetaDesc) (rows : List Row) (finds : List ℕ → ℕ → Type 0) (live : ℕ) : Type 0 where
  pub tied : IsTied meta rows finds live
  pub few : live ≤ MAX_OBJECTS
  pub kept : Kept (record { meta = meta; objects = map object_of rows })
