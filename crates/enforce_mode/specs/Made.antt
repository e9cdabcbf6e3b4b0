-- What stands against a model that enforcement would make (MOF 2.5.1, 12.4 and UML 2.5.1, 7.5.3 and 9.5.3 on bounds and containers; the limits are
-- this engine's own).
use Rattle.std.specs.Prelude.{◌≡◌, ◌<◌, ◌≤◌, ℕ, Some}
use Rattle.object_tables.specs.declared.limit.LimitKind.{LimitKind}
use Rattle.object_tables.specs.declared.limit.LimitKind.TheVariants as limits
use Rattle.object_tables.specs.declared.limit.TheConstants.{MAX_OBJECTS, MAX_DEPTH}
use Rattle.object_tables.specs.Models.{ModelData, IsLive, id_at, live_count}
use Rattle.object_tables.specs.Containment.{IsDepth}
use Rattle.object_tables.specs.Validity.{Valid, IsFirstBreach}
use Rattle.enforce_mode.specs.declared.error.EnforceError.{EnforceError}
use Rattle.enforce_mode.specs.declared.error.EnforceError.TheVariants as errors

-- the model has no more objects than a model may have
abbrev pub HasFewObjects : ModelData → Type 0
HasFewObjects n = live_count n ≤ MAX_OBJECTS

-- an object is deeper than it may be
pub record IsTooDeep (n : ModelData) : Type 0 where
  pub object : ℕ
  pub depth : ℕ
  pub live : IsLive n object
  pub is : IsDepth n object depth
  pub deep : MAX_DEPTH < depth

-- the model has few objects, is valid and is no deeper than it may be
pub record IsSound (n : ModelData) : Type 0 where
  pub few : HasFewObjects n
  pub valid : Valid n
  pub flat : ¬ IsTooDeep n

-- the limit is passed: that on objects, or of a valid model with few objects that on depth
abbrev pub IsPast : ModelData → LimitKind → Type 0
IsPast n limits.Objects = MAX_OBJECTS < live_count n
IsPast n limits.Depth = HasFewObjects n × Valid n × IsTooDeep n

-- the error says what stands against the model: the first of that it has too many objects, its first breach, and that it is too deep
abbrev pub IsAgainst : ModelData → EnforceError → Type 0
IsAgainst n (errors.Invalid b id) = HasFewObjects n × IsFirstBreach n b × (id_at n b.object.0 ≡ Some id)
IsAgainst n (errors.Limit kind) = IsPast n kind
IsAgainst n errors.NoMemory = Unit {0}
