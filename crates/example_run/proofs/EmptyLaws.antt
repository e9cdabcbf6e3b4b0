-- The empty target, and what is made of it, can be enforced on.
use Rattle.std.proofs.Common.{◌≡◌, List, refl, arith}
use Rattle.object_tables.specs.declared.limit.TheConstants.{MAX_OBJECTS}
use Rattle.qv_syntax.specs.declared.program.Program.{Program}
use Rattle.repair_semantics.specs.declared.demand.Demand.{Demand}
use Rattle.repair_semantics.specs.Candidates.{candidate}
use Rattle.enforce_mode.specs.Made.{IsSound}
use Rattle.example_laws.specs.ExampleModels.{empty_target}
use Rattle.example_laws.proofs.EmptyLaws.{empty_is_valid, all_made_live}
use Rattle.example_run.specs.Repaired.{IsReadable}

pub empty_is_readable : IsReadable empty_target
empty_is_readable = record { valid = empty_is_valid; numbers = omega arith }

pub made_is_readable : (program : Program) (demands : List Demand) → IsSound (candidate program empty_target demands) → IsReadable (candidate program empty_target demands)
made_is_readable program demands sound =
    let few = sound.few in
    let same = all_made_live program demands in
    let most : MAX_OBJECTS ≡ 200_000 = refl in
    record { valid = sound.valid; numbers = omega (arith, few, same, most) }
