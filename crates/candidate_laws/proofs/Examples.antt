-- A target that is kept can take no demands at all.
use Rattle.std.specs.Prelude.{◌≤◌, ◌^◌, [], length}
use Rattle.std.proofs.Common.{arith}
use Rattle.std.proofs.lemmas.Option.{none-some}
use Rattle.mof_metamodel.proofs.Facts.{nothing_in}
use Rattle.object_tables.specs.Models.{ModelData}
use Rattle.object_tables.specs.Kept.{Kept}
use Rattle.qv_syntax.specs.declared.program.Program.{Program}
use Rattle.candidate_laws.specs.Placing.{Placeable}

pub none_can_be_placed : (program : Program) (m : ModelData) → Kept m → length m.objects ≤ 2 ^ 64 → Placeable program m []
none_can_be_placed program m kept few = record {
  kept = kept;
  stand = λ d there. absurd (nothing_in d there);
  concrete = λ t there. absurd (nothing_in t there);
  apart = λ t u o there other a b. absurd (nothing_in t there);
  peaceful = λ first second c d conflict. none-some first conflict.first_is;
  few = omega (arith, few);
}
