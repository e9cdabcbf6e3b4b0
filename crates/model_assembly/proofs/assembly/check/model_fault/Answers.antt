use Rattle.std.proofs.Common.{subst}
use Rattle.std.specs.Prelude.{IfSome}
use Rattle.object_tables.specs.Validity.{IsFirstBreach}
use Rattle.model_assembly.specs.AssemblyChecks.{by_breach}
use Rattle.model_assembly.proofs.assembly.check.model_fault.Goals as goal

pub returns-in_ok-invalid-in-Some : goal.returns-in_ok-invalid-in-Some
returns-in_ok-invalid-in-Some c =
    by_breach c.in-Some.breach (subst (λ o. IfSome o (IsFirstBreach c.args.model.now)) c.in-Some.is c.in_ok-breach.ensures.breach) c.in_ok-invalid-in-Some.ensures
