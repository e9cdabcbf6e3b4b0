use Rattle.std.specs.Prelude.{Result, Ok, Err, IfOk}
use Rattle.std.specs.Result.{IsErr}
use Rattle.object_tables.proofs.model.Model.first_breach.Goals as goal

-- nothing is said of an error
no_ok : {T E : Type 0} (r : Result T E) (P : T → Type 0) → IsErr r → IfOk r P
no_ok (Ok x) P h = absurd cc
no_ok (Err e) P h = tt

pub returns-in_err-object-in-None-clause-breach : goal.returns-in_err-object-in-None-clause-breach
returns-in_err-object-in-None-clause-breach c = no_ok c.from_residual.result _ c.from_residual.ensures.0

pub returns-in_err-object-in-None-clause-valid : goal.returns-in_err-object-in-None-clause-valid
returns-in_err-object-in-None-clause-valid c = no_ok c.from_residual.result _ c.from_residual.ensures.0
