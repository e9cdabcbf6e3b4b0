use Rattle.std.proofs.Common.{arith, sym, subst}
use Rattle.std.specs.Prelude.{All}
use Rattle.std.proofs.lemmas.List.{take_all}
use Rattle.std.proofs.lemmas.Result.{err_from_is_err_and}
use Rattle.ocl_types.proofs.QueryLemmas.{err_told}
use Rattle.script_scopes.specs.VariableTypes.{IsAgreed, IsOtherThan, IsOtherClass}
use Rattle.script_variables.proofs.variable_types.refuse_other.Goals as goal

pub returns-in_err-refuse_one-clause-fault : goal.returns-in_err-refuse_one-clause-fault
returns-in_err-refuse_one-clause-fault c =
    let p = err_from_is_err_and c.from_residual.result c.from_residual.ensures.1 in
    err_told c.from_residual.result p.0 _ (IsOtherClass c.args.metas.now c.args.declared.now c.args.classes.now) (IsOtherThan c.args.metas.now c.args.declared.now c.class-item.result) p.1 p.2
    (λ f h. record { typing = c.class-item.result; among = (c.loop-class.class-index, omega arith, sym c.class-item.is); other = h })
    c.in_err-refuse_one.ensures.fault

pub returns-clause-agreed : goal.returns-clause-agreed
returns-clause-agreed c = subst (All (IsAgreed c.args.declared.now)) (take_all c.loop-class.class-index c.args.classes.now (omega arith)) c.loop-class.invariant
