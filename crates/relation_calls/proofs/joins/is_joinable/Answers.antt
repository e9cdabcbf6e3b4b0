use Rattle.std.proofs.Common.{List, suc, subst}
use Rattle.std.specs.Prelude.{Some}
use Rattle.qvtr_semantics.specs.declared.limits.TheConstants.{MAX_CALLS}
use Rattle.qv_syntax.specs.declared.program.Conj.{Conj}
use Rattle.relation_calls.specs.Calm.{IsHeightIn}
use Rattle.relation_calls.proofs.CalmLaws.{all_higher}
use Rattle.relation_calls.proofs.joins.is_joinable.Goals as goal

pub returns-in_ok-make_tables-in-Some-clause-value : goal.returns-in_ok-make_tables-in-Some-clause-value
returns-in_ok-make_tables-in-Some-clause-value c = λ so.
    let v = c.args.visit.now in
    let all = subst (λ (cl : List Conj). IsHeightIn v.program.now cl (Some c.in-Some.field-0)) c.as_slice-whens.ensures
    (subst (IsHeightIn v.program.now c.as_slice-whens.result.now) c.in-Some.is c.in_ok-height_in.ensures.value) in
    all_higher v.program.now v.rel.now.whens c.in-Some.field-0 (suc MAX_CALLS) all.0 all.1
