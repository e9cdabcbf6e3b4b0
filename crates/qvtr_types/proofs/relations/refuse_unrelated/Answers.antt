use Rattle.std.proofs.Common.{◌⊎◌, inl, inr, List}
use Rattle.std.proofs.lemmas.Result.{err_from_is_err_and}
use Rattle.qv_syntax.specs.declared.program.Var.{Var}
use Rattle.ocl_environments.specs.declared.fault.TypeFault.{TypeFault}
use Rattle.ocl_types.proofs.QueryLemmas.{err_told, fault_of_result}
use Rattle.script_scopes.specs.Conjuncts.{clause_conjuncts}
use Rattle.qvtr_types.specs.ResolvedConjuncts.{ClauseReach, reach_of}
use Rattle.qvtr_types.specs.LoneArguments.{IsUnrelatedFault}
use Rattle.script_scopes.proofs.RefusalLemmas.{given}
use Rattle.qvtr_types.proofs.relations.refuse_unrelated.Goals as goal

pub returns-in_err-refuse_lone_arguments-clause-fault : goal.returns-in_err-refuse_lone_arguments-clause-fault
returns-in_err-refuse_lone_arguments-clause-fault c =
    let reach : ClauseReach = reach_of c.args.scope.now in
    let vars : List Var = c.args.scope.now.variables.vars.now in
    let p = err_from_is_err_and c.from_residual.result c.from_residual.ensures.1 in
    err_told c.from_residual.result p.0 _
    (λ (f : TypeFault). IsUnrelatedFault reach vars (clause_conjuncts c.args.r.now.when) f ⊎ IsUnrelatedFault reach vars (clause_conjuncts c.args.r.now.wheres) f)
    (IsUnrelatedFault reach vars (clause_conjuncts c.args.r.now.when)) p.1 p.2 (λ f h. inl h) c.in_err-refuse_lone_arguments.ensures.fault

pub returns-clause-whens : goal.returns-clause-whens
returns-clause-whens c = given c.refuse_lone_arguments-2.result _ c.in_ok-refuse_lone_arguments.ensures.related

pub returns-clause-fault : goal.returns-clause-fault
returns-clause-fault c =
    let reach : ClauseReach = reach_of c.args.scope.now in
    let vars : List Var = c.args.scope.now.variables.vars.now in
    fault_of_result c.refuse_lone_arguments-2.result (IsUnrelatedFault reach vars (clause_conjuncts c.args.r.now.wheres))
    (λ (f : TypeFault). IsUnrelatedFault reach vars (clause_conjuncts c.args.r.now.when) f ⊎ IsUnrelatedFault reach vars (clause_conjuncts c.args.r.now.wheres) f)
    (λ f h. inr h) c.refuse_lone_arguments-2.ensures.fault
