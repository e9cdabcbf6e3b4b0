use Rattle.std.proofs.Common.{ℕ, List, sym, subst, ◌∙◌}
use Rattle.std.proofs.lemmas.Option.{same_Some, none-some}
use Rattle.std.proofs.lemmas.Result.{on_ok_weaker}
use Rattle.qv_syntax.specs.declared.expr.Expr.{Expr}
use Rattle.qv_syntax.specs.declared.program.Var.{Var}
use Rattle.ocl_types.proofs.QueryLemmas.{fault_of_result}
use Rattle.qvtr_types.specs.ResolvedConjuncts.{ClauseReach, reach_of}
use Rattle.qvtr_types.specs.LoneArguments.{CallRelated, CallUnrelated, CallsUnrelated}
use Rattle.qvtr_types.proofs.lone_arguments.refuse_conjunct.Goals as goal

pub returns-in-Some-clause-related : goal.returns-in-Some-clause-related
returns-in-Some-clause-related c =
    let reach : ClauseReach = reach_of c.args.scope.now in
    let said : List ℕ × List Expr = (c.in-Some.call.0.now, c.in-Some.call.1.now) in
    on_ok_weaker c.refuse_call.result
    (λ related name args is.
    let asked : List ℕ × List Expr = (name, args) in
    subst (λ (p : List ℕ × List Expr). CallRelated reach c.args.scope.now.variables.vars.now p.0 p.1) (same_Some said asked (c.in-Some.ensures ∙ is)) related)
    c.refuse_call.ensures.related

pub returns-in-Some-clause-fault : goal.returns-in-Some-clause-fault
returns-in-Some-clause-fault c =
    let reach : ClauseReach = reach_of c.args.scope.now in
    let vars : List Var = c.args.scope.now.variables.vars.now in
    fault_of_result c.refuse_call.result (CallUnrelated reach vars c.in-Some.call.0.now c.in-Some.call.1.now) (CallsUnrelated reach vars c.args.conjunct.now)
    (λ f h. record { name = c.in-Some.call.0.now; args = c.in-Some.call.1.now; is_call = sym c.in-Some.ensures; unrelated = h })
    c.refuse_call.ensures.fault

pub returns-in-None-clause-related : goal.returns-in-None-clause-related
returns-in-None-clause-related c = λ name args is.
    let asked : List ℕ × List Expr = (name, args) in
    absurd (none-some asked (c.in-None.ensures ∙ is))
