use Rattle.std.proofs.Common.{List, Bor, map, arith, sym, subst}
use Rattle.std.specs.Prelude.{All}
use Rattle.std.proofs.lemmas.List.{take_all}
use Rattle.std.proofs.lemmas.Result.{err_from_is_err_and}
use Rattle.qv_syntax.specs.declared.expr.Expr.{Expr}
use Rattle.qv_syntax.specs.declared.program.Var.{Var}
use Rattle.ocl_types.proofs.QueryLemmas.{err_told}
use Rattle.qvtr_types.specs.ResolvedConjuncts.{ClauseReach, reach_of}
use Rattle.qvtr_types.specs.LoneArguments.{CallsRelated, CallsUnrelated, IsUnrelatedFault}
use Rattle.script_scopes.proofs.LoopLemmas.{all_shown_more}
use Rattle.script_scopes.proofs.MemberLemmas.{to_map}
use Rattle.qvtr_types.proofs.lone_arguments.refuse_listed.Goals as goal

abbrev shown : List (Bor Expr) → List Expr
shown es = map {A = Bor Expr} {B = Expr} (λ e. e.now) es

pub loop-conjunct-preserved : goal.loop-conjunct-preserved
loop-conjunct-preserved c =
    all_shown_more {X = Bor Expr} {Y = Expr} (λ e. e.now) c.args.conjuncts.now c.loop-conjunct.conjunct-index c.conjunct-item.result (omega arith) c.conjunct-item.is
    (CallsRelated (reach_of c.args.scope.now) c.args.scope.now.variables.vars.now) c.loop-conjunct.invariant c.in_ok-refuse_conjunct.ensures.related

pub returns-in_err-refuse_conjunct-clause-fault : goal.returns-in_err-refuse_conjunct-clause-fault
returns-in_err-refuse_conjunct-clause-fault c =
    let reach : ClauseReach = reach_of c.args.scope.now in
    let vars : List Var = c.args.scope.now.variables.vars.now in
    let e : Expr = c.conjunct-item.result.now in
    let p = err_from_is_err_and c.from_residual.result c.from_residual.ensures.1 in
    err_told c.from_residual.result p.0 _ (IsUnrelatedFault reach vars (shown c.args.conjuncts.now)) (CallsUnrelated reach vars e) p.1 p.2
    (λ f h. record {
      conjunct = e;
      among = to_map {X = Bor Expr} {Y = Expr} (λ e. e.now) c.args.conjuncts.now c.conjunct-item.result (c.loop-conjunct.conjunct-index, omega arith, sym c.conjunct-item.is);
      unrelated = h;
    })
    c.in_err-refuse_conjunct.ensures.fault

pub returns-clause-related : goal.returns-clause-related
returns-clause-related c =
    subst (λ (es : List (Bor Expr)). All (CallsRelated (reach_of c.args.scope.now) c.args.scope.now.variables.vars.now) (shown es))
    (take_all c.loop-conjunct.conjunct-index c.args.conjuncts.now (omega arith)) c.loop-conjunct.invariant
