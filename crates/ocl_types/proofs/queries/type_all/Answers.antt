use Rattle.std.proofs.Common.{ℕ, List, Bor, map, sym, ap, subst, ◌∙◌}
use Rattle.std.proofs.lemmas.Result.{err_from_is_err_and}
use Rattle.call_graph.specs.Graphs.{IsOnCycle}
use Rattle.qv_syntax.specs.declared.query.Query.{Query}
use Rattle.qv_syntax.specs.declared.query.QueryTree.{QueryTree}
use Rattle.ocl_environments.specs.QueryCalls.{rows_of, IsCycleFault}
use Rattle.ocl_types.proofs.QueryLemmas.{err_told, bound_failed, bodies_failed, cycle_failed, all_typed, both_answered}
use Rattle.ocl_types.proofs.queries.type_all.Goals as goal

abbrev shown : List (Bor QueryTree) → List QueryTree
shown qs = map {A = Bor QueryTree} {B = QueryTree} (λ q. q.now) qs

pub returns-in_err-bind_queries-clause-fault : goal.returns-in_err-bind_queries-clause-fault
returns-in_err-bind_queries-clause-fault c =
    let p = err_from_is_err_and c.from_residual.result c.from_residual.ensures.1 in
    err_told c.from_residual.result p.0 _ _ _ p.1 p.2 (bound_failed c.args.env.now (shown c.args.queries.now) c.requires) c.in_err-bind_queries.ensures.given

pub returns-in_err-typed-clause-fault : goal.returns-in_err-typed-clause-fault
returns-in_err-typed-clause-fault c =
    let p = err_from_is_err_and c.from_residual-in_err-typed.result c.from_residual-in_err-typed.ensures.1 in
    err_told c.from_residual-in_err-typed.result p.0 _ _ _ p.1 p.2
    (bodies_failed c.args.env.now (shown c.args.queries.now) c.requires c.bind_queries.new.env c.in_ok-bind_queries.ensures.given) c.in_err-typed.ensures.given

pub returns-in_err-refuse_cycle-clause-fault : goal.returns-in_err-refuse_cycle-clause-fault
returns-in_err-refuse_cycle-clause-fault c =
    let p = err_from_is_err_and c.from_residual-in_err-refuse_cycle.result c.from_residual-in_err-refuse_cycle.ensures.1 in
    err_told c.from_residual-in_err-refuse_cycle.result p.0 _ _ (IsCycleFault c.query_count-before.result c.as_slice.result.now) p.1 p.2
    (λ f cycle. cycle_failed c.args.env.now (shown c.args.queries.now) c.requires c.bind_queries.new.env c.in_ok-bind_queries.ensures.given c.in_ok-typed.typed f c.in_ok-typed.ensures.given
    (subst (λ n. IsCycleFault n c.in_ok-typed.typed f) c.query_count-before.ensures (subst (λ qs. IsCycleFault c.query_count-before.result qs f) c.as_slice.ensures cycle)))
    c.in_err-refuse_cycle.ensures.fault

pub returns-clause-typed : goal.returns-clause-typed
returns-clause-typed c =
    all_typed c.args.env.now (shown c.args.queries.now) c.requires c.bind_queries.new.env c.in_ok-bind_queries.ensures.given c.in_ok-typed.typed c.in_ok-typed.ensures.given
    ∙ sym (ap (λ e. both_answered (e, c.in_ok-typed.typed)) c.in_ok-typed.ensures.same)

pub returns-clause-acyclic : goal.returns-clause-acyclic
returns-clause-acyclic c =
    subst (λ n. (u : ℕ) → IsOnCycle (rows_of n c.in_ok-typed.typed) u → ⊥) c.query_count-before.ensures
    (subst (λ (qs : List Query). (u : ℕ) → IsOnCycle (rows_of c.query_count-before.result qs) u → ⊥) c.as_slice.ensures c.in_ok-refuse_cycle.ensures.none)
