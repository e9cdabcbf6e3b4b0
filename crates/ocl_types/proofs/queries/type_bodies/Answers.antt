use Rattle.std.proofs.Common.{arith, sym, ap, ◌∙◌, ◌≡◌, Err}
use Rattle.std.proofs.lemmas.Result.{err_from_is_err_and}
use Rattle.ocl_types.specs.QueryTyping.{query_typed}
use Rattle.ocl_types.proofs.QueryLemmas.{gives_told, bodies_step, bodies_stop}
use Rattle.ocl_types.proofs.queries.type_bodies.Goals as goal

pub returns-in_err-query-clause-given : goal.returns-in_err-query-clause-given
returns-in_err-query-clause-given c =
    let p = err_from_is_err_and c.from_residual.result c.from_residual.ensures.1 in
    gives_told c.from_residual.result p.0 _ _ (λ f. query_typed c.loop-query.env c.query-item.result.now ≡ Err f) p.1 p.2
    (λ f is. sym c.loop-query.invariant.0 ∙ bodies_stop c.args.env.now c.loop-query.typed c.args.queries.now c.loop-query.query-index c.query-item.result (omega arith) c.query-item.is f
    (sym (ap (λ e. query_typed e c.query-item.result.now) c.loop-query.invariant.1) ∙ is))
    c.in_err-query.ensures.given

pub loop-query-preserved : goal.loop-query-preserved
loop-query-preserved c = (
  bodies_step c.args.env.now c.loop-query.typed c.args.queries.now c.loop-query.query-index c.query-item.result (omega arith) c.query-item.is c.in_ok-query.query c.push.new.self
      (sym (ap (λ e. query_typed e c.query-item.result.now) c.loop-query.invariant.1) ∙ c.in_ok-query.ensures.given) c.in_ok-push.ensures.ok
      ∙ c.loop-query.invariant.0,
  c.in_ok-query.ensures.same ∙ c.loop-query.invariant.1,
)
