use Rattle.std.proofs.Common.{[], sym, ap, ◌∙◌, subst}
use Rattle.std.proofs.lemmas.Result.{IfOk-at_ok}
use Rattle.mof_metamodel.specs.Giving.{Gives}
use Rattle.ocl_environments.specs.Environments.{Environment}
use Rattle.ocl_environments.specs.Written.{fault_in}
use Rattle.ocl_types.specs.QueryTyping.{params_from}
use Rattle.ocl_types.specs.Typing.{typed}
use Rattle.ocl_types.proofs.QueryLemmas.{query_made}
use Rattle.ocl_types.proofs.queries.type_query.Goals as goal

pub returns-3-clause-given : goal.returns-3-clause-given
returns-3-clause-given c =
    let told = subst (λ r. Gives fault_in (λ types. (c.bind_params.new.env, types)) r (params_from c.args.env.now [] c.as_slice.result.now)) c.in-Ok-or_drop.is c.bind_params.ensures.given in
    let is = subst (λ r. Gives fault_in (λ x. x) r (typed c.bind_params.new.env c.args.query.now.body)) c.in-Ok-or_drop-body.is c.body_tree.ensures in
    subst (Gives fault_in (λ x. x) c.with_body.result)
    (query_made c.args.env.now c.bind_params.new.env c.forget_variables.new.self c.args.query.now c.in_ok-result.result c.in-Ok-or_drop.field-0 c.in-Ok-or_drop-body.field-0
    c.in_ok-result.ensures.given (sym (ap (params_from c.args.env.now []) c.as_slice.ensures) ∙ told) is
    (ap (λ (e : Environment). e.metas) (c.forget_variables.ensures ∙ c.bind_params.ensures.kept)))
    c.with_body.ensures
