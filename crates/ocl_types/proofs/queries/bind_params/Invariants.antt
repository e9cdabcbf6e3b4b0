use Rattle.std.proofs.Common.{◌≡◌, [], drop}
use Rattle.std.specs.Prelude.{IsTrue}
use Rattle.ocl_environments.specs.Environments.{are_types, without_variables}
use Rattle.ocl_types.specs.QueryTyping.{params_from}
use Rattle.ocl_types.proofs.queries.bind_params.Given as goal

-- the rest of the parameters is to be bound
abbrev pub invariant-loop-param : goal.invariant-loop-param
invariant-loop-param l = (params_from l.env l.types (drop l.param-index l.params) ≡ params_from l.fn.env [] l.params)
    × IsTrue (are_types l.fn.env.metas l.types) × (without_variables l.env ≡ without_variables l.fn.env)
