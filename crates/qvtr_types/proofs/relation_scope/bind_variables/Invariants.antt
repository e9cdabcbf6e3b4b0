use Rattle.std.proofs.Common.{◌≡◌, take}
use Rattle.script_scopes.specs.Environments.{named_variables}
use Rattle.qvtr_types.proofs.relation_scope.bind_variables.Given as goal

-- the variables so far are in reach
abbrev pub invariant-loop-place : goal.invariant-loop-place
invariant-loop-place l = l.env ≡ record l.fn.env { variables = named_variables (take l.place l.names) (take l.place l.vars) }
