use Rattle.std.proofs.Common.{ℕ, List, sym, ap, subst, ◌∙◌}
use Rattle.script_scopes.specs.Declarations.{IsRepeated}
use Rattle.script_scopes.specs.Environments.{named_variables}
use Rattle.script_scopes.specs.Occurrences.{occurrences}
use Rattle.qvtr_types.proofs.well_formed.Numbers.{once_apart}
use Rattle.qvtr_types.proofs.RelationLaws.{over_count, may_come}
use Rattle.qvtr_types.proofs.relations.bring_in.Goals as goal

pub bind_variables-requires-clause-apart : goal.bind_variables-requires-clause-apart
bind_variables-requires-clause-apart c =
    subst (λ (ns : List (List ℕ)). (name : List ℕ) → ¬ IsRepeated ns name) (sym (c.as_slice.ensures ∙ c.in_ok-listed.ensures)) (once_apart (occurrences c.args.r.now))

pub bind_variables-requires-clause-count : goal.bind_variables-requires-clause-count
bind_variables-requires-clause-count c =
    over_count c.requires.setting.0 c.args.env.now c.args.scope.now c.requires.setting.1 c.args.r.now c.args.variables.now.vars.now c.requires.setting.2
    c.as_slice.result.now (c.as_slice.ensures ∙ c.in_ok-listed.ensures)

pub bind_variables-requires-clause-typed : goal.bind_variables-requires-clause-typed
bind_variables-requires-clause-typed c =
    may_come c.requires.setting.0 c.args.env.now c.args.scope.now c.requires.setting.1 c.args.r.now c.args.variables.now.vars.now c.requires.setting.2
    (c.in_ok-refuse_arguments.ensures.related c.requires.setting.0 c.requires.setting.1 c.requires.setting.2)

pub returns-clause-bound : goal.returns-clause-bound
returns-clause-bound c =
    c.in_ok-bind_variables.ensures.bound
    ∙ ap (λ (ns : List (List ℕ)). record c.args.env.now { variables = named_variables ns c.args.variables.now.vars.now }) (c.as_slice.ensures ∙ c.in_ok-listed.ensures)
