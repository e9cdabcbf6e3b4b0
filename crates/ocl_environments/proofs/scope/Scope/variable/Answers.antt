use Rattle.std.proofs.Common.{◌∙◌, ap}
use Rattle.ocl_environments.specs.Environments.{number_of, value_of}
use Rattle.ocl_environments.specs.Scopes.{Reach}
use Rattle.ocl_environments.proofs.ScopeLaws.{number_outside, value_outside, number_inside, value_inside}
use Rattle.ocl_environments.proofs.scope.Scope.variable.Goals as goal

pub returns-in-Some-clause-number : goal.returns-in-Some-clause-number
returns-in-Some-clause-number c =
    number_outside c.args.self.now.outer.variables c.args.self.now.locals c.args.name.now c.in-Some.number
    (c.in-Some.ensures.number ∙ ap (λ (r : Reach). number_of r.outer.variables c.args.name.now) c.self.view_is)

pub returns-in-Some-clause-value : goal.returns-in-Some-clause-value
returns-in-Some-clause-value c =
    value_outside c.args.self.now.outer.variables c.args.self.now.locals c.args.name.now c.in-Some.variable.now
    (c.in-Some.ensures.value ∙ ap (λ (r : Reach). value_of r.outer.variables c.args.name.now) c.self.view_is)

pub returns-in-None-clause-number : goal.returns-in-None-clause-number
returns-in-None-clause-number c =
    number_inside c.args.self.now.outer.variables c.args.self.now.locals c.args.name.now _
    (c.in-None.ensures.number ∙ ap (λ (r : Reach). number_of r.outer.variables c.args.name.now) c.self.view_is)
    c.local.ensures.number

pub returns-in-None-clause-value : goal.returns-in-None-clause-value
returns-in-None-clause-value c =
    value_inside c.args.self.now.outer.variables c.args.self.now.locals c.args.name.now _
    (c.in-None.ensures.value ∙ ap (λ (r : Reach). value_of r.outer.variables c.args.name.now) c.self.view_is)
    c.local.ensures.value
