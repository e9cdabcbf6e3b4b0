use Rattle.std.proofs.Common.{◌≡◌, ◌∙◌, ℕ, ◌+◌, List, ap, length, Some, None}
use Rattle.std.specs.Prelude.{position}
use Rattle.mof_metamodel.specs.Metamodels.{same_name}
use Rattle.ocl_environments.specs.Environments.{NamesWith}
use Rattle.ocl_environments.specs.Scopes.{Reach}
use Rattle.ocl_environments.specs.declared.variable.Variable.{Variable}
use Rattle.std.proofs.Common.{get_or}
use Rattle.ocl_environments.proofs.ScopeLaws.{local_number, local_value, absent}
use Rattle.ocl_environments.proofs.scope.Scope.local.Goals as goal

-- the locals that are looked through are those of the scope
seen : (s t : Reach) (name : List ℕ) (ls : NamesWith Variable) → s ≡ t → ls ≡ s.locals → position (λ e. same_name name e.0) ls ≡ position (λ e. same_name name e.0) t.locals
seen s t name ls is these = ap (position (λ e. same_name name e.0)) (these ∙ ap (λ (r : Reach). r.locals) is)

pub returns-in-Some-clause-number : goal.returns-in-Some-clause-number
returns-in-Some-clause-number c =
    ap (λ n. Some (n + c.in-Some.i)) (c.variable_count.ensures.count ∙ ap (λ (r : Reach). length r.outer.variables) c.self.view_is)
    ∙ local_number c.args.self.now.outer.variables c.args.self.now.locals c.args.name.now (Some c.in-Some.i)
    (c.in-Some.ensures.index ∙ seen _ _ c.args.name.now _ c.self.view_is c.as_slice-locals.ensures)

pub returns-in-Some-clause-value : goal.returns-in-Some-clause-value
returns-in-Some-clause-value c =
    ap (λ ls. Some (get_or ls c.in-Some.i c.index-locals-i.result).1) (c.as_slice-locals.ensures ∙ ap (λ (r : Reach). r.locals) c.self.view_is)
    ∙ local_value c.args.self.now.locals c.args.name.now c.index-locals-i.result (Some c.in-Some.i)
    (c.in-Some.ensures.index ∙ seen _ _ c.args.name.now _ c.self.view_is c.as_slice-locals.ensures)

pub returns-in-None-clause-number : goal.returns-in-None-clause-number
returns-in-None-clause-number c =
    local_number c.args.self.now.outer.variables c.args.self.now.locals c.args.name.now None
    (c.in-None.ensures.index ∙ seen _ _ c.args.name.now _ c.self.view_is c.as_slice-locals.ensures)

pub returns-in-None-clause-value : goal.returns-in-None-clause-value
returns-in-None-clause-value c =
    absent c.args.self.now.locals c.args.name.now (c.in-None.ensures.index ∙ seen _ _ c.args.name.now _ c.self.view_is c.as_slice-locals.ensures)
