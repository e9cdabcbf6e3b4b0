use Rattle.std.proofs.Common.{List, sym, ap, subst, ◌∙◌}
use Rattle.std.proofs.lemmas.Result.{err_from_is_err_and}
use Rattle.mof_metamodel.specs.NameTables.{NamesWith}
use Rattle.qv_syntax.specs.declared.program.Var.{Var}
use Rattle.qv_syntax.specs.declared.script.RelationTree.{RelationTree}
use Rattle.ocl_environments.specs.declared.fault.TypeFault.{TypeFault}
use Rattle.ocl_environments.specs.declared.variable.Variable.{Variable}
use Rattle.ocl_environments.specs.Environments.{Environment, without_variables}
use Rattle.ocl_types.proofs.QueryLemmas.{err_told}
use Rattle.script_scopes.specs.Environments.{Setting}
use Rattle.script_scopes.specs.Faults.{StandsInExpressions}
use Rattle.qvtr_types.specs.ScriptScopes.{IsDeclared, IsScriptScopeOf, IsRelationReach}
use Rattle.qvtr_types.proofs.RelationLaws.{come, settled_here}
use Rattle.qvtr_types.proofs.relations.resolve_parts.Goals as goal

pub parts_of-requires-clause-setting : goal.parts_of-requires-clause-setting
parts_of-requires-clause-setting c = (
  c.requires.setting.0,
  subst (λ (e : Environment). IsRelationReach c.requires.setting.0 c.args.r.now c.args.variables.now.vars.now e c.args.scope.now) (sym c.in_ok-bring_in.ensures.bound)
      (come c.requires.setting.0 c.args.env.now c.args.scope.now c.requires.setting.1 c.args.r.now c.args.variables.now.vars.now c.requires.setting.2 c.requires.empty),
)

pub returns-in_err-parts-clause-fault : goal.returns-in_err-parts-clause-fault
returns-in_err-parts-clause-fault c =
    let r : RelationTree = c.args.r.now in
    let vars : List Var = c.args.variables.now.vars.now in
    let p = err_from_is_err_and c.from_residual-in_err-parts.result c.from_residual-in_err-parts.ensures.1 in
    err_told c.from_residual-in_err-parts.result p.0 _
    (λ (f : TypeFault). (s : Setting) → IsScriptScopeOf s c.args.env.now c.args.scope.now → IsDeclared s r vars → StandsInExpressions s r vars f)
    (λ (f : TypeFault). (s : Setting) → IsRelationReach s r vars c.bring_in.new.env c.args.scope.now → StandsInExpressions s r vars f) p.1 p.2
    (λ f h s over own.
    h s (subst (λ (e : Environment). IsRelationReach s r vars e c.args.scope.now) (sym c.in_ok-bring_in.ensures.bound) (come s c.args.env.now c.args.scope.now over r vars own c.requires.empty)))
    c.in_err-parts.ensures.fault

pub returns-clause-parts : goal.returns-clause-parts
returns-clause-parts c = λ s over own.
    let reach = subst (λ (e : Environment). IsRelationReach s c.args.r.now c.args.variables.now.vars.now e c.args.scope.now) (sym c.in_ok-bring_in.ensures.bound)
    (come s c.args.env.now c.args.scope.now over c.args.r.now c.args.variables.now.vars.now own c.requires.empty) in
    record {
      domains = c.in_ok-parts.ensures.domains s reach;
      whens = c.in_ok-parts.ensures.whens s reach;
      wheres = c.in_ok-parts.ensures.wheres s reach;
    }

pub returns-clause-none : goal.returns-clause-none
returns-clause-none c = λ s f over own.
    c.in_ok-parts.ensures.none s f
    (subst (λ (e : Environment). IsRelationReach s c.args.r.now c.args.variables.now.vars.now e c.args.scope.now) (sym c.in_ok-bring_in.ensures.bound)
    (come s c.args.env.now c.args.scope.now over c.args.r.now c.args.variables.now.vars.now own c.requires.empty))
    (c.in_ok-bring_in.ensures.related s over own)

pub returns-clause-settled : goal.returns-clause-settled
returns-clause-settled c = λ s over own.
    settled_here s c.args.r.now c.args.variables.now.vars.now c.bring_in.new.env c.args.scope.now
    (subst (λ (e : Environment). IsRelationReach s c.args.r.now c.args.variables.now.vars.now e c.args.scope.now) (sym c.in_ok-bring_in.ensures.bound)
    (come s c.args.env.now c.args.scope.now over c.args.r.now c.args.variables.now.vars.now own c.requires.empty))
    c.in_order.ensures

pub returns-clause-kept : goal.returns-clause-kept
returns-clause-kept c =
    c.forget_variables.ensures ∙ ap without_variables c.in_ok-bring_in.ensures.bound
    ∙ ap (λ (vs : NamesWith Variable). record c.args.env.now { variables = vs }) (sym c.requires.empty)
