use Rattle.std.proofs.Common.{List, refl}
use Rattle.std.specs.Prelude.{Err}
use Rattle.std.proofs.lemmas.Result.{err_from_is_err_and}
use Rattle.qv_syntax.specs.declared.program.Var.{Var}
use Rattle.qv_syntax.specs.declared.script.RelationTree.{RelationTree}
use Rattle.ocl_environments.specs.declared.fault.TypeFault.{TypeFault}
use Rattle.ocl_types.proofs.QueryLemmas.{err_told}
use Rattle.qvtr_types.specs.declared.domains.RelationScope.{RelationScope}
use Rattle.qvtr_types.specs.declared.relations.RelationParts.{RelationParts}
use Rattle.qvtr_types.specs.declared.resolved_conjuncts.ClauseScope.{ClauseScope}
use Rattle.script_scopes.specs.Environments.{Setting}
use Rattle.script_scopes.specs.Faults.{StandsInExpressions}
use Rattle.qvtr_types.specs.PlacedFaults.{StandsInClauses, StandsInItems}
use Rattle.qvtr_types.specs.RelationSettings.{IsReachOf}
use Rattle.qvtr_types.specs.ClauseSettings.{IsClauseScopeOf}
use Rattle.qvtr_types.specs.ScriptScopes.{IsRelationReach}
use Rattle.qvtr_types.proofs.RelationLaws.{reach_for, clause_for, clause_fault, item_fault, none_here}
use Rattle.qvtr_types.proofs.relations.parts_of.Goals as goal

pub resolve_domains-requires : goal.resolve_domains-requires
resolve_domains-requires c = (
  c.requires.setting.0,
  c.args.variables.now.vars.now,
  reach_for c.requires.setting.0 c.args.r.now c.args.variables.now.vars.now c.args.env.now c.args.scope.now c.requires.setting.1 _ refl refl c.requires.numbers,
)

pub resolve_clauses-requires : goal.resolve_clauses-requires
resolve_clauses-requires c = (
  c.requires.setting.0,
  clause_for c.requires.setting.0 c.args.r.now c.args.variables.now.vars.now c.args.env.now c.args.scope.now c.requires.setting.1 _ refl refl c.requires.numbers c.requires.universal refl refl,
)

pub returns-in_err-domains-clause-fault : goal.returns-in_err-domains-clause-fault
returns-in_err-domains-clause-fault c =
    let r : RelationTree = c.args.r.now in
    let vars : List Var = c.args.variables.now.vars.now in
    let within : RelationScope = record { env = c.args.env; names = c.args.scope.now.names; variables = c.args.variables.now.numbers } in
    let p = err_from_is_err_and c.from_residual.result c.from_residual.ensures.1 in
    err_told c.from_residual.result p.0 _
    (λ (f : TypeFault). (s : Setting) → IsRelationReach s r vars c.args.env.now c.args.scope.now → StandsInExpressions s r vars f)
    (λ (f : TypeFault). (s : Setting) (vs : List Var) → IsReachOf s r vs within → StandsInItems s r vs f) p.1 p.2
    (λ f h s reach. item_fault s r vars c.args.env.now c.args.scope.now reach c.expression_faults_are_told.ensures.items f
    (h s vars (reach_for s r vars c.args.env.now c.args.scope.now reach within refl refl c.requires.numbers)))
    c.in_err-domains.ensures.fault

pub returns-clause-fault : goal.returns-clause-fault
returns-clause-fault c =
    let r : RelationTree = c.args.r.now in
    let vars : List Var = c.args.variables.now.vars.now in
    let over : ClauseScope = record { env = c.args.env; variables = c.args.variables.now; relations = c.args.scope.now.relations; roots = c.args.scope.now.roots } in
    err_told {X = RelationParts} (Err c.or_drop-from.result) c.or_drop-from.result c.in-Err-or_drop.field-0
    (λ (f : TypeFault). (s : Setting) → IsRelationReach s r vars c.args.env.now c.args.scope.now → StandsInExpressions s r vars f)
    (λ (f : TypeFault). (s : Setting) → IsClauseScopeOf s r over → StandsInClauses s r vars f) refl c.or_drop-from.ensures
    (λ f h s reach. clause_fault s r vars c.args.env.now c.args.scope.now reach c.expression_faults_are_told.ensures.stands f
    (h s (clause_for s r vars c.args.env.now c.args.scope.now reach over refl refl c.requires.numbers c.requires.universal refl refl)))
    c.in-Err-or_drop.ensures.fault

pub returns-2-clause-domains : goal.returns-2-clause-domains
returns-2-clause-domains c = λ s reach.
    c.in_ok-domains.ensures.domains s c.args.variables.now.vars.now
    (reach_for s c.args.r.now c.args.variables.now.vars.now c.args.env.now c.args.scope.now reach _ refl refl c.requires.numbers)

pub returns-2-clause-whens : goal.returns-2-clause-whens
returns-2-clause-whens c = λ s reach.
    c.in-Ok-or_drop.ensures.whens s
    (clause_for s c.args.r.now c.args.variables.now.vars.now c.args.env.now c.args.scope.now reach _ refl refl c.requires.numbers c.requires.universal refl refl)

pub returns-2-clause-wheres : goal.returns-2-clause-wheres
returns-2-clause-wheres c = λ s reach.
    c.in-Ok-or_drop.ensures.wheres s
    (clause_for s c.args.r.now c.args.variables.now.vars.now c.args.env.now c.args.scope.now reach _ refl refl c.requires.numbers c.requires.universal refl refl)

pub returns-2-clause-none : goal.returns-2-clause-none
returns-2-clause-none c = λ s f reach related.
    none_here s c.args.r.now c.args.variables.now.vars.now c.args.env.now c.args.scope.now reach c.expression_faults_are_told.ensures.none
    (λ g. c.in-Ok-or_drop.ensures.none s g
    (clause_for s c.args.r.now c.args.variables.now.vars.now c.args.env.now c.args.scope.now reach _ refl refl c.requires.numbers c.requires.universal refl refl))
    (λ g. c.in_ok-domains.ensures.none s c.args.variables.now.vars.now g
    (reach_for s c.args.r.now c.args.variables.now.vars.now c.args.env.now c.args.scope.now reach _ refl refl c.requires.numbers))
    related f
