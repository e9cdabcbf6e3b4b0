use Rattle.std.proofs.Common.{ℕ, List}
use Rattle.std.proofs.lemmas.Result.{err_from_is_err_and}
use Rattle.ocl_environments.specs.declared.fault.TypeFault.{TypeFault}
use Rattle.ocl_types.proofs.QueryLemmas.{err_told}
use Rattle.script_scopes.specs.Conjuncts.{clause_conjuncts}
use Rattle.script_scopes.specs.Environments.{Setting}
use Rattle.qvtr_types.specs.PlacedFaults.{StandsInClauses}
use Rattle.qvtr_types.specs.ResolvedConjuncts.{reach_of, StandsInOne}
use Rattle.qvtr_types.specs.ClauseSettings.{vars_of, IsClauseScopeOf}
use Rattle.qvtr_types.proofs.ClauseLaws.{root_types, whens_are, wheres_are, when_stands, where_stands, none_there}
use Rattle.qvtr_types.proofs.clauses.resolve_clauses.Goals as goal

pub resolve_conjuncts-requires : goal.resolve_conjuncts-requires
resolve_conjuncts-requires c = record { roots = root_types c.requires.0 c.args.r.now c.args.scope.now c.requires.1 }

pub resolve_conjuncts-requires-2 : goal.resolve_conjuncts-requires-2
resolve_conjuncts-requires-2 c = record { roots = root_types c.requires.0 c.args.r.now c.args.scope.now c.requires.1 }

pub returns-in_err-whens-clause-fault : goal.returns-in_err-whens-clause-fault
returns-in_err-whens-clause-fault c =
    let p = err_from_is_err_and c.from_residual.result c.from_residual.ensures.1 in
    err_told c.from_residual.result p.0 _ (λ (f : TypeFault). (s : Setting) → IsClauseScopeOf s c.args.r.now c.args.scope.now → StandsInClauses s c.args.r.now (vars_of c.args.scope.now) f)
    (StandsInOne (reach_of c.args.scope.now) (clause_conjuncts c.args.r.now.when)) p.1 p.2
    (λ f h s one. when_stands s c.args.r.now c.args.scope.now one f h) c.in_err-whens.ensures.fault

pub returns-in_err-wheres-clause-fault : goal.returns-in_err-wheres-clause-fault
returns-in_err-wheres-clause-fault c =
    let p = err_from_is_err_and c.from_residual-in_err-wheres.result c.from_residual-in_err-wheres.ensures.1 in
    err_told c.from_residual-in_err-wheres.result p.0 _ (λ (f : TypeFault). (s : Setting) → IsClauseScopeOf s c.args.r.now c.args.scope.now → StandsInClauses s c.args.r.now (vars_of c.args.scope.now) f)
    (StandsInOne (reach_of c.args.scope.now) (clause_conjuncts c.args.r.now.wheres)) p.1 p.2
    (λ f h s one. where_stands s c.args.r.now c.args.scope.now one f h) c.in_err-wheres.ensures.fault

pub returns-clause-whens : goal.returns-clause-whens
returns-clause-whens c = λ s h. whens_are s c.args.r.now c.args.scope.now h c.in_ok-whens.whens c.in_ok-whens.ensures.are

pub returns-clause-wheres : goal.returns-clause-wheres
returns-clause-wheres c = λ s h. wheres_are s c.args.r.now c.args.scope.now h c.in_ok-wheres.wheres c.in_ok-wheres.ensures.are

pub returns-clause-none : goal.returns-clause-none
returns-clause-none c = λ s f h.
    none_there s c.args.r.now c.args.scope.now h c.places_are_told.ensures.condition c.places_are_told.ensures.arguments c.in_ok-whens.whens c.in_ok-wheres.wheres
    c.in_ok-whens.ensures.are c.in_ok-wheres.ensures.are f
