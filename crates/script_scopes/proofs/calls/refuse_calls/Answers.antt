use Rattle.std.proofs.Common.{◌≡◌, ℕ, List}
use Rattle.std.specs.Prelude.{All, Contains, chars}
use Rattle.std.specs.List.{flat_map}
use Rattle.std.proofs.lemmas.Result.{err_from_is_err_and}
use Rattle.qv_syntax.specs.declared.script.RelationTree.{RelationTree}
use Rattle.ocl_types.proofs.QueryLemmas.{err_told, fault_of_result}
use Rattle.script_scopes.specs.ScriptNames.{each_once}
use Rattle.script_scopes.specs.Occurrences.{relations_of}
use Rattle.script_scopes.specs.Declarations.{relation_names}
use Rattle.script_scopes.specs.Directions.{IsMisplaced, LeavesDirection}
use Rattle.script_scopes.specs.Environments.{Setting}
use Rattle.script_scopes.specs.Faults.{IsCalledInQuery}
use Rattle.script_scopes.specs.CallNames.{script_calls, inside_calls, outside_names, IsCallFault}
use Rattle.script_scopes.proofs.RefusalLemmas.{given, given_then, StandsIn}
use Rattle.script_scopes.proofs.CallLaws.{none_misplaced, none_in_query, calls_stand}
use Rattle.script_scopes.proofs.DirectionLaws.{none_leaves, leaving_stands}
use Rattle.script_scopes.proofs.calls.refuse_calls.Goals as goal

pub returns-in_err-refuse_places-clause-fault : goal.returns-in_err-refuse_places-clause-fault
returns-in_err-refuse_places-clause-fault c =
    let target : List ℕ = chars c.args.target.now in
    let names : List (List ℕ) = each_once (relation_names c.args.script.now) in
    let p = err_from_is_err_and c.from_residual.result c.from_residual.ensures.1 in
    err_told c.from_residual.result p.0 _ (λ f. StandsIn c.args.script.now target f) (IsCallFault names (script_calls names c.args.script.now)) p.1 p.2
    (λ f h. calls_stand c.args.script.now target f h) c.in_err-refuse_places.ensures.fault

pub returns-clause-placed : goal.returns-clause-placed
returns-clause-placed c = given c.refuse_outside.result ((r : RelationTree) (name : List ℕ) → Contains (relations_of c.args.script.now) r → ¬ IsMisplaced c.args.script.now r name)
    (none_misplaced c.args.script.now c.in_ok-refuse_places.ensures.none)

pub returns-clause-in_queries : goal.returns-clause-in_queries
returns-clause-in_queries c = given c.refuse_outside.result ((s : Setting) (name : List ℕ) → s.script ≡ c.args.script.now → ¬ IsCalledInQuery s name)
    (none_in_query c.args.script.now c.in_ok-refuse_places.ensures.none)

pub returns-clause-inside : goal.returns-clause-inside
returns-clause-inside c =
    let target : List ℕ = chars c.args.target.now in
    let relations : List RelationTree = relations_of c.args.script.now in
    given_then c.refuse_outside.result (All (λ (n : List ℕ). ¬ Contains (each_once (outside_names target relations)) n) (flat_map (inside_calls target) relations))
    ((r called : RelationTree) → Contains relations r → ¬ LeavesDirection c.args.script.now target r called)
    (λ all. none_leaves c.args.script.now target all) c.refuse_outside.ensures.none

pub returns-clause-fault : goal.returns-clause-fault
returns-clause-fault c =
    let target : List ℕ = chars c.args.target.now in
    let relations : List RelationTree = relations_of c.args.script.now in
    fault_of_result c.refuse_outside.result (IsCallFault (each_once (outside_names target relations)) (flat_map (inside_calls target) relations)) (λ f. StandsIn c.args.script.now target f)
    (λ f h. leaving_stands c.args.script.now target f h) c.refuse_outside.ensures.fault
