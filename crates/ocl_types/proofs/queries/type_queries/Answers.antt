use Rattle.std.proofs.Common.{ℕ, List, Bor, map, ap, subst, ◌∙◌, length}
use Rattle.call_graph.specs.Graphs.{IsOnCycle}
use Rattle.ocl_environments.specs.Environments.{Environment, without_names}
use Rattle.ocl_types.specs.QueryTyping.{IsFirstFault}
use Rattle.ocl_environments.specs.QueryCalls.{rows_of}
use Rattle.ocl_types.proofs.QueryLemmas.{kept_variables, fault_of_result, fault_without, ok_told, put_typed}
use Rattle.qv_syntax.specs.declared.query.QueryTree.{QueryTree}
use Rattle.ocl_types.proofs.SignatureLemmas.{in_reach_of}
use Rattle.ocl_types.proofs.queries.type_queries.Goals as goal

abbrev shown : List (Bor QueryTree) → List QueryTree
shown qs = map {A = Bor QueryTree} {B = QueryTree} (λ q. q.now) qs

pub put_variables-requires-clause-typed : goal.put_variables-requires-clause-typed
put_variables-requires-clause-typed c =
    kept_variables c.args.env.now c.type_all-typed.new.env c.take_variables-variables.result (c.type_all-typed.ensures.kept ∙ ap without_names c.take_variables-variables.ensures.left)
    c.take_variables-variables.ensures.typed

pub returns-clause-typed : goal.returns-clause-typed
returns-clause-typed c =
    ok_told c.type_all-typed.result _ _ _
    (λ typed empty is. put_typed c.args.env.now c.take_variables-variables.new.self c.type_all-typed.new.env c.put_variables.new.self c.take_variables-variables.result (shown c.args.queries.now) typed
    c.take_variables-variables.ensures.left empty c.put_variables.ensures is)
    c.type_all-typed.ensures.empty c.type_all-typed.ensures.typed

pub returns-clause-acyclic : goal.returns-clause-acyclic
returns-clause-acyclic c =
    ok_told c.type_all-typed.result _ _ _
    (λ typed empty none. subst (λ (e : Environment). (u : ℕ) → IsOnCycle (rows_of (length e.queries) typed) u → ⊥) c.take_variables-variables.ensures.left none)
    c.type_all-typed.ensures.empty c.type_all-typed.ensures.acyclic

pub returns-clause-fault : goal.returns-clause-fault
returns-clause-fault c =
    fault_of_result c.type_all-typed.result _ _
    (λ f stands. fault_without c.args.env.now (shown c.args.queries.now) f
    (subst (λ (e : Environment). IsFirstFault e (shown c.args.queries.now) f) c.take_variables-variables.ensures.left stands))
    c.type_all-typed.ensures.fault

pub returns-clause-in_reach : goal.returns-clause-in_reach
returns-clause-in_reach c = in_reach_of c.args.env.now c.put_variables.new.self (shown c.args.queries.now) c.type_all-typed.result (returns-clause-typed c)
