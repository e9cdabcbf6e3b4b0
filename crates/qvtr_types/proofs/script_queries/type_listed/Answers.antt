use Rattle.std.proofs.Common.{ℕ, List, Bor, map, length, subst}
use Rattle.std.proofs.lemmas.Result.{IfOk-weaker}
use Rattle.call_graph.specs.Graphs.{IsOnCycle}
use Rattle.qv_syntax.specs.declared.query.QueryTree.{QueryTree}
use Rattle.ocl_environments.specs.declared.fault.TypeFault.{TypeFault}
use Rattle.ocl_environments.specs.declared.variable.Signature.{Signature}
use Rattle.ocl_environments.specs.Environments.{NamesWith}
use Rattle.ocl_environments.specs.QueryCalls.{rows_of}
use Rattle.ocl_types.proofs.QueryLemmas.{fault_of_result}
use Rattle.qvtr_types.proofs.ScriptQueryLaws.{both_told, first_stands, none_stands}
use Rattle.script_scopes.specs.ScriptQueries.{StandsInQueries}
use Rattle.qvtr_types.proofs.script_queries.type_listed.Goals as goal

abbrev shown : List (Bor QueryTree) → List QueryTree
shown qs = map {A = Bor QueryTree} {B = QueryTree} (λ q. q.now) qs

pub returns-clause-bodies : goal.returns-clause-bodies
returns-clause-bodies c =
    IfOk-weaker c.type_queries.result _ _
    (λ queries is. c.queries_are_typed.ensures (shown c.args.trees.now) _ queries (c.query_typing_is_told.ensures.told (shown c.args.trees.now) _ queries is)) c.type_queries.ensures.typed

pub returns-clause-acyclic : goal.returns-clause-acyclic
returns-clause-acyclic c =
    IfOk-weaker c.type_queries.result _ _
    (λ queries none. (c.calls_are_told.ensures.cycles queries).0
    (subst (λ (qs : NamesWith Signature). (u : ℕ) → IsOnCycle (rows_of (length qs) queries) u → ⊥) c.requires none)) c.type_queries.ensures.acyclic

pub returns-clause-none : goal.returns-clause-none
returns-clause-none c =
    both_told c.type_queries.result _ _ ((f : TypeFault) → ¬ StandsInQueries c.args.env.now (shown c.args.trees.now) f)
    (λ queries is none. none_stands c.args.env.now (shown c.args.trees.now)
    (λ bound qs are. c.query_typing_is_told.ensures.only (shown c.args.trees.now) bound qs are)
    (λ f stands. c.query_typing_is_told.ensures.known (shown c.args.trees.now) f stands)
    _ queries is ((c.calls_are_told.ensures.cycles queries).0
    (subst (λ (qs : NamesWith Signature). (u : ℕ) → IsOnCycle (rows_of (length qs) queries) u → ⊥) c.requires none)))
    c.type_queries.ensures.typed c.type_queries.ensures.acyclic

pub returns-clause-fault : goal.returns-clause-fault
returns-clause-fault c =
    fault_of_result c.type_queries.result _ _
    (first_stands c.args.env.now (shown c.args.trees.now) c.requires (λ bound qs is. c.query_typing_is_told.ensures.told (shown c.args.trees.now) bound qs is)
    (λ f is. c.query_typing_is_told.ensures.fault (shown c.args.trees.now) f is)) c.type_queries.ensures.fault
