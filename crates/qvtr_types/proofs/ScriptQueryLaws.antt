-- The queries of a script, typed, and the faults that stand in them.
use Rattle.std.proofs.Common.{◌≡◌, ℕ, List, [], Ok, Err, sym, ap, subst, ◌∙◌, length, arith, ⊎_elim}
use Rattle.std.specs.Prelude.{Result, IfOk, OnOk}
use Rattle.call_graph.specs.Graphs.{IsOnCycle}
use Rattle.qv_syntax.specs.declared.query.Query.{Query}
use Rattle.qv_syntax.specs.declared.query.QueryTree.{QueryTree}
use Rattle.ocl_environments.specs.declared.fault.TypeFault.{TypeFault}
use Rattle.ocl_environments.specs.declared.fault.TypeFault.TheVariants.{QueryCycle}
use Rattle.ocl_environments.specs.Environments.{Environment}
use Rattle.ocl_types.specs.Queries.{AreQueries, StandInQueries}
use Rattle.ocl_types.specs.QueryTyping.{queries_typed, IsFirstFault}
use Rattle.ocl_environments.specs.QueryCalls.{rows_of, IsCycleFault}
use Rattle.qv_syntax.specs.QueryCalls.{Reaches, AreAcyclic}
use Rattle.ocl_types.proofs.CycleLaws.{cycle_reached}
use Rattle.ocl_types.proofs.JudgedLaws.{ok_err, ok_ok}
use Rattle.script_scopes.specs.ScriptQueries.{StandsInQueries}

module _ (env : Environment) (trees : List QueryTree) (none : env.queries ≡ [])
    (told : (bound : Environment) (queries : List Query) → queries_typed env trees ≡ Ok (bound, queries) → AreQueries env trees bound queries)
    (fault : (f : TypeFault) → queries_typed env trees ≡ Err f → StandInQueries env trees f) where
  cycle_stands : (bound : Environment) (queries : List Query) (f : TypeFault) → queries_typed env trees ≡ Ok (bound, queries) → IsCycleFault 0 queries f → StandsInQueries env trees f
  cycle_stands bound queries f is h =
      subst (StandsInQueries env trees) (sym (h.names ∙ ap QueryCycle h.query.names))
      (StandsInQueries.cycle bound queries h.query.query (told bound queries is) (record { number = h.place; found = h.query.found; cycle = cycle_reached queries h.place (subst (λ (u : ℕ). IsOnCycle (rows_of 0 queries) u) (omega arith) h.cycle) }))

  pub first_stands : (f : TypeFault) → IsFirstFault env trees f → StandsInQueries env trees f
  first_stands f h = ⊎_elim
      (λ typing. StandsInQueries.typing f (fault f typing))
      (λ cycle. cycle_stands cycle.0 cycle.1 f cycle.2 (subst (λ (qs : List _). IsCycleFault (length qs) cycle.1 f) none cycle.3))
      h

-- what holds of what a call answers, of two things that are told of it
pub both_told : {X E : Type 0} (r : Result X E) (P Q : X → Type 0) (A : Type 0) → ((x : X) → P x → Q x → A) → IfOk r P → IfOk r Q → OnOk r A
both_told (Ok x) P Q A tells one other = tells x one other
both_told (Err e) P Q A tells one other = tt

-- where queries are typed and none comes to itself, no fault stands in them
module _ (env : Environment) (trees : List QueryTree) (only : (bound : Environment) (queries : List Query) → AreQueries env trees bound queries → queries_typed env trees ≡ Ok (bound, queries))
    (known : (f : TypeFault) → StandInQueries env trees f → (g : TypeFault) × (queries_typed env trees ≡ Err g))
    (bound : Environment) (queries : List Query) (is : queries_typed env trees ≡ Ok (bound, queries)) (acyclic : AreAcyclic queries) where
  pub none_stands : (f : TypeFault) → StandsInQueries env trees f → ⊥
  none_stands _ (StandsInQueries.typing f stands) = let (g, err) = known f stands in ok_err (queries_typed env trees) (bound, queries) g is err
  none_stands _ (StandsInQueries.cycle other qs query are on) =
      let same : (other, qs) ≡ (bound, queries) = ok_ok (queries_typed env trees) (other, qs) (bound, queries) (only other qs are) is in
      acyclic on.number (subst (λ (x : List Query). Reaches x on.number on.number) (ap (λ (p : Environment × List Query). p.1) same) on.cycle)
