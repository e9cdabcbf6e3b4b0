-- The faults that stand in the queries of a script (QVT 1.3, section 7.11.1.4): those of their typing, and cycles of calls.
use Rattle.std.specs.Prelude.{◌≡◌, ℕ, List, Some, slice_get}
use Rattle.qv_syntax.specs.declared.query.Query.{Query}
use Rattle.qv_syntax.specs.declared.query.QueryTree.{QueryTree}
use Rattle.qv_syntax.specs.QueryCalls.{Reaches}
use Rattle.ocl_environments.specs.declared.fault.TypeFault.{TypeFault}
use Rattle.ocl_environments.specs.declared.fault.TypeFault.TheVariants.{QueryCycle}
use Rattle.ocl_environments.specs.Environments.{Environment}
use Rattle.ocl_types.specs.Queries.{AreQueries, StandInQueries}

-- a typed query comes to itself by calls
pub record IsOnQueryCycle (queries : List Query) (query : Query) : Type 0 where
  pub number : ℕ
  pub found : slice_get queries number ≡ Some query
  pub cycle : Reaches queries number number

-- over what is in reach without queries
pub data StandsInQueries (env : Environment) (trees : List QueryTree) : TypeFault → Type 0 where
  typing : (f : TypeFault) → StandInQueries env trees f → StandsInQueries env trees f
  cycle : (bound : Environment) (queries : List Query) (query : Query) → AreQueries env trees bound queries → IsOnQueryCycle queries query
      → StandsInQueries env trees (QueryCycle query.name)
