-- Calls of two kinds, from when and from where clauses, and strata (QVT 1.3, sections 7.2 and 7.11.1).
use Rattle.std.specs.Prelude.{◌≡◌, ◌≤◌, ℕ, suc, List, length, slice_index_or}
use Rattle.call_graph.specs.declared.layers.Layers.{Layers}
use Rattle.call_graph.specs.declared.layers.Layers.TheVariants.{Cyclic, Layered}
use Rattle.call_graph.specs.Graphs.{Graph, Leads}

-- a path of calls from a node to another, with the number of those in when clauses
pub data IsCallPath (whens : Graph) (wheres : Graph) : ℕ → ℕ → ℕ → Type 0 where
  end : (u : ℕ) → IsCallPath whens wheres u u 0
  by_when : (u v last count : ℕ) → Leads whens u v → IsCallPath whens wheres v last count → IsCallPath whens wheres u last (suc count)
  by_where : (u v last count : ℕ) → Leads wheres u v → IsCallPath whens wheres v last count → IsCallPath whens wheres u last count

-- a path with at least one call in a when clause leads from the node back to it
abbrev pub IsOnWhenCycle : Graph → Graph → ℕ → Type 0
IsOnWhenCycle whens wheres u = (count : ℕ) × IsCallPath whens wheres u u (suc count)

-- the greatest number of calls in when clauses on a path from the node
pub record IsStratum (whens : Graph) (wheres : Graph) (u : ℕ) (stratum : ℕ) : Type 0 where
  pub reached : (last : ℕ) × IsCallPath whens wheres u last stratum
  pub greatest : (last count : ℕ) → IsCallPath whens wheres u last count → count ≤ stratum

abbrev pub stratum_at : List ℕ → ℕ → ℕ
stratum_at strata u = slice_index_or strata u 0

abbrev pub AreStrata : Graph → Graph → List ℕ → Type 0
AreStrata whens wheres strata = (length strata ≡ length whens) × ((u : ℕ) → IsStratum whens wheres u (stratum_at strata u))

-- a node on a cycle with a call in a when clause, or the strata where there is no such cycle
abbrev pub AreLayers : Graph → Graph → Layers → Type 0
AreLayers whens wheres (Cyclic u) = IsOnWhenCycle whens wheres u
AreLayers whens wheres (Layered strata) = AreStrata whens wheres strata × ((u : ℕ) → IsOnWhenCycle whens wheres u → ⊥)
