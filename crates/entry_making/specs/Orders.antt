-- Orders of the nodes of a graph without a cycle, in which each node stands behind those to which it leads.
use Rattle.std.specs.Prelude.{◌≡◌, ◌<◌, ℕ, List, [], ◌∷◌, length, map, replicate, Contains}
use Rattle.std.specs.List.{range_with_len}
use Rattle.std.specs.List.Sorted.{IsPermutation}
use Rattle.call_graph.specs.Graphs.{Graph, Leads}
use Rattle.call_graph.specs.Strata.{stratum_at}
use Rattle.entry_making.specs.declared.ranked.Ranked.{Ranked}

-- one edge or more
pub data LeadsThrough (Edge : ℕ → ℕ → Type 0) : ℕ → ℕ → Type 0 where
  direct : (u v : ℕ) → Edge u v → LeadsThrough Edge u v
  more : (u v w : ℕ) → Edge u v → LeadsThrough Edge v w → LeadsThrough Edge u w

-- no path of edges comes back to its begin
abbrev pub HasNoCycle : (ℕ → ℕ → Type 0) → Type 0
HasNoCycle Edge = (v : ℕ) → LeadsThrough Edge v v → ⊥

-- each of these nodes stands behind those to which it leads, where some are done before
abbrev pub AreBehind : Graph → List ℕ → List ℕ → Type 0
AreBehind graph done [] = Unit {0}
AreBehind graph done (v ∷ vs) = ((w : ℕ) → w < length graph → Leads graph v w → Contains done w) × AreBehind graph (v ∷ done) vs

-- each node once, behind those to which it leads
pub record IsOrder (graph : Graph) (order : List ℕ) : Type 0 where
  pub nodes : IsPermutation (range_with_len 0 (length graph)) order
  pub behind : AreBehind graph [] order

-- a node with its stratum
abbrev pub ranked_at : List ℕ → ℕ → Ranked
ranked_at strata v = record { stratum = stratum_at strata v; node = v }
