-- Directed graphs by their edges: for each node the nodes to which an edge leads from it.
use Rattle.std.specs.Prelude.{◌≡◌, ◌<◌, ℕ, List, [], ◌∷◌, ◌++◌, map, set, length, Contains}
use Rattle.call_graph.specs.Graphs.{Graph, neighbours}

abbrev pub Edge : Type 0
Edge = ℕ × ℕ

-- edges from one node to others, and to one node from others
abbrev pub edges_from : ℕ → List ℕ → List Edge
edges_from v ws = map (λ w. (v, w)) ws

abbrev pub edges_to : ℕ → List ℕ → List Edge
edges_to w vs = map (λ v. (v, w)) vs

abbrev pub with_edge : Graph → Edge → Graph
with_edge rows e = set rows e.0 (neighbours rows e.0 ++ e.1 ∷ [])

abbrev pub with_edges : Graph → List Edge → Graph
with_edges rows [] = rows
with_edges rows (e ∷ es) = with_edges (with_edge rows e) es

-- each edge begins at one of so many nodes
abbrev pub BeginWithin : ℕ → List Edge → Type 0
BeginWithin count edges = (e : Edge) → Contains edges e → e.0 < count

-- the graph has so many nodes and these edges
pub record HasEdges (count : ℕ) (edges : List Edge) (g : Graph) : Type 0 where
  pub long : length g ≡ count
  pub there : (v w : ℕ) → Contains edges (v, w) → Contains (neighbours g v) w
  pub only : (v w : ℕ) → Contains (neighbours g v) w → Contains edges (v, w)
