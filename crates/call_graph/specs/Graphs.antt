-- Directed graphs: what each node, by its number from 0, leads to, and cycles.
use Rattle.std.specs.Prelude.{◌≡◌, ℕ, ◌<◌, List, [], ◌∷◌, length, slice_index_or}

-- the nodes to which each node leads
abbrev pub Graph : Type 0
Graph = List (List ℕ)

-- those of one node; a number past the end leads nowhere
abbrev pub neighbours : Graph → ℕ → List ℕ
neighbours g u = slice_index_or g u []

abbrev pub Leads : Graph → ℕ → ℕ → Type 0
Leads g u v = (k : ℕ) × (k < length (neighbours g u)) × (slice_index_or (neighbours g u) k 0 ≡ v)

-- from a node to another, through these nodes between
abbrev pub IsPath : Graph → ℕ → List ℕ → ℕ → Type 0
IsPath g u [] v = Leads g u v
IsPath g u (w ∷ ws) v = Leads g u w × IsPath g w ws v

-- a path leads from the node back to it
abbrev pub IsOnCycle : Graph → ℕ → Type 0
IsOnCycle g u = (between : List ℕ) × IsPath g u between u
