-- What holds in a search for a cycle, depth first.
use Rattle.std.specs.Prelude.{◌≡◌, ℕ, ◌+◌, ◌*◌, ◌<◌, ◌≤◌, List, [], ◌∷◌, length, slice_index_or, Contains}
use Rattle.call_graph.specs.declared.mark.Mark.{Mark}
use Rattle.call_graph.specs.declared.mark.Mark.TheVariants.{New, Open, Done}
use Rattle.call_graph.specs.Graphs.{Graph, neighbours, Leads}

-- a node past the end counts as done
abbrev pub mark_at : List Mark → ℕ → Mark
mark_at marks u = slice_index_or marks u Done

abbrev pub Settled : List Mark → ℕ → Type 0
Settled marks u = mark_at marks u ≡ Done

-- no cycle is reached from the node
pub data Sure (g : Graph) : ℕ → Type 0 where
  sure : (u : ℕ) → ((v : ℕ) → Leads g u v → Sure g v) → Sure g u

-- each node of the path leads to the next
abbrev pub IsChain : Graph → List ℕ → Type 0
IsChain g [] = Unit {0}
IsChain g (u ∷ []) = Unit {0}
IsChain g (u ∷ v ∷ path) = Leads g u v × IsChain g (v ∷ path)

-- how many of the neighbours of a node were passed
abbrev pub passed_at : List ℕ → ℕ → ℕ
passed_at next u = slice_index_or next u 0

-- the neighbours before this place are settled
abbrev pub ArePassed : List Mark → List ℕ → ℕ → Type 0
ArePassed marks row n = (k : ℕ) → k < n → Settled marks (slice_index_or row k 0)

pub record IsSearch (g : Graph) (marks : List Mark) (next : List ℕ) (path : List ℕ) : Type 0 where
  pub long : length marks ≡ length g
  pub nexts : length next ≡ length g
  pub within : (u : ℕ) → passed_at next u ≤ length (neighbours g u)
  pub passed : (u : ℕ) → ArePassed marks (neighbours g u) (passed_at next u)
  pub done : (u : ℕ) → Settled marks u → Sure g u
  pub opened : (u : ℕ) → mark_at marks u ≡ Open → Contains path u
  pub chained : IsChain g path
  pub inside : (u : ℕ) → Contains path u → u < length g

-- a node that was looked at stays so
abbrev pub StaySeen : List Mark → List Mark → Type 0
StaySeen before after = (u : ℕ) → (mark_at before u ≡ New → ⊥) → mark_at after u ≡ New → ⊥

abbrev pub new_count : List Mark → ℕ
new_count [] = 0
new_count (New ∷ marks) = 1 + new_count marks
new_count (Open ∷ marks) = new_count marks
new_count (Done ∷ marks) = new_count marks

-- what falls with each step of a search
abbrev pub weight : List Mark → List ℕ → ℕ
weight marks path = 2 * new_count marks + length path
