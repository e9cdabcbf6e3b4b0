-- The stratum of nodes that reach each other, by the strata of what they call.
use Rattle.std.specs.Prelude.{◌≡◌, ℕ, ◌+◌, ◌<◌, ◌≤◌, ◌⊎◌, List, length, slice_index_or, take}
use Rattle.call_graph.specs.declared.standing.Standing.{Standing}
use Rattle.call_graph.specs.declared.standing.Standing.TheVariants.{Done}
use Rattle.call_graph.specs.declared.walk.Walk.{Walk}
use Rattle.call_graph.specs.Graphs.{Graph, Leads}
use Rattle.call_graph.specs.Walks.{standing_at, node_at, new_count}

abbrev pub IsDone : List Standing → ℕ → Type 0
IsDone standings v = (stratum : ℕ) × (standing_at standings v ≡ Done stratum)

-- no node of this list that is done has a greater stratum with this much more
pub record IsTop (standings : List Standing) (more : ℕ) (row : List ℕ) (n : ℕ) (top : ℕ) : Type 0 where
  pub most : (k stratum : ℕ) → k < n → standing_at standings (slice_index_or row k 0) ≡ Done stratum → stratum + more ≤ top
  pub some : (top ≡ 0) ⊎ ((k : ℕ) × (stratum : ℕ) × (k < n) × (standing_at standings (slice_index_or row k 0) ≡ Done stratum) × (stratum + more ≡ top))

-- what a node calls needs no more than this
pub record IsEnough (whens wheres : Graph) (standings : List Standing) (u top : ℕ) : Type 0 where
  pub by_when : (v stratum : ℕ) → Leads whens u v → standing_at standings v ≡ Done stratum → stratum + 1 ≤ top
  pub by_where : (v stratum : ℕ) → Leads wheres u v → standing_at standings v ≡ Done stratum → stratum ≤ top

-- something that a node calls needs this much
abbrev pub IsNeeded : Graph → Graph → List Standing → ℕ → ℕ → Type 0
IsNeeded whens wheres standings u top = (v : ℕ) × (stratum : ℕ) × (standing_at standings v ≡ Done stratum) × ((Leads whens u v × (stratum + 1 ≡ top)) ⊎ (Leads wheres u v × (stratum ≡ top)))

-- what the nodes in these places call needs this much, and no more
pub record IsGroupTop (whens wheres : Graph) (standings : List Standing) (stack : List ℕ) (from n top : ℕ) : Type 0 where
  pub enough : (p : ℕ) → from ≤ p → p < n → IsEnough whens wheres standings (node_at stack p) top
  pub needed : (top ≡ 0) ⊎ ((p : ℕ) × (from ≤ p) × (p < n) × IsNeeded whens wheres standings (node_at stack p) top)

-- the calls in when clauses of the nodes in these places lead to nodes that are done
abbrev pub AreWhensDone : Graph → List Standing → List ℕ → ℕ → ℕ → Type 0
AreWhensDone whens standings stack from n = (p v : ℕ) → from ≤ p → p < n → Leads whens (node_at stack p) v → IsDone standings v

-- the nodes from a place on were given a stratum, and the others are as they were
abbrev pub AreSettled : List Standing → List Standing → List ℕ → ℕ → ℕ → Type 0
AreSettled before after stack from stratum = (v : ℕ) →
    ((standing_at after v ≡ standing_at before v) × ((p : ℕ) → from ≤ p → p < length stack → node_at stack p ≡ v → ⊥))
    ⊎ ((p : ℕ) × (from ≤ p) × (p < length stack) × (node_at stack p ≡ v) × (standing_at after v ≡ Done stratum))

-- the nodes from a place on are closed, with the stratum that their calls need
pub record IsClosed (whens wheres : Graph) (before : Walk) (from : ℕ) (after : Walk) : Type 0 where
  pub whens_done : AreWhensDone whens before.standings.items before.stack from (length before.stack)
  pub top : (top : ℕ) × IsGroupTop whens wheres before.standings.items before.stack from (length before.stack) top × AreSettled before.standings.items after.standings.items before.stack from top
  pub long : length after.standings.items ≡ length before.standings.items
  pub fewer : new_count after.standings.items ≤ new_count before.standings.items
  pub passed : after.passed.items ≡ before.passed.items
  pub stack : after.stack ≡ take from before.stack
  pub path : after.path ≡ before.path

-- a node from a place on calls one that isn't done in a when clause
abbrev pub IsOpenWhen : Graph → List Standing → List ℕ → ℕ → ℕ → Type 0
IsOpenWhen whens standings stack from u = (p : ℕ) × (v : ℕ) × (from ≤ p) × (p < length stack) × (node_at stack p ≡ u) × Leads whens u v × (IsDone standings v → ⊥)
