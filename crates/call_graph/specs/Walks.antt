-- What holds in a walk, depth first, that finds strata. The nodes that are open stand in the order in which they were
-- opened; each reaches all that stand behind it. The path parts them into segments, each with the nodes that are known
-- to reach its first one.
use Rattle.std.specs.Prelude.{◌≡◌, ℕ, ◌+◌, ◌-◌, ◌*◌, ◌<◌, ◌≤◌, ◌⊎◌, ◌++◌, List, [], ◌∷◌, length, slice_index_or, min, set, replicate}
use Rattle.call_graph.specs.declared.standing.Standing.{Standing}
use Rattle.call_graph.specs.declared.standing.Standing.TheVariants.{New, Open, Done}
use Rattle.call_graph.specs.declared.step.Step.{Step}
use Rattle.call_graph.specs.declared.walk.Walk.{Walk}
use Rattle.call_graph.specs.Graphs.{Graph, neighbours}
use Rattle.call_graph.specs.Strata.{IsCallPath, IsStratum}

-- a node past the end calls nothing, and is done
abbrev pub standing_at : List Standing → ℕ → Standing
standing_at standings u = slice_index_or standings u (Done 0)

abbrev pub node_at : List ℕ → ℕ → ℕ
node_at stack place = slice_index_or stack place 0

-- all that a node calls, in when clauses and then in where clauses
abbrev pub calls_of : Graph → Graph → ℕ → List ℕ
calls_of whens wheres u = neighbours whens u ++ neighbours wheres u

abbrev pub call_at : Graph → Graph → ℕ → ℕ → ℕ
call_at whens wheres u k = slice_index_or (calls_of whens wheres u) k 0

-- how many of the calls of a node were passed
abbrev pub passed_at : List ℕ → ℕ → ℕ
passed_at passed u = slice_index_or passed u 0

-- a path of calls, or none, leads from a node to another
abbrev pub Reaches : Graph → Graph → ℕ → ℕ → Type 0
Reaches whens wheres u v = (count : ℕ) × IsCallPath whens wheres u v count

-- the node is done, or stands open in this place or behind it
abbrev pub IsPast : List Standing → ℕ → ℕ → Type 0
IsPast standings low v = ((stratum : ℕ) × (standing_at standings v ≡ Done stratum)) ⊎ ((place : ℕ) × (standing_at standings v ≡ Open place) × (low ≤ place))

-- the nodes from a step of the path up to a place: they reach that of the step, and lead to no open node before its low
pub record IsSegment (whens wheres : Graph) (standings : List Standing) (passed stack : List ℕ) (step : Step) (end : ℕ) : Type 0 where
  pub low : step.low ≤ step.place
  pub some : step.place < end
  pub back : Reaches whens wheres (node_at stack step.place) (node_at stack step.low)
  pub head : (p : ℕ) → step.place ≤ p → p < end → Reaches whens wheres (node_at stack p) (node_at stack step.place)
  pub all : (p : ℕ) → step.place < p → p < end → passed_at passed (node_at stack p) ≡ length (calls_of whens wheres (node_at stack p))
  pub past : (p k : ℕ) → step.place ≤ p → p < end → k < passed_at passed (node_at stack p) → IsPast standings step.low (call_at whens wheres (node_at stack p) k)

-- the place at which the path begins
abbrev pub begin : List Step → ℕ → ℕ
begin [] end = end
begin (step ∷ path) end = step.place

abbrev pub AreSegments : Graph → Graph → List Standing → List ℕ → List ℕ → List Step → ℕ → Type 0
AreSegments whens wheres standings passed stack [] end = Unit {0}
AreSegments whens wheres standings passed stack (step ∷ path) end = IsSegment whens wheres standings passed stack step (begin path end) × AreSegments whens wheres standings passed stack path end

abbrev pub new_count : List Standing → ℕ
new_count [] = 0
new_count (New ∷ standings) = 1 + new_count standings
new_count (Open place ∷ standings) = new_count standings
new_count (Done stratum ∷ standings) = new_count standings

pub record IsWalk (whens wheres : Graph) (standings : List Standing) (passed stack : List ℕ) (path : List Step) : Type 0 where
  pub long : length standings ≡ length whens
  pub counts : length passed ≡ length whens
  pub within : (u : ℕ) → passed_at passed u ≤ length (calls_of whens wheres u)
  pub fresh : (u : ℕ) → standing_at standings u ≡ New → passed_at passed u ≡ 0
  pub opened : (u p : ℕ) → standing_at standings u ≡ Open p → (p < length stack) × (node_at stack p ≡ u)
  pub placed : (p : ℕ) → p < length stack → standing_at standings (node_at stack p) ≡ Open p
  pub done : (u stratum : ℕ) → standing_at standings u ≡ Done stratum → IsStratum whens wheres u stratum
  pub few : (u stratum : ℕ) → standing_at standings u ≡ Done stratum → stratum + (length stack + new_count standings) ≤ length standings
  pub forth : (p q : ℕ) → p ≤ q → q < length stack → Reaches whens wheres (node_at stack p) (node_at stack q)
  pub segments : AreSegments whens wheres standings passed stack path (length stack)
  pub first : begin path (length stack) ≡ 0

-- how many calls were not passed
abbrev pub left_count : Graph → Graph → List ℕ → ℕ
left_count (first ∷ whens) (second ∷ wheres) (n ∷ passed) = (length first + length second - n) + left_count whens wheres passed
left_count [] wheres passed = 0
left_count (first ∷ whens) [] passed = 0
left_count (first ∷ whens) (second ∷ wheres) [] = 0

-- what falls with each step of a walk
abbrev pub weight : Graph → Graph → Walk → ℕ
weight whens wheres walk = 2 * new_count walk.standings.items + length walk.path + left_count whens wheres walk.passed.items

-- a node that was looked at stays so
abbrev pub StaySeen : List Standing → List Standing → Type 0
StaySeen before after = (u : ℕ) → (standing_at before u ≡ New → ⊥) → standing_at after u ≡ New → ⊥

-- a walk goes on to another
pub record GoesOn (whens wheres : Graph) (before after : Walk) : Type 0 where
  pub walk : IsWalk whens wheres after.standings.items after.passed.items after.stack after.path
  pub seen : StaySeen before.standings.items after.standings.items
  pub falls : weight whens wheres after < weight whens wheres before

-- the path ends in this step
abbrev pub EndsIn : List Step → Step → Type 0
EndsIn path step = (before : List Step) × (path ≡ before ++ step ∷ [])

-- the step is known to reach this place too
abbrev pub lowered : Step → ℕ → Step
lowered step p = record { place = step.place; low = min step.low p }

-- a node is opened, and stands behind the path
pub record IsEntered (before : Walk) (v : ℕ) (after : Walk) : Type 0 where
  pub standings : after.standings.items ≡ set before.standings.items v (Open (length before.stack))
  pub passed : after.passed.items ≡ before.passed.items
  pub stack : after.stack ≡ before.stack ++ v ∷ []
  pub path : after.path ≡ before.path ++ record { place = length before.stack; low = length before.stack } ∷ []

-- this many calls of a node are passed
pub record IsPassed (before : Walk) (u n : ℕ) (after : Walk) : Type 0 where
  pub standings : after.standings.items ≡ before.standings.items
  pub passed : after.passed.items ≡ set before.passed.items u n
  pub stack : after.stack ≡ before.stack

-- the last step of a path is known to reach this place too
abbrev pub IsLowered : List Step → ℕ → List Step → Type 0
IsLowered before p after = (front : List Step) (step : Step) → before ≡ front ++ step ∷ [] → after ≡ front ++ lowered step p ∷ []

-- the call of a node in this place is followed, or passed if what it leads to was looked at
pub record IsFollowed (before : Walk) (u k v : ℕ) (after : Walk) : Type 0 where
  pub new : standing_at before.standings.items v ≡ New → IsEntered before v after
  pub opened : (p : ℕ) → standing_at before.standings.items v ≡ Open p → IsPassed before u (k + 1) after × IsLowered before.path p after.path
  pub done : (stratum : ℕ) → standing_at before.standings.items v ≡ Done stratum → IsPassed before u (k + 1) after × (after.path ≡ before.path)

-- a walk has come to its end
pub record IsWalkOn (whens wheres : Graph) (before after : Walk) : Type 0 where
  pub walk : IsWalk whens wheres after.standings.items after.passed.items after.stack []
  pub path : after.path ≡ []
  pub seen : StaySeen before.standings.items after.standings.items

-- and has looked at a node
pub record IsVisited (whens wheres : Graph) (before : Walk) (root : ℕ) (after : Walk) : Type 0 where
  pub on : IsWalkOn whens wheres before after
  pub looked : standing_at after.standings.items root ≡ New → ⊥

-- nothing was looked at
pub record IsNew (count : ℕ) (walk : Walk) : Type 0 where
  pub standings : walk.standings.items ≡ replicate count New
  pub passed : walk.passed.items ≡ replicate count 0
  pub stack : walk.stack ≡ []
  pub path : walk.path ≡ []

abbrev pub stratum_of : Standing → ℕ
stratum_of (Done stratum) = stratum
stratum_of New = 0
stratum_of (Open place) = 0
