-- The two halves of a row are twins: each names, as the list that it stands in, one end of a join. List 0 has the free halves, and the list of an end comes one later.
use Rattle.std.specs.Prelude.{◌≡◌, ◌≢◌, ℕ, ◌+◌, ◌-◌, ◌*◌, ◌%◌, ◌≤◌, ◌<◌, ◌^◌, ◌==◌, ◌++◌, ◌∷◌, [], cond, List, map, drop, length, slice_index, slice_set, Contains}
use Rattle.link_arena.specs.declared.half.Half.{Half}
use Rattle.link_arena.specs.declared.half.Head.{Head}
use Rattle.link_arena.specs.Links.{others_of, without}
use Rattle.link_arena.specs.Lists.{JoinTables, lists, list_at, owners, free_count, IsFiled}

-- the other half of a half's row
abbrev pub twin : ℕ → ℕ
twin s = cond (s % 2 == 0) (s + 1) (s - 1)

-- the end that a half leads to
abbrev pub other : List ℕ → ℕ → ℕ
other owners s = slice_index owners (twin s) - 1

-- at each end the ends that its halves lead to
abbrev pub shown : List ℕ → List (List ℕ) → List (List ℕ)
shown owners lists = drop 1 (map (map (other owners)) lists)

abbrev pub links : List Head → List Half → List (List ℕ)
links heads halves = shown (owners halves) (lists heads halves)

-- twins are both free, or stand at two ends that no other twins join
pub record IsTwinned (owners : List ℕ) : Type 0 where
  pub even : length owners % 2 ≡ 0
  pub free : (s : ℕ) → slice_index owners s ≡ 0 → slice_index owners (twin s) ≡ 0
  pub apart : (s : ℕ) → slice_index owners s ≢ 0 → slice_index owners (twin s) ≢ slice_index owners s
  pub single : (s u : ℕ) → slice_index owners s ≢ 0 → slice_index owners s ≡ slice_index owners u
      → slice_index owners (twin s) ≡ slice_index owners (twin u) → s ≡ u

pub record IsArena (heads : List Head) (halves : List Half) : Type 0 where
  pub filed : IsFiled heads halves
  pub twinned : IsTwinned (owners halves)
  pub few : length heads ≤ 2 ^ 32

-- two twins have come to stand in other lists
pub record IsRewritten (old new : List ℕ) (s a b : ℕ) : Type 0 where
  pub at_first : slice_index new s ≡ a
  pub at_second : slice_index new (twin s) ≡ b
  pub rest : (u : ℕ) → u ≢ s → u ≢ twin s → slice_index new u ≡ slice_index old u
  pub len : length new ≡ length old

-- a row whose halves are both free
abbrev pub free_row : List Half
free_row = record { owner = 0; next = 0; previous = 0 } ∷ record { owner = 0; next = 0; previous = 0 } ∷ []

-- a row stands behind the halves of an arena, in no list yet
pub record IsGrown (heads : List Head) (halves grown : List Half) (at : ℕ) : Type 0 where
  pub arena : IsArena heads halves
  pub within : 0 < length heads
  pub is : grown ≡ halves ++ free_row
  pub len : length halves ≡ at

-- halves that lead to ends
pub record IsListed (halves : List Half) (xs : List ℕ) : Type 0 where
  pub within : (s : ℕ) → Contains xs s → s < length halves
  pub twin_within : (s : ℕ) → Contains xs s → twin s < length halves
  pub some : (s : ℕ) → Contains xs s → 0 < slice_index (owners halves) (twin s)
  pub few : (s : ℕ) → Contains xs s → slice_index (owners halves) (twin s) ≤ 2 ^ 32

-- the list that each half leads to is marked with the half
abbrev pub IsMarkedFor : List Half → List ℕ → List ℕ → Type 0
IsMarkedFor halves marks xs = (s : ℕ) → Contains xs s → slice_index marks (slice_index (owners halves) (twin s)) ≡ s

-- one of the ends that an end is joined to has come last
pub record IsRequeued (heads : List Head) (halves : List Half) (heads' : List Head) (halves' : List Half) (marks : List ℕ) (a A x : ℕ) : Type 0 where
  pub arena : IsArena heads' halves'
  pub count : length heads' ≡ length heads
  pub marked : IsMarkedFor halves' marks (list_at heads' halves' A)
  pub view : links heads' halves' ≡ slice_set (links heads halves) a (without x (others_of (links heads halves) a) ++ x ∷ [])

-- the head of a list that has no half
abbrev pub no_head : Head
no_head = record { first = 0; last = 0; len = 0 }

-- a table of heads has one, that of the list of the free halves
abbrev pub with_free_head : List Head → List Head
with_free_head [] = no_head ∷ []
with_free_head (head ∷ heads) = head ∷ heads

-- memory for more ends: there are lists already, and so many heads and marks have their place
pub record HasEndRoom (tables : JoinTables) (count capacity spare : ℕ) : Type 0 where
  pub begun : 0 < length tables.heads
  pub heads : length tables.heads + spare ≤ tables.capacity
  pub marks : count + spare ≤ capacity

-- an arena has a mark for each list, and the room that it shows
pub record IsRoomy (tables : JoinTables) (count capacity spare_ends spare_joins : ℕ) : Type 0 where
  pub arena : IsArena tables.heads tables.halves
  pub marked : length tables.heads ≤ count
  pub ends : 0 < spare_ends → HasEndRoom tables count capacity spare_ends
  pub joins : 2 * spare_joins ≤ free_count tables
