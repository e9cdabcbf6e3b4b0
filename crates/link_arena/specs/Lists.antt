-- The lists that the halves of an arena stand in.
use Rattle.std.specs.Prelude.{◌≡◌, ℕ, ◌<◌, List, map, length, slice_index, slice_index_or, slice_set, [], Contains}
use Rattle.link_arena.specs.declared.half.Half.{Half}
use Rattle.link_arena.specs.declared.half.Head.{Head}
use Rattle.link_arena.specs.Links.{with_last, without_other}
use Rattle.link_arena.specs.Threads.{walk, IsThread}

-- the tables of an arena's joins: the heads of the lists, the halves that stand in them, and for how many heads there is memory
pub record JoinTables : Type 0 where
  pub heads : List Head
  pub halves : List Half
  pub capacity : ℕ

abbrev pub nexts : List Half → List ℕ
nexts halves = map (λ half. half.next) halves

abbrev pub previouses : List Half → List ℕ
previouses halves = map (λ half. half.previous) halves

abbrev pub owners : List Half → List ℕ
owners halves = map (λ half. half.owner) halves

abbrev pub list_of : List Half → Head → List ℕ
list_of halves head = walk (nexts halves) head.len head.first

abbrev pub lists : List Head → List Half → List (List ℕ)
lists heads halves = map (list_of halves) heads

abbrev pub head_at : List Head → ℕ → Head
head_at heads id = slice_index_or heads id (record { first = 0; last = 0; len = 0 })

abbrev pub list_at : List Head → List Half → ℕ → List ℕ
list_at heads halves id = slice_index_or (lists heads halves) id []

-- there are as many lists as before, and memory for as many
pub record IsSameSize (old new : JoinTables) : Type 0 where
  pub lists : length new.heads ≡ length old.heads
  pub capacity : new.capacity ≡ old.capacity

-- how many halves are free: they stand in list 0
abbrev pub free_count : JoinTables → ℕ
free_count joins = length (list_at joins.heads joins.halves 0)

-- each list is threaded through the halves, and its halves name it
pub record IsThreaded (heads : List Head) (halves : List Half) : Type 0 where
  pub thread : (id : ℕ) → id < length heads
      → IsThread (nexts halves) (previouses halves) (head_at heads id).first (head_at heads id).last (list_at heads halves id)
  pub owned : (id s : ℕ) → Contains (list_at heads halves id) s → slice_index (owners halves) s ≡ id

-- one list of an arena has changed
pub record IsAfter (heads : List Head) (halves : List Half) (heads' : List Head) (halves' : List Half) (id : ℕ) (xs : List ℕ) : Type 0 where
  pub threaded : IsThreaded heads' halves'
  pub lists_are : lists heads' halves' ≡ slice_set (lists heads halves) id xs

abbrev pub owner_at : List Half → ℕ → ℕ
owner_at halves s = slice_index (owners halves) s

-- each half stands in the list that it names, and in no other
pub record IsFiled (heads : List Head) (halves : List Half) : Type 0 where
  pub threaded : IsThreaded heads halves
  pub all : (s : ℕ) → s < length halves → Contains (list_at heads halves (owner_at halves s)) s

-- a half leaves its list, and stands last in one
abbrev pub moved_to : List (List ℕ) → ℕ → ℕ → ℕ → List (List ℕ)
moved_to halves from to at = with_last (without_other halves from at) to at
