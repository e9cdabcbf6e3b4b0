-- How many halves are free, and how many lists there are, after halves have moved.
use Rattle.std.proofs.Common.{◌≡◌, ◌≢◌, ℕ, zero, suc, ◌<◌, ◌≤◌, ◌+◌, List, [], ◌∷◌, ◌++◌, length, get_or, set, refl, sym, ◌∙◌, ap, subst, arith}
use Rattle.std.proofs.lemmas.List.{get_or-set_other, length_push}
use Rattle.link_arena.specs.Links.{others_of}
use Rattle.link_arena.specs.Lists.{JoinTables, lists, owners, owner_at, moved_to, free_count, IsSameSize, IsFiled}
use Rattle.link_arena.specs.Twins.{twin, IsArena}
use Rattle.link_arena.proofs.Members.{IsDistinct, thread_apart}
use Rattle.link_arena.proofs.Threaded.{length-without_one}
use Rattle.link_arena.proofs.Twins.{twin-twin, twin-other}

pub same_self : (joins : JoinTables) → IsSameSize joins joins
same_self joins = record { lists = refl; capacity = refl }

pub same_twice : (a b c : JoinTables) → IsSameSize a b → IsSameSize b c → IsSameSize a c
same_twice a b c one two = record { lists = two.lists ∙ one.lists; capacity = two.capacity ∙ one.capacity }

freed : (L : List (List ℕ)) (from at : ℕ) → from ≢ 0 → length (others_of L 0) ≤ length (others_of (moved_to L from 0 at) 0)
freed [] from at n = omega arith
freed (xs ∷ L) zero at n = absurd (n refl)
freed (xs ∷ L) (suc from) at n = let h : length xs ≤ length (xs ++ at ∷ []) = omega (arith, length_push xs at) in h

taken : (L : List (List ℕ)) (to at : ℕ) → to ≢ 0 → IsDistinct (others_of L 0) → length (others_of L 0) ≤ suc (length (others_of (moved_to L 0 to at) 0))
taken [] to at n apart = omega arith
taken (xs ∷ L) zero at n apart = absurd (n refl)
taken (xs ∷ L) (suc to) at n apart = length-without_one at xs apart

kept : (L : List (List ℕ)) (from to at : ℕ) → from ≢ 0 → to ≢ 0 → others_of (moved_to L from to at) 0 ≡ others_of L 0
kept [] from to at n m = refl
kept (xs ∷ L) zero to at n m = absurd (n refl)
kept (xs ∷ L) (suc from) zero at n m = absurd (m refl)
kept (xs ∷ L) (suc from) (suc to) at n m = refl

-- a half has become free
pub free_freed : (J K : JoinTables) (at : ℕ) → owner_at J.halves at ≢ 0
    → lists K.heads K.halves ≡ moved_to (lists J.heads J.halves) (owner_at J.halves at) 0 at → free_count J ≤ free_count K
free_freed J K at used moved =
    subst (λ (l : List (List ℕ)). free_count J ≤ length (get_or l 0 [])) (sym moved) (freed (lists J.heads J.halves) (owner_at J.halves at) at used)

-- a half is free no more
pub free_taken : (J K : JoinTables) (to at : ℕ) → IsFiled J.heads J.halves → 0 < length J.heads → to ≢ 0 → owner_at J.halves at ≡ 0
    → lists K.heads K.halves ≡ moved_to (lists J.heads J.halves) (owner_at J.halves at) to at → free_count J ≤ suc (free_count K)
free_taken J K to at filed some n free moved =
    let L : List (List ℕ) = lists J.heads J.halves in
    let apart : IsDistinct (others_of L 0) = thread_apart (filed.threaded.thread 0 some) in
    let is : lists K.heads K.halves ≡ moved_to L 0 to at = moved ∙ ap (λ (i : ℕ). moved_to L i to at) free in
    subst (λ (l : List (List ℕ)). free_count J ≤ suc (length (get_or l 0 []))) (sym is) (taken L to at n apart)

-- a half has moved from one end to another
pub free_kept : (J K : JoinTables) (to at : ℕ) → owner_at J.halves at ≢ 0 → to ≢ 0
    → lists K.heads K.halves ≡ moved_to (lists J.heads J.halves) (owner_at J.halves at) to at → free_count K ≡ free_count J
free_kept J K to at used n moved =
    ap (λ (l : List (List ℕ)). length (get_or l 0 [])) moved ∙ ap length (kept (lists J.heads J.halves) (owner_at J.halves at) to at used n)

twin_owner : (J K : JoinTables) (at t to : ℕ) → t ≡ twin at → owners K.halves ≡ set (owners J.halves) at to → owner_at K.halves t ≡ owner_at J.halves (twin at)
twin_owner J K at t to is o =
    let apart : t ≢ at = λ e. twin-other at (sym is ∙ e) in
    ap (λ (l : List ℕ). get_or l t 0) o ∙ (get_or-set_other (owners J.halves) at t to 0 apart ∙ ap (λ (i : ℕ). owner_at J.halves i) is)

-- both halves of a row are free no more
pub free_joined : (J K M : JoinTables) (at t A B : ℕ) → t ≡ twin at → IsArena J.heads J.halves → IsFiled K.heads K.halves → owner_at J.halves at ≡ 0
    → A ≢ 0 → B ≢ 0 → 0 < length J.heads → length K.heads ≡ length J.heads
    → lists K.heads K.halves ≡ moved_to (lists J.heads J.halves) (owner_at J.halves at) A at → owners K.halves ≡ set (owners J.halves) at A
    → lists M.heads M.halves ≡ moved_to (lists K.heads K.halves) (owner_at K.halves t) B t → free_count J ≤ free_count M + 2
free_joined J K M at t A B is ok filed free a_some b_some some count one own two =
    let first : free_count J ≤ suc (free_count K) = free_taken J K A at ok.filed some a_some free one in
    let twin_free : owner_at K.halves t ≡ 0 = twin_owner J K at t A is own ∙ ok.twinned.free at free in
    let still : 0 < length K.heads = subst (λ (n : ℕ). 0 < n) (sym count) some in
    let second : free_count K ≤ suc (free_count M) = free_taken K M B t filed still b_some twin_free two in
    omega arith

-- both halves of a row have become free
pub free_parted : (J K M : JoinTables) (at t : ℕ) → t ≡ twin at → IsArena J.heads J.halves → owner_at J.halves at ≢ 0
    → lists K.heads K.halves ≡ moved_to (lists J.heads J.halves) (owner_at J.halves at) 0 at → owners K.halves ≡ set (owners J.halves) at 0
    → lists M.heads M.halves ≡ moved_to (lists K.heads K.halves) (owner_at K.halves t) 0 t → free_count J ≤ free_count M
free_parted J K M at t is ok used one own two =
    let first : free_count J ≤ free_count K = free_freed J K at used one in
    let twin_used : owner_at K.halves t ≢ 0 = λ z.
    used (ap (λ (i : ℕ). owner_at J.halves i) (sym (twin-twin at)) ∙ ok.twinned.free (twin at) (sym (twin_owner J K at t 0 is own) ∙ z)) in
    let second : free_count K ≤ free_count M = free_freed K M t twin_used two in
    omega arith
