-- The room of an arena, after its tables have grown.
use Rattle.std.proofs.Common.{◌≡◌, ℕ, ◌<◌, ◌≤◌, ◌+◌, ◌-◌, ◌*◌, ◌^◌, List, [], ◌∷◌, ◌++◌, length, replicate, max, sym, ◌∙◌, ap, subst, arith, inl, inr}
use Rattle.std.proofs.lemmas.Bool.{cases_lt}
use Rattle.std.proofs.lemmas.List.{length-append, length-replicate}
use Rattle.link_arena.specs.declared.half.Half.{Half}
use Rattle.link_arena.specs.declared.half.Head.{Head}
use Rattle.link_arena.specs.Lists.{JoinTables, list_at, free_count, IsSameSize}
use Rattle.link_arena.specs.Twins.{links, IsArena, IsRoomy, HasEndRoom, no_head, with_free_head}
use Rattle.link_arena.proofs.Begun.{IsBegun, begun}
use Rattle.link_arena.proofs.Heads.{IsWider, wider, free_wider}

-- nothing but the links has changed
pub roomy_same : (J K : JoinTables) (m c e j n : ℕ) → IsRoomy J m c e j → IsArena K.heads K.halves → IsSameSize J K → 2 * n ≤ free_count K → IsRoomy K m c e n
roomy_same J K m c e j n ok arena same free = record {
  arena = arena;
  marked = omega (arith, ok.marked, same.lists);
  ends = λ some. let r : HasEndRoom J m c e = ok.ends some in record {
    begun = omega (arith, r.begun, same.lists);
    heads = omega (arith, r.heads, same.lists, same.capacity);
    marks = r.marks;
  };
  joins = free;
}

-- the same room by other names
pub roomy_as : (J : JoinTables) (m m' c c' e e' j j' : ℕ) → IsRoomy J m c e j → m' ≡ m → c' ≡ c → e' ≡ e → j' ≡ j → IsRoomy J m' c' e' j'
roomy_as J m m' c c' e e' j j' ok one two three four =
    subst (λ (n : ℕ). IsRoomy J n c' e' j') (sym one)
    (subst (λ (n : ℕ). IsRoomy J m n e' j') (sym two) (subst (λ (n : ℕ). IsRoomy J m c n j') (sym three) (subst (IsRoomy J m c e) (sym four) ok)))

arena_as : (J K : JoinTables) → K.heads ≡ J.heads → K.halves ≡ J.halves → IsArena J.heads J.halves → IsArena K.heads K.halves
arena_as J K one two ok = subst (λ (l : List Head). IsArena l K.halves) (sym one) (subst (IsArena J.heads) (sym two) ok)

free_as : (J K : JoinTables) → K.heads ≡ J.heads → K.halves ≡ J.halves → free_count K ≡ free_count J
free_as J K one two = ap (λ (l : List Head). length (list_at l K.halves 0)) one ∙ ap (λ (l : List Half). length (list_at J.heads l 0)) two

-- there is more memory
pub roomy_wider : (J K : JoinTables) (m c c' e j : ℕ) → IsRoomy J m c e j → K.heads ≡ J.heads → K.halves ≡ J.halves → J.capacity ≤ K.capacity → c ≤ c'
    → IsRoomy K m c' e j
roomy_wider J K m c c' e j ok one two more marks = record {
  arena = arena_as J K one two ok.arena;
  marked = omega (arith, ok.marked, ap length one);
  ends = λ some. let r : HasEndRoom J m c e = ok.ends some in record {
    begun = omega (arith, r.begun, ap length one);
    heads = omega (arith, r.heads, ap length one);
    marks = omega (arith, r.marks);
  };
  joins = omega (arith, ok.joins, free_as J K one two);
}

-- the list of the free halves couldn't be made
pub roomy_unready : (J K : JoinTables) (m c m' c' e j : ℕ) → IsRoomy J m c e j → K.heads ≡ J.heads → K.halves ≡ J.halves → length K.heads ≤ m'
    → (0 < length J.heads → K ≡ J) → (0 < length J.heads → m' ≡ m) → (0 < length J.heads → c' ≡ c) → IsRoomy K m' c' e j
roomy_unready J K m c m' c' e j ok one two marked same same_m same_c = record {
  arena = arena_as J K one two ok.arena;
  marked = marked;
  ends = λ some. let r : HasEndRoom J m c e = ok.ends some in record {
    begun = omega (arith, r.begun, ap length one);
    heads = omega (arith, r.heads, ap length one, ap (λ (k : JoinTables). k.capacity) (same r.begun));
    marks = omega (arith, r.marks, same_m r.begun, same_c r.begun);
  };
  joins = omega (arith, ok.joins, free_as J K one two);
}

pub record IsReady (J K : JoinTables) (m c e j : ℕ) : Type 0 where
  pub roomy : IsRoomy K m c e j
  pub some : 0 < length K.heads
  pub count : length K.heads ≡ length (links J.heads J.halves) + 1
  pub view : links K.heads K.halves ≡ links J.heads J.halves

free_begun : (heads : List Head) (halves : List Half) → length (list_at heads halves 0) ≤ length (list_at (with_free_head heads) halves 0)
free_begun [] halves = omega arith
free_begun (h ∷ heads) halves = omega arith

-- there is the list of the free halves
pub roomy_ready : (J K : JoinTables) (m c m' c' e j : ℕ) → IsRoomy J m c e j → K.heads ≡ with_free_head J.heads → K.halves ≡ J.halves → length K.heads ≤ m'
    → (0 < length J.heads → K ≡ J) → (0 < length J.heads → m' ≡ m) → (0 < length J.heads → c' ≡ c) → IsReady J K m' c' e j
roomy_ready J K m c m' c' e j ok one two marked same same_m same_c =
    let b : IsBegun J.heads J.halves = begun J.heads J.halves ok.arena in
    let free : free_count K ≡ length (list_at (with_free_head J.heads) J.halves 0) =
    ap (λ (l : List Head). length (list_at l K.halves 0)) one ∙ ap (λ (l : List Half). length (list_at (with_free_head J.heads) l 0)) two in
    record {
      roomy = record {
        arena = subst (λ (l : List Head). IsArena l K.halves) (sym one) (subst (IsArena (with_free_head J.heads)) (sym two) b.arena);
        marked = marked;
        ends = λ some. let r : HasEndRoom J m c e = ok.ends some in record {
          begun = omega (arith, ap length one, b.some);
          heads = omega (arith, r.heads, ap (λ (k : JoinTables). length k.heads) (same r.begun), ap (λ (k : JoinTables). k.capacity) (same r.begun));
          marks = omega (arith, r.marks, same_m r.begun, same_c r.begun);
        };
        joins = omega (arith, ok.joins, free, free_begun J.heads J.halves);
      };
      some = omega (arith, ap length one, b.some);
      count = ap length one ∙ b.count;
      view = ap (λ (l : List Head). links l K.halves) one ∙ (ap (links (with_free_head J.heads)) two ∙ b.view);
    }

pub record IsExtended (J K : JoinTables) (m c e j n : ℕ) : Type 0 where
  pub roomy : IsRoomy K m c e j
  pub view : links K.heads K.halves ≡ links J.heads J.halves ++ replicate n []

-- lists that have no half have been added
pub roomy_more : (J K : JoinTables) (m c m' e j n : ℕ) → IsRoomy J m c e j → 0 < length J.heads → length J.heads + n ≤ 2 ^ 32
    → K.heads ≡ J.heads ++ replicate n no_head → K.halves ≡ J.halves → K.capacity ≡ J.capacity → m' ≡ m + n
    → IsExtended J K m' c (e - n) j n
roomy_more J K m c m' e j n ok some few one two capacity marks =
    let w : IsWider J.heads J.halves (J.heads ++ replicate n no_head) n = wider J.heads J.halves n ok.arena some few in
    let free : free_count K ≡ length (list_at (J.heads ++ replicate n no_head) J.halves 0) =
    ap (λ (l : List Head). length (list_at l K.halves 0)) one ∙ ap (λ (l : List Half). length (list_at (J.heads ++ replicate n no_head) l 0)) two in
    let count : length K.heads ≡ length J.heads + n = ap length one ∙ (length-append J.heads (replicate n no_head) ∙ ap (λ (k : ℕ). length J.heads + k) (length-replicate n no_head)) in
    record {
      roomy = record {
        arena = subst (λ (l : List Head). IsArena l K.halves) (sym one) (subst (IsArena (J.heads ++ replicate n no_head)) (sym two) w.arena);
        marked = omega (arith, count, ok.marked);
        ends = λ left. let before : 0 < e = omega arith in let r : HasEndRoom J m c e = ok.ends before in record {
          begun = omega (arith, count, r.begun);
          heads = omega (arith, count, r.heads);
          marks = omega (arith, r.marks);
        };
        joins = omega (arith, ok.joins, free, ap length (free_wider J.heads J.halves n));
      };
      view = ap (λ (l : List Head). links l K.halves) one ∙ (ap (links (J.heads ++ replicate n no_head)) two ∙ w.view);
    }

-- room has been made
pub roomy_reserved : (J K : JoinTables) (m c e j ends joins : ℕ) → IsRoomy J m c e j → 0 < length J.heads → IsArena K.heads K.halves → IsSameSize J K
    → length J.heads + ends ≤ J.capacity → m + ends ≤ c → free_count J ≤ free_count K → 2 * joins ≤ free_count K → IsRoomy K m c (max e ends) (max j joins)
roomy_reserved J K m c e j ends joins ok some arena same heads marks free rows = record {
  arena = arena;
  marked = omega (arith, ok.marked, same.lists);
  ends = λ more. record {
    begun = omega (arith, same.lists);
    heads = elim (cases_lt e ends) [
      | inl less ↦ omega (arith, same.lists, same.capacity)
      | inr le ↦ elim (cases_lt 0 e) [
        | inl used ↦ omega (arith, (ok.ends used).heads, same.lists, same.capacity)
        | inr none ↦ omega (arith, same.lists, same.capacity)
      ]
    ];
    marks = elim (cases_lt e ends) [
      | inl less ↦ omega arith
      | inr le ↦ elim (cases_lt 0 e) [ inl used ↦ omega (arith, (ok.ends used).marks) | inr none ↦ omega arith ]
    ];
  };
  joins = omega (arith, ok.joins);
}
