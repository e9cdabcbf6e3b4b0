-- An arena whose table of heads has one.
use Rattle.std.proofs.Common.{◌≡◌, ◌<◌, ◌+◌, ℕ, List, [], ◌∷◌, length, refl, arith, zero, suc}
use Rattle.link_arena.specs.declared.half.Half.{Half}
use Rattle.link_arena.specs.declared.half.Head.{Head}
use Rattle.link_arena.specs.Threads.{IsThread}
use Rattle.link_arena.specs.Lists.{nexts, previouses, list_at, head_at}
use Rattle.link_arena.specs.Twins.{links, IsArena, no_head, with_free_head}
use Rattle.link_arena.proofs.Heads.{nothing}
use Rattle.link_arena.proofs.Found.{length_links}
use Rattle.link_arena.proofs.Members.{IsIn, in_from, filed_in}

pub record IsBegun (heads : List Head) (halves : List Half) : Type 0 where
  pub arena : IsArena (with_free_head heads) halves
  pub view : links (with_free_head heads) halves ≡ links heads halves
  pub some : 0 < length (with_free_head heads)
  pub count : length (with_free_head heads) ≡ length (links heads halves) + 1

pub begun : (heads : List Head) (halves : List Half) → IsArena heads halves → IsBegun heads halves
begun [] halves ok = record {
  arena = record {
    filed = record {
      threaded = record {
        thread = λ id h. none_thread id h;
        owned = λ id s h. absurd (none_in id s (in_from (list_at (no_head ∷ []) halves id) s h));
      };
      all = λ s h. absurd (filed_in ok.filed s h);
    };
    twinned = ok.twinned;
    few = omega arith;
  };
  view = refl;
  some = omega arith;
  count = refl;
}
  where
    none_in : (id s : ℕ) → ¬ IsIn s (list_at (no_head ∷ []) halves id)
    none_in zero s h = h
    none_in (suc id) s h = h

    none_thread : (id : ℕ) → id < 1 → IsThread (nexts halves) (previouses halves) (head_at (no_head ∷ []) id).first (head_at (no_head ∷ []) id).last (list_at (no_head ∷ []) halves id)
    none_thread zero h = nothing (nexts halves) (previouses halves) 0 0
    none_thread (suc id) h = absurd (omega arith)
begun (h ∷ heads) halves ok = record {
  arena = ok;
  view = refl;
  some = omega arith;
  count = omega (arith, length_links (h ∷ heads) halves);
}
