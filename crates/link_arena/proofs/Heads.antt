-- An arena with more lists, all empty.
use Rattle.std.specs.Prelude.{Contains}
use Rattle.std.proofs.Common.{◌≡◌, ℕ, ◌<◌, ◌≤◌, ◌+◌, ◌^◌, List, [], ◌∷◌, ◌++◌, length, get_or, map, replicate, refl, sym, ◌∙◌, ap, subst, arith, inl, inr, zero, suc}
use Rattle.std.proofs.lemmas.Bool.{cases_lt}
use Rattle.std.proofs.lemmas.List.{length-map, length-append, length-replicate, map-append, get_or_past}
use Rattle.link_arena.specs.declared.half.Half.{Half}
use Rattle.link_arena.specs.declared.half.Head.{Head}
use Rattle.link_arena.specs.Threads.{IsThread}
use Rattle.link_arena.specs.Lists.{nexts, previouses, owners, list_of, lists, head_at, list_at, IsThreaded}
use Rattle.link_arena.specs.Twins.{other, shown, links, IsArena}
use Rattle.link_arena.proofs.Members.{in_from, pairs_from}

none_of : (halves : List Half) (n : ℕ) → lists (replicate n (record { first = 0; last = 0; len = 0 })) halves ≡ replicate n []
none_of halves zero = refl
none_of halves (suc n) = ap (λ (l : List (List ℕ)). [] ∷ l) (none_of halves n)

none_at : (n j : ℕ) → get_or (replicate n (let r : List ℕ = [] in r)) j [] ≡ []
none_at zero j = refl
none_at (suc n) zero = refl
none_at (suc n) (suc j) = none_at n j

grown_at : (L : List (List ℕ)) (n j : ℕ) → get_or (L ++ replicate n []) j [] ≡ get_or L j []
grown_at [] n j = none_at n j
grown_at (x ∷ L) n zero = refl
grown_at (x ∷ L) n (suc j) = grown_at L n j

pub lists-heads : (heads : List Head) (halves : List Half) (n : ℕ)
    → lists (heads ++ replicate n (record { first = 0; last = 0; len = 0 })) halves ≡ lists heads halves ++ replicate n []
lists-heads heads halves n =
    map-append (list_of halves) heads (replicate n (record { first = 0; last = 0; len = 0 }))
    ∙ ap (λ (l : List (List ℕ)). lists heads halves ++ l) (none_of halves n)

head_none : (n j : ℕ) → get_or (replicate n (let h : Head = record { first = 0; last = 0; len = 0 } in h)) j (record { first = 0; last = 0; len = 0 }) ≡ record { first = 0; last = 0; len = 0 }
head_none zero j = refl
head_none (suc n) zero = refl
head_none (suc n) (suc j) = head_none n j

head_grown : (heads : List Head) (n j : ℕ) → head_at (heads ++ replicate n (record { first = 0; last = 0; len = 0 })) j ≡ head_at heads j
head_grown [] n j = head_none n j
head_grown (h ∷ heads) n zero = refl
head_grown (h ∷ heads) n (suc j) = head_grown heads n j

pub nothing : (N P : List ℕ) (f l : ℕ) → IsThread N P f l []
nothing N P f l = record { ahead = tt; back = tt; apart = pairs_from [] tt; within = λ x h. absurd (in_from [] x h) }

pub heads_threaded : (heads : List Head) (halves : List Half) (n : ℕ) → IsThreaded heads halves
    → IsThreaded (heads ++ replicate n (record { first = 0; last = 0; len = 0 })) halves
heads_threaded heads halves n ok =
    let H : List Head = heads ++ replicate n (record { first = 0; last = 0; len = 0 }) in
    let at : (j : ℕ) → list_at H halves j ≡ list_at heads halves j = λ j.
    ap (λ (l : List (List ℕ)). get_or l j []) (lists-heads heads halves n) ∙ grown_at (lists heads halves) n j in
    record {
      thread = λ j h. elim (cases_lt j (length heads)) [
        | inl old ↦
            let P : Head → Type 0 = λ (k : Head). IsThread (nexts halves) (previouses halves) k.first k.last (list_at H halves j) in
            subst P (sym (head_grown heads n j)) (subst (IsThread (nexts halves) (previouses halves) (head_at heads j).first (head_at heads j).last) (sym (at j)) (ok.thread j old))
        | inr new ↦
            let past : length (lists heads halves) ≤ j = omega (arith, length-map heads (list_of halves)) in
            let none : list_at H halves j ≡ [] = at j ∙ get_or_past (lists heads halves) j [] past in
            subst (IsThread (nexts halves) (previouses halves) (head_at H j).first (head_at H j).last) (sym none) (nothing (nexts halves) (previouses halves) (head_at H j).first (head_at H j).last)
      ];
      owned = λ j s h. ok.owned j s (subst (λ (l : List ℕ). Contains l s) (at j) h);
    }

-- no half is free that wasn't
pub free_wider : (heads : List Head) (halves : List Half) (n : ℕ) → list_at (heads ++ replicate n (record { first = 0; last = 0; len = 0 })) halves 0 ≡ list_at heads halves 0
free_wider heads halves n = ap (λ (l : List (List ℕ)). get_or l 0 []) (lists-heads heads halves n) ∙ grown_at (lists heads halves) n 0

pub record IsWider (heads : List Head) (halves : List Half) (heads' : List Head) (n : ℕ) : Type 0 where
  pub arena : IsArena heads' halves
  pub view : links heads' halves ≡ links heads halves ++ replicate n []

pub wider : (heads : List Head) (halves : List Half) (n : ℕ) → IsArena heads halves → 0 < length heads → length heads + n ≤ 2 ^ 32
    → IsWider heads halves (heads ++ replicate n (record { first = 0; last = 0; len = 0 })) n
wider heads halves n ok some few =
    let h0 : Head = record { first = 0; last = 0; len = 0 } in
    let at : (j : ℕ) → list_at (heads ++ replicate n (record { first = 0; last = 0; len = 0 })) halves j ≡ list_at heads halves j = λ j.
    ap (λ (l : List (List ℕ)). get_or l j []) (lists-heads heads halves n) ∙ grown_at (lists heads halves) n j in
    record {
      arena = record {
        filed = record {
          threaded = heads_threaded heads halves n ok.filed.threaded;
          all = λ s h. subst (λ (l : List ℕ). Contains l s) (sym (at (get_or (owners halves) s 0))) (ok.filed.all s h);
        };
        twinned = ok.twinned;
        few = omega (arith, length-append heads (replicate n h0), length-replicate n h0);
      };
      view = ap (shown (owners halves)) (lists-heads heads halves n) ∙ widened (lists heads halves) (let k : 0 < length (lists heads halves) = omega (arith, length-map heads (list_of halves)) in k);
    }
  where
    maps : (f : List ℕ → List ℕ) (n : ℕ) → f [] ≡ [] → map f (replicate n []) ≡ replicate n []
    maps f zero is = refl
    maps f (suc n) is = ap (λ (x : List ℕ). x ∷ map f (replicate n [])) is ∙ ap (λ (l : List (List ℕ)). [] ∷ l) (maps f n is)

    widened : (L : List (List ℕ)) → 0 < length L → shown (owners halves) (L ++ replicate n []) ≡ shown (owners halves) L ++ replicate n []
    widened [] some = absurd (omega arith)
    widened (x ∷ L) some =
        map-append (map (other (owners halves))) L (replicate n [])
        ∙ ap (λ (l : List (List ℕ)). map (map (other (owners halves))) L ++ l) (maps (map (other (owners halves))) n refl)
