-- A free row joins the free halves of an arena.
use Rattle.std.proofs.Common.{◌≡◌, ◌≢◌, ℕ, ◌<◌, ◌≤◌, ◌+◌, ◌-◌, ◌%◌, ◌^◌, List, [], ◌∷◌, ◌++◌, length, get_or, set, map, refl, sym, ◌∙◌, ap, subst, arith, inl, inr, zero, suc}
use Rattle.std.proofs.lemmas.Bool.{cases_eq, cases_lt}
use Rattle.std.proofs.lemmas.List.{get_or-set_same, get_or-set_other, length-set, length-map, length-append, map-append, get_or_past, ext_get_or}
use Rattle.link_arena.specs.declared.half.Half.{Half}
use Rattle.link_arena.specs.declared.half.Head.{Head}
use Rattle.link_arena.specs.Links.{with_last, others_of}
use Rattle.link_arena.specs.Lists.{owners, list_of, lists, list_at, IsThreaded, IsAfter}
use Rattle.link_arena.specs.Twins.{twin, other, shown, links, IsTwinned, IsArena, IsGrown, free_row}
use Rattle.link_arena.proofs.Leads.{IsIn-right, IsIn-either}
use Rattle.link_arena.proofs.Shown.{map-same, at_shown, length-shown}
use Rattle.link_arena.proofs.Filed.{IsIn-with_last}
use Rattle.link_arena.proofs.Arenas.{owners_count}
use Rattle.link_arena.proofs.Growth.{lists-more, threaded-more, out-more}
use Rattle.link_arena.proofs.Members.{IsIn, contains_in, filed_in}

pub set_zero : (xs : List ℕ) (i u : ℕ) → get_or xs i 0 ≡ 0 → get_or (set xs i 0) u 0 ≡ get_or xs u 0
set_zero [] i u is = refl
set_zero (x ∷ xs) zero zero is = sym is
set_zero (x ∷ xs) zero (suc u) is = refl
set_zero (x ∷ xs) (suc i) zero is = refl
set_zero (x ∷ xs) (suc i) (suc u) is = set_zero xs i u is

pub zeros : (xs : List ℕ) (u : ℕ) → get_or (xs ++ 0 ∷ 0 ∷ []) u 0 ≡ get_or xs u 0
zeros [] zero = refl
zeros [] (suc zero) = refl
zeros [] (suc (suc u)) = refl
zeros (x ∷ xs) zero = refl
zeros (x ∷ xs) (suc u) = zeros xs u

pub twinned-same : (O N : List ℕ) → length N % 2 ≡ 0 → ((u : ℕ) → get_or N u 0 ≡ get_or O u 0) → IsTwinned O → IsTwinned N
twinned-same O N even same ok = record {
  even = even;
  free = λ s z. same (twin s) ∙ ok.free s (sym (same s) ∙ z);
  apart = λ s some e. ok.apart s (λ z. some (same s ∙ z)) (sym (same (twin s)) ∙ (e ∙ same s));
  single = λ s u some e f. ok.single s u (λ z. some (same s ∙ z)) (sym (same s) ∙ (e ∙ same u)) (sym (same (twin s)) ∙ (f ∙ same (twin u)));
}

pub record IsGrowth (heads : List Head) (halves : List Half) (heads' : List Head) (halves' : List Half) : Type 0 where
  pub arena : IsArena heads' halves'
  pub count : length heads' ≡ length heads
  pub view : links heads' halves' ≡ links heads halves
  pub room : length (list_at heads' halves' 0) ≡ length (list_at heads halves 0) + 2

pub grown_arena : (heads : List Head) (halves grown : List Half) (at at1 : ℕ) (heads1 : List Head) (halves1 : List Half) (heads2 : List Head) (halves2 : List Half)
    → IsGrown heads halves grown at → at1 ≡ at + 1
    → IsAfter heads grown heads1 halves1 0 (list_at heads grown 0 ++ at ∷ []) → owners halves1 ≡ set (owners grown) at 0
    → IsAfter heads1 halves1 heads2 halves2 0 (list_at heads1 halves1 0 ++ at1 ∷ []) → owners halves2 ≡ set (owners halves1) at1 0
    → IsGrowth heads halves heads2 halves2
grown_arena heads halves grown at at1 heads1 halves1 heads2 halves2 g next a1 o1 a2 o2 =
    let O : List ℕ = owners halves in
    let L : List (List ℕ) = lists heads halves in
    let own_grown : owners grown ≡ O ++ 0 ∷ 0 ∷ [] = ap owners g.is ∙ map-append (λ (s : Half). s.owner) halves free_row in
    let same_grown : lists heads grown ≡ L = ap (lists heads) g.is ∙ lists-more heads halves free_row g.arena.filed.threaded in
    let eq1 : lists heads1 halves1 ≡ with_last L 0 at = a1.lists_are ∙ ap (λ (l : List (List ℕ)). with_last l 0 at) same_grown in
    let eq2 : lists heads2 halves2 ≡ with_last (with_last L 0 at) 0 at1 = a2.lists_are ∙ ap (λ (l : List (List ℕ)). with_last l 0 at1) eq1 in
    let L1 : List (List ℕ) = with_last L 0 at in
    let L2 : List (List ℕ) = with_last L1 0 at1 in
    let past : (u : ℕ) → at ≤ u → get_or O u 0 ≡ 0 = λ u h. get_or_past O u 0 (let k : length O ≤ u = omega (arith, owners_count halves, g.len) in k) in
    let step0 : (u : ℕ) → get_or (owners grown) u 0 ≡ get_or O u 0 = λ u. ap (λ (l : List ℕ). get_or l u 0) own_grown ∙ zeros O u in
    let step1 : (u : ℕ) → get_or (owners halves1) u 0 ≡ get_or O u 0 = λ u.
    ap (λ (l : List ℕ). get_or l u 0) o1 ∙ (set_zero (owners grown) at u (step0 at ∙ past at (let k : at ≤ at = omega arith in k)) ∙ step0 u) in
    let step2 : (u : ℕ) → get_or (owners halves2) u 0 ≡ get_or O u 0 = λ u.
    ap (λ (l : List ℕ). get_or l u 0) o2 ∙ (set_zero (owners halves1) at1 u (step1 at1 ∙ past at1 (let k : at ≤ at1 = omega arith in k)) ∙ step1 u) in
    let len_own : length (owners halves2) ≡ length O + 2 =
    ap length o2 ∙ (length-set (owners halves1) at1 0 ∙ (ap length o1 ∙ (length-set (owners grown) at 0 ∙ (ap length own_grown ∙ length-append O (0 ∷ 0 ∷ []))))) in
    let even : length (owners halves2) % 2 ≡ 0 = (let k : length O % 2 ≡ 0 = g.arena.twinned.even in omega arith) in
    let cL : length L ≡ length heads = length-map heads (list_of halves) in
    let in0 : 0 < length L = omega (arith, g.within) in
    let len1 : length L1 ≡ length L = length-set L 0 (others_of L 0 ++ at ∷ []) in
    let len2 : length L2 ≡ length L1 = length-set L1 0 (others_of L1 0 ++ at1 ∷ []) in
    let in1 : 0 < length L1 = omega arith in
    let zero1 : get_or L1 0 [] ≡ get_or L 0 [] ++ at ∷ [] = get_or-set_same L 0 (others_of L 0 ++ at ∷ []) [] in0 in
    let zero2 : get_or L2 0 [] ≡ get_or L1 0 [] ++ at1 ∷ [] = get_or-set_same L1 0 (others_of L1 0 ++ at1 ∷ []) [] in1 in
    let has1 : IsIn at1 (get_or L2 0 []) = subst (IsIn at1) (sym zero2) (IsIn-right at1 (get_or L1 0 []) (at1 ∷ []) (inl refl)) in
    let has0 : IsIn at (get_or L2 0 []) = IsIn-with_last L1 0 at1 0 at (subst (IsIn at) (sym zero1) (IsIn-right at (get_or L 0 []) (at ∷ []) (inl refl))) in
    let count : length heads2 ≡ length heads =
    sym (length-map heads2 (list_of halves2)) ∙ (ap length eq2 ∙ (len2 ∙ (len1 ∙ cL))) in
    let others_same : (xs : List ℕ) → map (other (owners halves2)) xs ≡ map (other O) xs = λ xs.
    map-same (other (owners halves2)) (other O) xs (λ u h. ap (λ (k : ℕ). k - 1) (step2 (twin u))) in
    let lens : length (shown (owners halves2) L2) ≡ length (shown O L) = length-shown (owners halves2) L2 ∙ (ap (λ (n : ℕ). n - 1) (len2 ∙ len1) ∙ sym (length-shown O L)) in
    let view : shown (owners halves2) L2 ≡ shown O L = ext_get_or [] (shown (owners halves2) L2) (shown O L) lens (λ e h.
    let n : suc e ≢ 0 = omega arith in
    at_shown (owners halves2) L2 e
    ∙ (others_same (get_or L2 (suc e) [])
    ∙ (ap (map (other O)) (get_or-set_other L1 0 (suc e) (others_of L1 0 ++ at1 ∷ []) [] n ∙ get_or-set_other L 0 (suc e) (others_of L 0 ++ at ∷ []) [] n)
    ∙ sym (at_shown O L e)))) in
    record {
      arena = record {
        filed = record {
          threaded = a2.threaded;
          all = λ s h. contains_in (list_at heads2 halves2 (get_or (owners halves2) s 0)) s (
              let bound : s < length halves + 2 = omega (arith, owners_count halves2, owners_count halves, len_own) in
              let owned : IsIn s (get_or L2 (get_or O s 0) []) = elim (cases_lt s (length halves)) [
                | inl old ↦ IsIn-with_last L1 0 at1 (get_or O s 0) s (IsIn-with_last L 0 at (get_or O s 0) s (filed_in g.arena.filed s old))
                | inr new ↦
                    let o : get_or O s 0 ≡ 0 = past s (let k : at ≤ s = omega (arith, g.len) in k) in
                    let here : IsIn s (get_or L2 0 []) = elim (cases_eq s at) [
                      | inl e ↦ subst (λ (i : ℕ). IsIn i (get_or L2 0 [])) (sym e) has0
                      | inr n ↦ (let e : s ≡ at1 = omega (arith, g.len) in subst (λ (i : ℕ). IsIn i (get_or L2 0 [])) (sym e) has1)
                    ] in
                    subst (λ (i : ℕ). IsIn s (get_or L2 i [])) (sym o) here
              ] in
              subst (λ (i : ℕ). IsIn s (list_at heads2 halves2 i)) (sym (step2 s)) (subst (λ (l : List (List ℕ)). IsIn s (get_or l (get_or O s 0) [])) (sym eq2) owned));
        };
        twinned = twinned-same O (owners halves2) even step2 g.arena.twinned;
        few = subst (λ (n : ℕ). n ≤ 2 ^ 32) (sym count) g.arena.few;
      };
      count = count;
      view = ap (shown (owners halves2)) eq2 ∙ view;
      room = omega (arith, ap length (ap (λ (l : List (List ℕ)). get_or l 0 []) eq2 ∙ zero2), length-append (get_or L1 0 []) (at1 ∷ []), ap length zero1, length-append (get_or L 0 []) (at ∷ []));
    }

pub grown_threaded : (heads : List Head) (halves grown : List Half) (at : ℕ) → IsGrown heads halves grown at → IsThreaded heads grown
grown_threaded heads halves grown at g = subst (IsThreaded heads) (sym g.is) (threaded-more heads halves free_row g.arena.filed.threaded)

pub grown_out : (heads : List Head) (halves grown : List Half) (at x : ℕ) → IsGrown heads halves grown at → at ≤ x → (j : ℕ) → ¬ IsIn x (list_at heads grown j)
grown_out heads halves grown at x g above j h =
    let above' : length halves ≤ x = omega (arith, g.len) in
    out-more heads halves free_row g.arena.filed.threaded x above' j (subst (λ (l : List Half). IsIn x (list_at heads l j)) g.is h)

pub grown_out_next : (heads : List Head) (halves grown : List Half) (at x : ℕ) (heads1 : List Head) (halves1 : List Half) → IsGrown heads halves grown at → at < x
    → IsAfter heads grown heads1 halves1 0 (list_at heads grown 0 ++ at ∷ []) → (j : ℕ) → ¬ IsIn x (list_at heads1 halves1 j)
grown_out_next heads halves grown at x heads1 halves1 g above a1 j h =
    let L : List (List ℕ) = lists heads grown in
    let le : at ≤ x = omega arith in
    let h1 : IsIn x (get_or (with_last L 0 at) j []) = subst (λ (l : List (List ℕ)). IsIn x (get_or l j [])) a1.lists_are h in
    let in0 : 0 < length L = omega (arith, g.within, length-map heads (list_of grown)) in
    elim (cases_eq j 0) [
      | inl e ↦
          let h2 : IsIn x (get_or (with_last L 0 at) 0 []) = subst (λ (i : ℕ). IsIn x (get_or (with_last L 0 at) i [])) e h1 in
          let h3 : IsIn x (get_or L 0 [] ++ at ∷ []) = subst (IsIn x) (get_or-set_same L 0 (others_of L 0 ++ at ∷ []) [] in0) h2 in
          elim (IsIn-either x (get_or L 0 []) (at ∷ []) h3) [
            | inl old ↦ grown_out heads halves grown at x g le 0 old
            | inr new ↦ elim new [ inl same ↦ (let k : x ≡ at = same in omega arith) | inr none ↦ none ]
          ]
      | inr n ↦ grown_out heads halves grown at x g le j (subst (IsIn x) (get_or-set_other L 0 j (others_of L 0 ++ at ∷ []) [] n) h1)
    ]
