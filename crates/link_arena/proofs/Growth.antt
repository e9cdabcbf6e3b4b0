-- An arena with more halves, or more lists.
use Rattle.std.proofs.Common.{◌≡◌, ℕ, ◌<◌, ◌≤◌, List, [], ◌∷◌, ◌++◌, length, get_or, reverse, refl, sym, ◌∙◌, ap, subst, arith, inl, inr}
use Rattle.std.proofs.lemmas.List.{length-map, length-append, map-append, get_or_append_left, ext_get_or}
use Rattle.link_arena.specs.declared.half.Half.{Half}
use Rattle.link_arena.specs.declared.half.Head.{Head}
use Rattle.link_arena.specs.Threads.{LeadsThrough, IsThread}
use Rattle.link_arena.specs.Lists.{nexts, previouses, owners, list_of, lists, head_at, list_at, IsThreaded}
use Rattle.link_arena.proofs.Leads.{IsIn-reverse}
use Rattle.link_arena.proofs.Threaded.{list_at-is, length-list_at, thread-walk}
use Rattle.link_arena.proofs.Filed.{in_some_list}
use Rattle.link_arena.proofs.Arenas.{owners_count}
use Rattle.link_arena.proofs.Members.{IsIn, in_from, thread_within, owned_in}

pub leads-more : (N M : List ℕ) (at : ℕ) (xs : List ℕ) → ((x : ℕ) → IsIn x xs → x < length N) → LeadsThrough N at xs → LeadsThrough (N ++ M) at xs
leads-more N M at [] within leads = tt
leads-more N M at (x ∷ xs) within leads =
    let same : get_or (N ++ M) x 0 ≡ get_or N x 0 = get_or_append_left N M 0 x (within x (inl refl)) in
    (leads.0, rw same (leads-more N M (get_or N x 0) xs (λ y h. within y (inr h)) leads.1))

pub thread-more : (halves ws : List Half) (f l : ℕ) (xs : List ℕ) → IsThread (nexts halves) (previouses halves) f l xs
    → IsThread (nexts (halves ++ ws)) (previouses (halves ++ ws)) f l xs
thread-more halves ws f l xs t =
    let n : nexts (halves ++ ws) ≡ nexts halves ++ nexts ws = map-append (λ (s : Half). s.next) halves ws in
    let p : previouses (halves ++ ws) ≡ previouses halves ++ previouses ws = map-append (λ (s : Half). s.previous) halves ws in
    record {
      ahead = subst (λ (N : List ℕ). LeadsThrough N f xs) (sym n) (leads-more (nexts halves) (nexts ws) f xs (λ x h. (thread_within t x h).0) t.ahead);
      back = subst (λ (P : List ℕ). LeadsThrough P l (reverse xs)) (sym p) (leads-more (previouses halves) (previouses ws) l (reverse xs) (λ x h. (thread_within t x (IsIn-reverse x xs h)).1) t.back);
      apart = t.apart;
      within = λ x h.
          let a : x < length (nexts halves) = (t.within x h).0 in
          let b : x < length (previouses halves) = (t.within x h).1 in
          (omega (arith, ap length n, length-append (nexts halves) (nexts ws)), omega (arith, ap length p, length-append (previouses halves) (previouses ws)));
    }

pub lists-more : (heads : List Head) (halves ws : List Half) → IsThreaded heads halves → lists heads (halves ++ ws) ≡ lists heads halves
lists-more heads halves ws ok =
    let len : length (lists heads (halves ++ ws)) ≡ length (lists heads halves) = length-map heads (list_of (halves ++ ws)) ∙ sym (length-map heads (list_of halves)) in
    ext_get_or [] (lists heads (halves ++ ws)) (lists heads halves) len (λ j h.
    let within : j < length heads = subst (λ (n : ℕ). j < n) (length-map heads (list_of (halves ++ ws))) h in
    list_at-is heads (halves ++ ws) j within
    ∙ thread-walk (halves ++ ws) (head_at heads j) (list_at heads halves j)
    (thread-more halves ws (head_at heads j).first (head_at heads j).last (list_at heads halves j) (ok.thread j within))
    (sym (length-list_at heads halves j within)))

pub owners_below : (heads : List Head) (halves : List Half) → IsThreaded heads halves → (j s : ℕ) → IsIn s (list_at heads halves j) → j < length heads → s < length halves
owners_below heads halves ok j s h within = subst (λ (n : ℕ). s < n) (length-map halves (λ (x : Half). x.next)) (thread_within (ok.thread j within) s h).0

pub threaded-more : (heads : List Head) (halves ws : List Half) → IsThreaded heads halves → IsThreaded heads (halves ++ ws)
threaded-more heads halves ws ok =
    let same : lists heads (halves ++ ws) ≡ lists heads halves = lists-more heads halves ws ok in
    let own : owners (halves ++ ws) ≡ owners halves ++ owners ws = map-append (λ (s : Half). s.owner) halves ws in
    record {
      thread = λ j h.
          subst (λ (L : List (List ℕ)). IsThread (nexts (halves ++ ws)) (previouses (halves ++ ws)) (head_at heads j).first (head_at heads j).last (get_or L j [])) (sym same)
          (thread-more halves ws (head_at heads j).first (head_at heads j).last (list_at heads halves j) (ok.thread j h));
      owned = λ j s h.
          let h' : IsIn s (list_at heads halves j) = subst (λ (L : List (List ℕ)). IsIn s (get_or L j [])) same (in_from (list_at heads (halves ++ ws) j) s h) in
          let jn : j < length heads = subst (λ (n : ℕ). j < n) (length-map heads (list_of halves)) (in_some_list (lists heads halves) j s h') in
          let below : s < length (owners halves) = subst (λ (n : ℕ). s < n) (sym (owners_count halves)) (owners_below heads halves ok j s h' jn) in
          ap (λ (O : List ℕ). get_or O s 0) own ∙ (get_or_append_left (owners halves) (owners ws) 0 s below ∙ owned_in ok j s h');
    }

pub out-more : (heads : List Head) (halves ws : List Half) → IsThreaded heads halves → (at : ℕ) → length halves ≤ at → (j : ℕ) → ¬ IsIn at (list_at heads (halves ++ ws) j)
out-more heads halves ws ok at above j h =
    let same : lists heads (halves ++ ws) ≡ lists heads halves = lists-more heads halves ws ok in
    let h' : IsIn at (list_at heads halves j) = subst (λ (L : List (List ℕ)). IsIn at (get_or L j [])) same h in
    let jn : j < length heads = subst (λ (n : ℕ). j < n) (length-map heads (list_of halves)) (in_some_list (lists heads halves) j at h') in
    let below : at < length halves = owners_below heads halves ok j at h' jn in
    omega arith
