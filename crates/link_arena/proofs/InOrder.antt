-- The ends that an end is joined to, put in another order.
use Rattle.std.proofs.Common.{◌≡◌, ◌≢◌, ℕ, ◌<◌, ◌≤◌, ◌+◌, List, [], ◌∷◌, ◌++◌, length, get_or, set, take, map, sym, ◌∙◌, ap, subst, arith, suc}
use Rattle.std.proofs.lemmas.List.{get_or-set_same, set-set, set-get_or, take_more, take_all, length-map}
use Rattle.std.proofs.lemmas.List.Sorted.{IsPermutation-sym, length_permutation, Contains-permutation}
use Rattle.std.proofs.lemmas.List.Elements.{Contains-get_or}
use Rattle.std.specs.Prelude.{Contains, IsPermutation}
use Rattle.link_arena.specs.declared.half.Half.{Half}
use Rattle.link_arena.specs.declared.half.Head.{Head}
use Rattle.link_arena.specs.Links.{others_of, without, IsSimple}
use Rattle.link_arena.specs.Lists.{nexts, lists, list_at, list_of, head_at, owner_at, owners}
use Rattle.link_arena.specs.Twins.{twin, other, links, IsArena, IsListed}
use Rattle.link_arena.proofs.Orders.{AllPairs-permutation}
use Rattle.link_arena.proofs.Requeue.{requeued, requeued-push, requeued-whole, requeued-none, IsIn-requeued}
use Rattle.link_arena.proofs.Simple.{simple, used_twin}
use Rattle.link_arena.proofs.Threaded.{list_at-is, length-walk}
use Rattle.link_arena.proofs.Shown.{at_shown}
use Rattle.link_arena.proofs.Filed.{in_some_list}
use Rattle.link_arena.proofs.Found.{length_links, list_bounds, in_list_at}
use Rattle.link_arena.proofs.Members.{IsIn, IsDistinct, in_from, contains_in, distinct_from, owned_in, filed_in}

-- one more number of the order can move
pub there_in_order : (V now : List (List ℕ)) (a i : ℕ) (order : List ℕ) → a < length V → IsPermutation order (others_of V a) → i < length order
    → now ≡ set V a (requeued (others_of V a) (take i order)) → Contains (others_of now a) (get_or order i 0)
there_in_order V now a i order within same more is =
    let x : ℕ = get_or order i 0 in
    let old : Contains (others_of V a) x = Contains-permutation order (others_of V a) x same (Contains-get_or order i 0 more) in
    let new : IsIn x (requeued (others_of V a) (take i order)) = IsIn-requeued x (others_of V a) (take i order) (in_from (others_of V a) x old) in
    let at : others_of now a ≡ requeued (others_of V a) (take i order) =
    ap (λ (l : List (List ℕ)). others_of l a) is ∙ get_or-set_same V a (requeued (others_of V a) (take i order)) [] within in
    subst (λ (l : List ℕ). Contains l x) (sym at) (contains_in (requeued (others_of V a) (take i order)) x new)

-- one more number of the order has moved
pub step_in_order : (V now next : List (List ℕ)) (a i x : ℕ) (order : List ℕ) → a < length V → i < length order → x ≡ get_or order i 0
    → now ≡ set V a (requeued (others_of V a) (take i order))
    → next ≡ set now a (without x (others_of now a) ++ x ∷ [])
    → next ≡ set V a (requeued (others_of V a) (take (i + 1) order))
step_in_order V now next a i x order within more x_is is step =
    let xs : List ℕ = others_of V a in
    let done : List ℕ = requeued xs (take i order) in
    let at : others_of now a ≡ done = ap (λ (l : List (List ℕ)). others_of l a) is ∙ get_or-set_same V a done [] within in
    let push : requeued xs (take (i + 1) order) ≡ without x done ++ x ∷ [] =
    ap (requeued xs) (take_more order i 0 more ∙ ap (λ (k : ℕ). take i order ++ k ∷ []) (sym x_is)) ∙ requeued-push xs (take i order) x in
    step ∙ (ap (λ (l : List ℕ). set now a (without x l ++ x ∷ [])) at
    ∙ (ap (λ (l : List (List ℕ)). set l a (without x done ++ x ∷ [])) is
    ∙ (set-set V a done (without x done ++ x ∷ []) ∙ ap (set V a) (sym push))))

pub none_in_order : (V : List (List ℕ)) (a : ℕ) (order : List ℕ) → V ≡ set V a (requeued (others_of V a) (take 0 order))
none_in_order V a order = sym (ap (set V a) (requeued-none (others_of V a)) ∙ set-get_or V a [])

-- all numbers of the order have moved
pub all_in_order : (V now : List (List ℕ)) (a i : ℕ) (order : List ℕ) → IsSimple V → IsPermutation order (others_of V a) → length order ≤ i
    → now ≡ set V a (requeued (others_of V a) (take i order)) → now ≡ set V a order
all_in_order V now a i order ok same all is =
    let xs : List ℕ = others_of V a in
    let apart : IsDistinct xs = distinct_from xs (ok.single a) in
    let differ : IsDistinct order = distinct_from order (AllPairs-permutation xs order (IsPermutation-sym order xs same) (ok.single a)) in
    let sub : (x : ℕ) → IsIn x order → IsIn x xs = λ x h. in_from xs x (Contains-permutation order xs x same (contains_in order x h)) in
    let whole : requeued xs order ≡ order = requeued-whole xs order apart differ sub (length_permutation order xs same) in
    is ∙ (ap (λ (l : List ℕ). set V a (requeued xs l)) (take_all i order all) ∙ ap (set V a) whole)

-- the number of an order has a mark
pub order_within : (heads : List Head) (halves : List Half) → IsArena heads halves → (a i : ℕ) (order : List ℕ)
    → IsPermutation order (others_of (links heads halves) a) → i < length order → get_or order i 0 + 1 < length heads
order_within heads halves ok a i order same more =
    let x : ℕ = get_or order i 0 in
    let has : Contains (others_of (links heads halves) a) x = Contains-permutation order (others_of (links heads halves) a) x same (Contains-get_or order i 0 more) in
    let h : x < length (links heads halves) = (simple heads halves ok).within a x has in
    omega (arith, length_links heads halves)

-- the halves of an end lead to ends
pub listed_at : (heads : List Head) (halves : List Half) → IsArena heads halves → (a A : ℕ) → A ≡ suc a → A < length heads
    → (s : ℕ) → IsIn s (list_at heads halves A) → (owner_at halves s ≡ suc a) × ((owner_at halves (twin s) ≢ 0) × (owner_at halves (twin s) < length heads))
listed_at heads halves ok a A is within s h =
    let own : owner_at halves s ≡ suc a = owned_in ok.filed.threaded A s h ∙ is in
    let some : owner_at halves (twin s) ≢ 0 = used_twin heads halves ok s a own in
    let twin_within : twin s < length halves = (list_bounds heads halves ok A within s h).1 in
    let there : IsIn (twin s) (list_at heads halves (owner_at halves (twin s))) = filed_in ok.filed (twin s) twin_within in
    (own, (some, in_heads heads halves (owner_at halves (twin s)) (twin s) there))
  where
    in_heads : (heads : List Head) (halves : List Half) (j s : ℕ) → IsIn s (list_at heads halves j) → j < length heads
    in_heads heads halves j s h =
        let k : j < length (lists heads halves) = in_some_list (lists heads halves) j s h in
        omega (arith, length-map heads (list_of halves))

pub end_listed : (heads : List Head) (halves : List Half) → IsArena heads halves → (a A : ℕ) → A ≡ suc a → A < length heads
    → IsListed halves (list_of halves (head_at heads A))
end_listed heads halves ok a A is within = record {
  within = λ s h. (list_bounds heads halves ok A within s (in_list_at heads halves A within s (in_from (list_of halves (head_at heads A)) s h))).0;
  twin_within = λ s h. (list_bounds heads halves ok A within s (in_list_at heads halves A within s (in_from (list_of halves (head_at heads A)) s h))).1;
  some = λ s h. (let n : owner_at halves (twin s) ≢ 0 = (listed_at heads halves ok a A is within s (in_list_at heads halves A within s (in_from (list_of halves (head_at heads A)) s h))).1.0 in omega arith);
  few = λ s h. (let n : owner_at halves (twin s) < length heads = (listed_at heads halves ok a A is within s (in_list_at heads halves A within s (in_from (list_of halves (head_at heads A)) s h))).1.1 in omega (arith, ok.few));
}

pub end_single : (heads : List Head) (halves : List Half) → IsArena heads halves → (a A : ℕ) → A ≡ suc a → A < length heads
    → (s u : ℕ) → Contains (list_of halves (head_at heads A)) s → Contains (list_of halves (head_at heads A)) u → owner_at halves (twin s) ≡ owner_at halves (twin u) → s ≡ u
end_single heads halves ok a A is within s u hs hu same =
    let os : owner_at halves s ≡ suc a = (listed_at heads halves ok a A is within s (in_list_at heads halves A within s (in_from (list_of halves (head_at heads A)) s hs))).0 in
    let ou : owner_at halves u ≡ suc a = (listed_at heads halves ok a A is within u (in_list_at heads halves A within u (in_from (list_of halves (head_at heads A)) u hu))).0 in
    ok.twinned.single s u (λ z. (let k : suc a ≡ 0 = sym os ∙ z in omega arith)) (os ∙ sym ou) same

-- what an end's list shows
pub view_at : (heads : List Head) (halves : List Half) (a A : ℕ) → A ≡ suc a → A < length heads
    → others_of (links heads halves) a ≡ map (other (owners halves)) (list_of halves (head_at heads A))
view_at heads halves a A is within =
    at_shown (owners halves) (lists heads halves) a
    ∙ (ap (λ (i : ℕ). map (other (owners halves)) (list_at heads halves i)) (sym is)
    ∙ ap (map (other (owners halves))) (list_at-is heads halves A within))

pub degree_at : (heads : List Head) (halves : List Half) (a A : ℕ) → A ≡ suc a → A < length heads
    → length (others_of (links heads halves) a) ≡ (head_at heads A).len
degree_at heads halves a A is within =
    ap length (view_at heads halves a A is within)
    ∙ (length-map (list_of halves (head_at heads A)) (other (owners halves)) ∙ length-walk (nexts halves) (head_at heads A).len (head_at heads A).first)
