-- An arena, after a half has moved to the end of its own list.
use Rattle.std.proofs.Common.{◌≡◌, ◌≢◌, ℕ, ◌<◌, ◌≤◌, ◌-◌, ◌^◌, List, [], ◌∷◌, ◌++◌, length, get_or, set, sym, ◌∙◌, ap, subst, arith, suc}
use Rattle.std.proofs.lemmas.List.{length-map, set-get_or}
use Rattle.std.specs.Prelude.{Contains}
use Rattle.link_arena.specs.declared.half.Half.{Half}
use Rattle.link_arena.specs.declared.half.Head.{Head}
use Rattle.link_arena.specs.Links.{others_of, without}
use Rattle.link_arena.specs.Lists.{lists, list_of, list_at, owners, owner_at, moved_to, IsFiled}
use Rattle.link_arena.specs.Twins.{twin, other, shown, links, IsTwinned, IsArena, IsMarkedFor, IsRequeued}
use Rattle.link_arena.proofs.Filed.{in_some_list}
use Rattle.link_arena.proofs.Shown.{length-moved}
use Rattle.link_arena.proofs.Arenas.{owner_within}
use Rattle.link_arena.proofs.Simple.{IsShownBy, shown_by, used_twin}
use Rattle.link_arena.proofs.Requeued.{view-requeued}
use Rattle.link_arena.proofs.Members.{IsIn, contains_in, owned_in, filed_in}

pub record IsBehind (halves : List Half) (a x s : ℕ) : Type 0 where
  pub own : owner_at halves s ≡ suc a
  pub leads : owner_at halves (twin s) ≡ suc x
  pub within : s < length halves

pub marked_half : (heads : List Head) (halves : List Half) (marks : List ℕ) (a x s A X : ℕ) → IsArena heads halves → A ≡ suc a → X ≡ suc x
    → IsMarkedFor halves marks (list_at heads halves A) → Contains (others_of (links heads halves) a) x → s ≡ get_or marks X 0 → IsBehind halves a x s
marked_half heads halves marks a x s A X ok a_is x_is marked has is =
    let by : IsShownBy heads halves a x = shown_by heads halves ok a x has in
    let there : IsIn by.half (list_at heads halves A) = subst (λ (i : ℕ). IsIn by.half (list_at heads halves i)) (sym a_is) by.there in
    let same : by.half ≡ s = sym (marked by.half (contains_in (list_at heads halves A) by.half there)) ∙ (ap (λ (i : ℕ). get_or marks i 0) (by.leads ∙ sym x_is) ∙ sym is) in
    record {
      own = ap (λ (i : ℕ). owner_at halves i) (sym same) ∙ by.own;
      leads = ap (λ (i : ℕ). owner_at halves (twin i)) (sym same) ∙ by.leads;
      within = owner_within halves s a (ap (λ (i : ℕ). owner_at halves i) (sym same) ∙ by.own);
    }

pub requeue_step : (heads : List Head) (halves : List Half) (heads' : List Head) (halves' : List Half) (marks : List ℕ) (a x s A : ℕ) → IsArena heads halves
    → A ≡ suc a → IsMarkedFor halves marks (list_at heads halves A) → IsBehind halves a x s → IsFiled heads' halves'
    → lists heads' halves' ≡ moved_to (lists heads halves) (owner_at halves s) A s → owners halves' ≡ set (owners halves) s A
    → IsRequeued heads halves heads' halves' marks a A x
requeue_step heads halves heads' halves' marks a x s A ok a_is marked by filed lists_are owners_are =
    let O : List ℕ = owners halves in
    let L : List (List ℕ) = lists heads halves in
    let own : get_or O s 0 ≡ A = by.own ∙ sym a_is in
    let same : owners halves' ≡ O = owners_are ∙ (ap (set O s) (sym own) ∙ set-get_or O s 0) in
    let to : lists heads' halves' ≡ moved_to L (suc a) (suc a) s =
    lists_are ∙ (ap (λ (i : ℕ). moved_to L i A s) by.own ∙ ap (λ (i : ℕ). moved_to L (suc a) i s) a_is) in
    let count : length heads' ≡ length heads =
    sym (length-map heads' (list_of halves')) ∙ (ap length to ∙ (length-moved L (suc a) (suc a) s ∙ length-map heads (list_of halves))) in
    let in_L : suc a < length L = in_some_list L (suc a) s (subst (λ (i : ℕ). IsIn s (get_or L i [])) by.own (filed_in ok.filed s by.within)) in
    let x_is : other O s ≡ x = ap (λ (k : ℕ). k - 1) by.leads ∙ (let k : suc x - 1 ≡ x = omega arith in k) in
    let single : (u : ℕ) → IsIn u (get_or L (suc a) []) → u ≢ s → other O u ≢ other O s = λ u h n e.
    let ou : owner_at halves u ≡ suc a = owned_in ok.filed.threaded (suc a) u h in
    let su : owner_at halves (twin u) ≢ 0 = used_twin heads halves ok u a ou in
    let e' : owner_at halves (twin u) - 1 ≡ x = e ∙ x_is in
    let twins : owner_at halves (twin u) ≡ owner_at halves (twin s) = (let k : owner_at halves (twin s) ≡ suc x = by.leads in omega arith) in
    n (ok.twinned.single u s (λ z. (let k : suc a ≡ 0 = sym ou ∙ z in omega arith)) (ou ∙ sym by.own) twins) in
    let V : List (List ℕ) = links heads halves in
    let view : shown O (moved_to L (suc a) (suc a) s) ≡ set V a (without x (others_of V a) ++ x ∷ []) =
    subst (λ (i : ℕ). shown O (moved_to L (suc a) (suc a) s) ≡ set V a (without i (others_of V a) ++ i ∷ [])) x_is (view-requeued O L a s in_L single) in
    record {
      arena = record {
        filed = filed;
        twinned = subst IsTwinned (sym same) ok.twinned;
        few = subst (λ (n : ℕ). n ≤ 2 ^ 32) (sym count) ok.few;
      };
      count = count;
      marked = λ u h.
          let ou : owner_at halves' u ≡ A = filed.threaded.owned A u h in
          let ou' : owner_at halves u ≡ A = ap (λ (l : List ℕ). get_or l u 0) (sym same) ∙ ou in
          let there : IsIn u (list_at heads halves A) = subst (λ (i : ℕ). IsIn u (list_at heads halves i)) ou' (filed_in ok.filed u (owner_within halves u a (ou' ∙ a_is))) in
          ap (λ (l : List ℕ). get_or marks (get_or l (twin u) 0) 0) same ∙ marked u (contains_in (list_at heads halves A) u there);
      view = ap (λ (l : List ℕ). shown l (lists heads' halves')) same ∙ (ap (shown O) to ∙ view);
    }
