-- An arena, after two of its ends are joined or parted.
use Rattle.std.proofs.Common.{◌≡◌, ◌≢◌, ℕ, ◌<◌, ◌≤◌, ◌-◌, ◌^◌, ◌%◌, List, [], ◌∷◌, length, get_or, set, map, sym, ◌∙◌, ap, subst, arith, inl, inr, suc}
use Rattle.std.proofs.lemmas.Bool.{cases_lt}
use Rattle.std.proofs.lemmas.List.{get_or-set_other, length-map, get_or_past}
use Rattle.std.specs.Prelude.{Contains}
use Rattle.link_arena.specs.declared.half.Half.{Half}
use Rattle.link_arena.specs.declared.half.Head.{Head}
use Rattle.link_arena.specs.Links.{others_of, joined_ends, parted}
use Rattle.link_arena.specs.Lists.{lists, list_of, owners, owner_at, moved_to, IsFiled}
use Rattle.link_arena.specs.Twins.{twin, other, shown, links, IsRewritten, IsArena}
use Rattle.link_arena.proofs.Elements.{Contains-first, Contains-later}
use Rattle.link_arena.proofs.Filed.{in_some_list}
use Rattle.link_arena.proofs.Twins.{twin-twin, twin-other, twin-within, rewritten, twinned-joined, twinned-parted}
use Rattle.link_arena.proofs.Shown.{at_shown, length-moved, view-joined, view-parted}
use Rattle.link_arena.proofs.Members.{IsIn, owned_in, filed_in}

pub contains_mapped : (f : ℕ → ℕ) (xs : List ℕ) (x : ℕ) → IsIn x xs → Contains (map f xs) (f x)
contains_mapped f [] x has = absurd has
contains_mapped f (y ∷ ys) x (inl e) = subst (λ (k : ℕ). Contains (f y ∷ map f ys) (f k)) (sym e) (Contains-first (f y) (map f ys))
contains_mapped f (y ∷ ys) x (inr has) = Contains-later (f y) (map f ys) (f x) (contains_mapped f ys x has)

pub owners_count : (halves : List Half) → length (owners halves) ≡ length halves
owners_count halves = length-map halves (λ (s : Half). s.owner)

pub owner_within : (halves : List Half) (u k : ℕ) → owner_at halves u ≡ suc k → u < length halves
owner_within halves u k is =
    elim (cases_lt u (length halves)) [
      | inl h ↦ h
      | inr h ↦
          let past : length (owners halves) ≤ u = omega (arith, owners_count halves) in
          let none : owner_at halves u ≡ 0 = get_or_past (owners halves) u 0 past in
          absurd (let k : suc k ≡ 0 = sym is ∙ none in omega arith)
    ]

pub twin_in : (heads : List Head) (halves : List Half) → IsArena heads halves → (s : ℕ) → s < length halves → twin s < length halves
twin_in heads halves ok s within =
    let even : length halves % 2 ≡ 0 = ap (λ (n : ℕ). n % 2) (sym (owners_count halves)) ∙ ok.twinned.even in
    twin-within s (length halves) even within

-- the two moves of a join, or a parting
pub record IsTwice (heads : List Head) (halves : List Half) (heads' : List Head) (halves' : List Half) (at a b from from' : ℕ) : Type 0 where
  pub lists_are : lists heads' halves' ≡ moved_to (moved_to (lists heads halves) from a at) from' b (twin at)
  pub owners_are : owners halves' ≡ set (set (owners halves) at a) (twin at) b

pub twice : (heads : List Head) (halves : List Half) (heads1 : List Head) (halves1 : List Half) (heads2 : List Head) (halves2 : List Half) (at t a b : ℕ)
    → t ≡ twin at
    → lists heads1 halves1 ≡ moved_to (lists heads halves) (owner_at halves at) a at → owners halves1 ≡ set (owners halves) at a
    → lists heads2 halves2 ≡ moved_to (lists heads1 halves1) (owner_at halves1 t) b t → owners halves2 ≡ set (owners halves1) t b
    → IsTwice heads halves heads2 halves2 at a b (owner_at halves at) (owner_at halves (twin at))
twice heads halves heads1 halves1 heads2 halves2 at t a b is e1 o1 e2 o2 =
    let apart : t ≢ at = λ e. twin-other at (sym is ∙ e) in
    let own : owner_at halves1 t ≡ owner_at halves t = ap (λ (l : List ℕ). get_or l t 0) o1 ∙ get_or-set_other (owners halves) at t a 0 apart in
    record {
      lists_are = e2
          ∙ (ap (λ (i : ℕ). moved_to (lists heads1 halves1) i b t) own
          ∙ (ap (λ (l : List (List ℕ)). moved_to l (owner_at halves t) b t) e1
          ∙ ap (λ (i : ℕ). moved_to (moved_to (lists heads halves) (owner_at halves at) a at) (owner_at halves i) b i) is));
      owners_are = o2 ∙ (ap (λ (l : List ℕ). set l t b) o1 ∙ ap (λ (i : ℕ). set (set (owners halves) at a) i b) is);
    }

pub heads_count : (heads : List Head) (halves : List Half) (heads' : List Head) (halves' : List Half) (at a b f g : ℕ)
    → IsTwice heads halves heads' halves' at a b f g → length heads' ≡ length heads
heads_count heads halves heads' halves' at a b f g w =
    sym (length-map heads' (list_of halves')) ∙ (ap length w.lists_are ∙ (length-moved (moved_to (lists heads halves) f a at) g b (twin at)
    ∙ (length-moved (lists heads halves) f a at ∙ length-map heads (list_of halves))))

pub record IsAnswer (heads' : List Head) (halves' : List Half) (n : ℕ) (L : List (List ℕ)) : Type 0 where
  pub arena : IsArena heads' halves'
  pub count : length heads' ≡ n
  pub view : links heads' halves' ≡ L

rewrites : (heads : List Head) (halves : List Half) (heads' : List Head) (halves' : List Half) (at a b f g : ℕ) → IsArena heads halves
    → at < length halves → IsTwice heads halves heads' halves' at a b f g → IsRewritten (owners halves) (owners halves') at a b
rewrites heads halves heads' halves' at a b f g ok within w =
    let in_owners : at < length (owners halves) = subst (λ (n : ℕ). at < n) (sym (owners_count halves)) within in
    let twin_in_owners : twin at < length (owners halves) = subst (λ (n : ℕ). twin at < n) (sym (owners_count halves)) (twin_in heads halves ok at within) in
    subst (λ (l : List ℕ). IsRewritten (owners halves) l at a b) (sym w.owners_are) (rewritten (owners halves) at a b in_owners twin_in_owners)

pub joined_arena : (heads : List Head) (halves : List Half) (heads' : List Head) (halves' : List Half) (at a b : ℕ) → IsArena heads halves
    → at < length halves → owner_at halves at ≡ 0 → suc a < length heads → suc b < length heads → a ≢ b
    → ¬ Contains (others_of (links heads halves) a) b → IsFiled heads' halves'
    → IsTwice heads halves heads' halves' at (suc a) (suc b) (owner_at halves at) (owner_at halves (twin at))
    → IsAnswer heads' halves' (length heads) (joined_ends (links heads halves) a b)
joined_arena heads halves heads' halves' at a b ok within free a_in b_in differ unjoined filed w =
    let O : List ℕ = owners halves in
    let L : List (List ℕ) = lists heads halves in
    let twin_free : get_or O (twin at) 0 ≡ 0 = ok.twinned.free at free in
    let r : IsRewritten O (owners halves') at (suc a) (suc b) = rewrites heads halves heads' halves' at (suc a) (suc b) (owner_at halves at) (owner_at halves (twin at)) ok within w in
    let count : length heads' ≡ length heads = heads_count heads halves heads' halves' at (suc a) (suc b) (owner_at halves at) (owner_at halves (twin at)) w in
    let a0 : suc a ≢ 0 = omega arith in
    let b0 : suc b ≢ 0 = omega arith in
    let ab : suc a ≢ suc b = omega arith in
    let unnamed : (u : ℕ) → get_or O u 0 ≡ suc a → get_or O (twin u) 0 ≢ suc b = λ u own names.
    let has : IsIn u (get_or L (suc a) []) = subst (λ (i : ℕ). IsIn u (get_or L i [])) own (filed_in ok.filed u (owner_within halves u a own)) in
    let leads : other O u ≡ b = ap (λ (k : ℕ). k - 1) names ∙ (let k : suc b - 1 ≡ b = omega arith in k) in
    let shown_has : Contains (map (other O) (get_or L (suc a) [])) b = subst (λ (k : ℕ). Contains (map (other O) (get_or L (suc a) [])) k) leads (contains_mapped (other O) (get_or L (suc a) []) u has) in
    unjoined (subst (λ (l : List ℕ). Contains l b) (sym (at_shown O L a)) shown_has) in
    let view : shown (owners halves') (moved_to (moved_to L 0 (suc a) at) 0 (suc b) (twin at)) ≡ joined_ends (shown O L) a b =
    view-joined O (owners halves') L at a b (owned_in ok.filed.threaded) r free twin_free
    (subst (λ (n : ℕ). suc a < n) (sym (length-map heads (list_of halves))) a_in)
    (subst (λ (n : ℕ). suc b < n) (sym (length-map heads (list_of halves))) b_in) differ in
    let same_lists : lists heads' halves' ≡ moved_to (moved_to L 0 (suc a) at) 0 (suc b) (twin at) =
    w.lists_are ∙ (ap (λ (i : ℕ). moved_to (moved_to L i (suc a) at) (owner_at halves (twin at)) (suc b) (twin at)) free
    ∙ ap (λ (i : ℕ). moved_to (moved_to L 0 (suc a) at) i (suc b) (twin at)) twin_free) in
    record {
      arena = record {
        filed = filed;
        twinned = twinned-joined O (owners halves') at (suc a) (suc b) ok.twinned r a0 b0 ab unnamed;
        few = subst (λ (n : ℕ). n ≤ 2 ^ 32) (sym count) ok.few;
      };
      count = count;
      view = ap (shown (owners halves')) same_lists ∙ view;
    }

pub parted_arena : (heads : List Head) (halves : List Half) (heads' : List Head) (halves' : List Half) (at a b : ℕ) → IsArena heads halves
    → owner_at halves at ≡ suc a → owner_at halves (twin at) ≡ suc b → IsFiled heads' halves'
    → IsTwice heads halves heads' halves' at 0 0 (owner_at halves at) (owner_at halves (twin at))
    → IsAnswer heads' halves' (length heads) (parted (links heads halves) a b)
parted_arena heads halves heads' halves' at a b ok at_a at_b filed w =
    let O : List ℕ = owners halves in
    let L : List (List ℕ) = lists heads halves in
    let within : at < length halves = owner_within halves at a at_a in
    let r : IsRewritten O (owners halves') at 0 0 = rewrites heads halves heads' halves' at 0 0 (owner_at halves at) (owner_at halves (twin at)) ok within w in
    let count : length heads' ≡ length heads = heads_count heads halves heads' halves' at 0 0 (owner_at halves at) (owner_at halves (twin at)) w in
    let a_in : suc a < length L = in_some_list L (suc a) at (subst (λ (i : ℕ). IsIn at (get_or L i [])) at_a (filed_in ok.filed at within)) in
    let b_in : suc b < length L = in_some_list L (suc b) (twin at) (subst (λ (i : ℕ). IsIn (twin at) (get_or L i [])) at_b (filed_in ok.filed (twin at) (owner_within halves (twin at) b at_b))) in
    let same_lists : lists heads' halves' ≡ moved_to (moved_to L (suc a) 0 at) (suc b) 0 (twin at) =
    w.lists_are ∙ (ap (λ (i : ℕ). moved_to (moved_to L i 0 at) (owner_at halves (twin at)) 0 (twin at)) at_a
    ∙ ap (λ (i : ℕ). moved_to (moved_to L (suc a) 0 at) i 0 (twin at)) at_b) in
    record {
      arena = record {
        filed = filed;
        twinned = twinned-parted O (owners halves') at ok.twinned r;
        few = subst (λ (n : ℕ). n ≤ 2 ^ 32) (sym count) ok.few;
      };
      count = count;
      view = ap (shown (owners halves')) same_lists ∙ view-parted O (owners halves') L at a b (owned_in ok.filed.threaded) ok.twinned r at_a at_b a_in b_in;
    }

pub joined_steps : (heads : List Head) (halves : List Half) (heads1 : List Head) (halves1 : List Half) (heads2 : List Head) (halves2 : List Half) (at t a b A B : ℕ)
    → A ≡ suc a → B ≡ suc b → t ≡ twin at
    → IsArena heads halves → at < length halves → owner_at halves at ≡ 0 → A < length heads → B < length heads → a ≢ b
    → ¬ Contains (others_of (links heads halves) a) b → IsFiled heads2 halves2
    → lists heads1 halves1 ≡ moved_to (lists heads halves) (owner_at halves at) A at → owners halves1 ≡ set (owners halves) at A
    → lists heads2 halves2 ≡ moved_to (lists heads1 halves1) (owner_at halves1 t) B t → owners halves2 ≡ set (owners halves1) t B
    → IsAnswer heads2 halves2 (length heads) (joined_ends (links heads halves) a b)
joined_steps heads halves heads1 halves1 heads2 halves2 at t a b A B A_is B_is t_is ok within free a_in b_in differ unjoined filed e1 o1 e2 o2 =
    let w : IsTwice heads halves heads2 halves2 at A B (owner_at halves at) (owner_at halves (twin at)) =
    twice heads halves heads1 halves1 heads2 halves2 at t A B t_is e1 o1 e2 o2 in
    let w1 : IsTwice heads halves heads2 halves2 at (suc a) B (owner_at halves at) (owner_at halves (twin at)) =
    subst (λ (i : ℕ). IsTwice heads halves heads2 halves2 at i B (owner_at halves at) (owner_at halves (twin at))) A_is w in
    let w2 : IsTwice heads halves heads2 halves2 at (suc a) (suc b) (owner_at halves at) (owner_at halves (twin at)) =
    subst (λ (i : ℕ). IsTwice heads halves heads2 halves2 at (suc a) i (owner_at halves at) (owner_at halves (twin at))) B_is w1 in
    joined_arena heads halves heads2 halves2 at a b ok within free (subst (λ (i : ℕ). i < length heads) A_is a_in)
    (subst (λ (i : ℕ). i < length heads) B_is b_in) differ unjoined filed w2

pub parted_steps : (heads : List Head) (halves : List Half) (heads1 : List Head) (halves1 : List Half) (heads2 : List Head) (halves2 : List Half) (at t : ℕ)
    → t ≡ twin at → IsArena heads halves → owner_at halves at ≢ 0 → IsFiled heads2 halves2
    → lists heads1 halves1 ≡ moved_to (lists heads halves) (owner_at halves at) 0 at → owners halves1 ≡ set (owners halves) at 0
    → lists heads2 halves2 ≡ moved_to (lists heads1 halves1) (owner_at halves1 t) 0 t → owners halves2 ≡ set (owners halves1) t 0
    → IsAnswer heads2 halves2 (length heads) (parted (links heads halves) (owner_at halves at - 1) (owner_at halves (twin at) - 1))
parted_steps heads halves heads1 halves1 heads2 halves2 at t t_is ok used filed e1 o1 e2 o2 =
    let w : IsTwice heads halves heads2 halves2 at 0 0 (owner_at halves at) (owner_at halves (twin at)) =
    twice heads halves heads1 halves1 heads2 halves2 at t 0 0 t_is e1 o1 e2 o2 in
    let twin_used : owner_at halves (twin at) ≢ 0 = λ z. used (ap (λ (i : ℕ). owner_at halves i) (sym (twin-twin at)) ∙ ok.twinned.free (twin at) z) in
    let a_is : owner_at halves at ≡ suc (owner_at halves at - 1) = omega arith in
    let b_is : owner_at halves (twin at) ≡ suc (owner_at halves (twin at) - 1) = omega arith in
    parted_arena heads halves heads2 halves2 at (owner_at halves at - 1) (owner_at halves (twin at) - 1) ok a_is b_is filed w
