-- What a search along a list finds.
use Rattle.std.proofs.Common.{◌≡◌, ◌≢◌, ℕ, ◌<◌, ◌+◌, ◌-◌, List, length, Option, Some, None, refl, sym, ◌∙◌, ap, subst, arith, inl, zero, suc}
use Rattle.std.proofs.lemmas.List.{length-map}
use Rattle.std.specs.Prelude.{Contains, IfSome, IfNone}
use Rattle.link_arena.specs.declared.half.Half.{Half}
use Rattle.link_arena.specs.declared.half.Head.{Head}
use Rattle.link_arena.specs.Links.{others_of, parted, IsPartedSomewhere}
use Rattle.link_arena.specs.Threads.{walk}
use Rattle.link_arena.specs.Lists.{nexts, lists, list_of, list_at, head_at, owner_at, owners}
use Rattle.link_arena.specs.Twins.{twin, links, IsArena}
use Rattle.link_arena.proofs.Threaded.{list_at-is}
use Rattle.link_arena.proofs.Arenas.{twin_in}
use Rattle.link_arena.proofs.Shown.{length-shown}
use Rattle.link_arena.proofs.Simple.{IsShownBy, shown_by, shows, used_twin}
use Rattle.link_arena.proofs.Members.{IsIn, in_from, contains_in, thread_within, owned_in}

pub if_some : {A : Type 0} (P Q : A → Type 0) (r : Option A) → ((x : A) → P x → Q x) → IfSome r P → IfSome r Q
if_some P Q None f h = h
if_some P Q (Some x) f h = f x h

pub if_none : {A : Type 0} (P Q : Type 0) (r : Option A) → (P → Q) → IfNone r P → IfNone r Q
if_none P Q None f h = f h
if_none P Q (Some x) f h = h

pub list_bounds : (heads : List Head) (halves : List Half) → IsArena heads halves → (id : ℕ) → id < length heads → (s : ℕ)
    → IsIn s (list_at heads halves id) → (s < length halves) × (twin s < length halves)
list_bounds heads halves ok id within s has =
    let one : s < length halves = subst (λ (n : ℕ). s < n) (length-map halves (λ (x : Half). x.next)) (thread_within (ok.filed.threaded.thread id within) s has).0 in
    (one, twin_in heads halves ok s one)

pub in_list_at : (heads : List Head) (halves : List Half) (id : ℕ) → id < length heads → (s : ℕ) → IsIn s (list_of halves (head_at heads id)) → IsIn s (list_at heads halves id)
in_list_at heads halves id within s h = subst (IsIn s) (sym (list_at-is heads halves id within)) h

pub found_at : (heads : List Head) (halves : List Half) → IsArena heads halves → (a b s : ℕ) → a + 1 < length heads
    → Contains (list_of halves (head_at heads (a + 1))) s × (owner_at halves (twin s) ≡ b + 1) → (owner_at halves s ≡ a + 1) × (owner_at halves (twin s) ≡ b + 1)
found_at heads halves ok a b s within h = (owned_in ok.filed.threaded (a + 1) s (in_list_at heads halves (a + 1) within s (in_from (list_of halves (head_at heads (a + 1))) s h.0)), h.1)

pub found_joined : (heads : List Head) (halves : List Half) → IsArena heads halves → (a b s : ℕ) → a + 1 < length heads
    → Contains (list_of halves (head_at heads (a + 1))) s × (owner_at halves (twin s) ≡ b + 1) → Contains (others_of (links heads halves) a) b
found_joined heads halves ok a b s within h =
    let f : (owner_at halves s ≡ a + 1) × (owner_at halves (twin s) ≡ b + 1) = found_at heads halves ok a b s within h in
    let own : owner_at halves s ≡ suc a = f.0 ∙ (let k : a + 1 ≡ suc a = omega arith in k) in
    let leads : owner_at halves (twin s) ≡ suc b = f.1 ∙ (let k : b + 1 ≡ suc b = omega arith in k) in
    shows heads halves ok s a b own leads

pub none_joined : (heads : List Head) (halves : List Half) → IsArena heads halves → (a b : ℕ) → a + 1 < length heads
    → ((s : ℕ) → Contains (list_of halves (head_at heads (a + 1))) s → owner_at halves (twin s) ≢ b + 1) → ¬ Contains (others_of (links heads halves) a) b
none_joined heads halves ok a b within none has =
    let by : IsShownBy heads halves a b = shown_by heads halves ok a b has in
    let ka : suc a ≡ a + 1 = omega arith in
    let kb : suc b ≡ b + 1 = omega arith in
    let there : IsIn by.half (list_at heads halves (a + 1)) = subst (λ (i : ℕ). IsIn by.half (list_at heads halves i)) ka by.there in
    none by.half (contains_in (list_of halves (head_at heads (a + 1))) by.half (subst (IsIn by.half) (list_at-is heads halves (a + 1) within) there)) (by.leads ∙ kb)

pub first_there : (heads : List Head) (halves : List Half) → IsArena heads halves → (id : ℕ) → id < length heads → 0 < (head_at heads id).len
    → IsIn (head_at heads id).first (list_at heads halves id)
first_there heads halves ok id within some =
    let is : list_at heads halves id ≡ list_of halves (head_at heads id) = list_at-is heads halves id within in
    subst (IsIn (head_at heads id).first) (sym is) (walked (nexts halves) (head_at heads id).len (head_at heads id).first some)
  where
    walked : (N : List ℕ) (n at : ℕ) → 0 < n → IsIn at (walk N n at)
    walked N zero at some = absurd (omega arith)
    walked N (suc n) at some = inl refl

pub part_first_of : (heads : List Head) (halves : List Half) → IsArena heads halves → (a s : ℕ) (new : List (List ℕ)) → owner_at halves s ≡ a + 1
    → new ≡ parted (links heads halves) (owner_at halves s - 1) (owner_at halves (twin s) - 1) → IsPartedSomewhere (links heads halves) a new
part_first_of heads halves ok a s new own is =
    let own' : owner_at halves s ≡ suc a = own ∙ (let k : a + 1 ≡ suc a = omega arith in k) in
    let some : owner_at halves (twin s) ≢ 0 = used_twin heads halves ok s a own' in
    let leads : owner_at halves (twin s) ≡ suc (owner_at halves (twin s) - 1) = omega arith in
    let a_is : owner_at halves s - 1 ≡ a = omega arith in
    record {
      other = owner_at halves (twin s) - 1;
      was = shows heads halves ok s a (owner_at halves (twin s) - 1) own' leads;
      is = is ∙ ap (λ (i : ℕ). parted (links heads halves) i (owner_at halves (twin s) - 1)) a_is;
    }

pub length_links : (heads : List Head) (halves : List Half) → length (links heads halves) ≡ length heads - 1
length_links heads halves = length-shown (owners halves) (lists heads halves) ∙ ap (λ (n : ℕ). n - 1) (length-map heads (list_of halves))
