use Rattle.std.proofs.Common.{◌≡◌, ◌≢◌, ℕ, ◌<◌, ◌+◌, length, subst, sym}
use Rattle.std.specs.Prelude.{Contains, IfSome, IfNone}
use Rattle.link_arena.specs.declared.half.Head.{Head}
use Rattle.link_arena.specs.Links.{others_of}
use Rattle.link_arena.specs.Lists.{list_of, head_at, owner_at}
use Rattle.link_arena.specs.Twins.{twin, links}
use Rattle.link_arena.proofs.Found.{list_bounds, in_list_at, found_at, found_joined, none_joined, if_some, if_none}
use Rattle.link_arena.proofs.Members.{in_from}
use Rattle.link_arena.proofs.joins.Joins.find_at.Goals as goal

pub find-requires : goal.find-requires
find-requires c = record {
  within = subst (λ (x : Head). (s : ℕ) → Contains (list_of c.args.self.now.halves x) s → (s < length c.args.self.now.halves) × (twin s < length c.args.self.now.halves)) (sym c.head.ensures)
      (λ s h. list_bounds c.args.self.now.heads c.args.self.now.halves c.requires.arena (c.args.end + 1) c.requires.within s
      (in_list_at c.args.self.now.heads c.args.self.now.halves (c.args.end + 1) c.requires.within s (in_from (list_of c.args.self.now.halves (head_at c.args.self.now.heads (c.args.end + 1))) s h)));
}

pub returns-clause-found : goal.returns-clause-found
returns-clause-found c =
    if_some (λ (s : ℕ). Contains (list_of c.args.self.now.halves (head_at c.args.self.now.heads (c.args.end + 1))) s × (owner_at c.args.self.now.halves (twin s) ≡ c.args.other + 1))
    (λ (s : ℕ). (owner_at c.args.self.now.halves s ≡ c.args.end + 1) × (owner_at c.args.self.now.halves (twin s) ≡ c.args.other + 1)) c.find.result
    (λ s h. found_at c.args.self.now.heads c.args.self.now.halves c.requires.arena c.args.end c.args.other s c.requires.within h) (subst (λ (x : Head). IfSome c.find.result (λ (s : ℕ). Contains (list_of c.args.self.now.halves x) s × (owner_at c.args.self.now.halves (twin s) ≡ c.args.other + 1))) c.head.ensures c.find.ensures.found)

pub returns-clause-joined : goal.returns-clause-joined
returns-clause-joined c =
    if_some (λ (s : ℕ). Contains (list_of c.args.self.now.halves (head_at c.args.self.now.heads (c.args.end + 1))) s × (owner_at c.args.self.now.halves (twin s) ≡ c.args.other + 1))
    (λ (s : ℕ). Contains (others_of (links c.args.self.now.heads c.args.self.now.halves) c.args.end) c.args.other) c.find.result
    (λ s h. found_joined c.args.self.now.heads c.args.self.now.halves c.requires.arena c.args.end c.args.other s c.requires.within h) (subst (λ (x : Head). IfSome c.find.result (λ (s : ℕ). Contains (list_of c.args.self.now.halves x) s × (owner_at c.args.self.now.halves (twin s) ≡ c.args.other + 1))) c.head.ensures c.find.ensures.found)

pub returns-clause-none : goal.returns-clause-none
returns-clause-none c =
    if_none ((s : ℕ) → Contains (list_of c.args.self.now.halves (head_at c.args.self.now.heads (c.args.end + 1))) s → owner_at c.args.self.now.halves (twin s) ≢ c.args.other + 1)
    (¬ Contains (others_of (links c.args.self.now.heads c.args.self.now.halves) c.args.end) c.args.other) c.find.result
    (none_joined c.args.self.now.heads c.args.self.now.halves c.requires.arena c.args.end c.args.other c.requires.within) (subst (λ (x : Head). IfNone c.find.result ((s : ℕ) → Contains (list_of c.args.self.now.halves x) s → owner_at c.args.self.now.halves (twin s) ≢ c.args.other + 1)) c.head.ensures c.find.ensures.none)
