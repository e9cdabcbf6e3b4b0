use Rattle.std.proofs.Common.{arith, ◌+◌, ◌≡◌, ◌-◌, ◌∙◌, ℕ, ap, suc}
use Rattle.link_arena.specs.Links.{parted}
use Rattle.link_arena.specs.Lists.{owner_at}
use Rattle.link_arena.specs.Twins.{twin, links}
use Rattle.link_arena.proofs.Arenas.{owner_within}
use Rattle.link_arena.proofs.Free.{same_self}
use Rattle.link_arena.proofs.joins.Joins.part_at.Goals as goal

pub find_at-requires-clause-arena : goal.find_at-requires-clause-arena
find_at-requires-clause-arena c = c.requires.arena

pub part_by-requires-clause-arena : goal.part_by-requires-clause-arena
part_by-requires-clause-arena c = c.requires.arena

pub part_by-requires-clause-half_within : goal.part_by-requires-clause-half_within
part_by-requires-clause-half_within c =
    let a : c.args.end + 1 ≡ suc c.args.end = omega arith in
    owner_within c.args.self.now.halves c.in-Some.at c.args.end (c.in-Some.ensures.found.0 ∙ a)

pub part_by-requires-clause-used : goal.part_by-requires-clause-used
part_by-requires-clause-used c = λ none. absurd (omega (arith, c.in-Some.ensures.found.0, none))

pub returns-in-Some-clause-arena : goal.returns-in-Some-clause-arena
returns-in-Some-clause-arena c = c.part_by.ensures.arena

pub returns-in-Some-clause-same : goal.returns-in-Some-clause-same
returns-in-Some-clause-same c = c.part_by.ensures.same

pub returns-in-Some-clause-free : goal.returns-in-Some-clause-free
returns-in-Some-clause-free c = c.part_by.ensures.free

pub returns-in-Some-clause-view : goal.returns-in-Some-clause-view
returns-in-Some-clause-view c =
    let a : owner_at c.args.self.now.halves c.in-Some.at - 1 ≡ c.args.end = omega (arith, c.in-Some.ensures.found.0) in
    let b : owner_at c.args.self.now.halves (twin c.in-Some.at) - 1 ≡ c.args.other = omega (arith, c.in-Some.ensures.found.1) in
    c.part_by.ensures.view
    ∙ (ap (λ (i : ℕ). parted (links c.args.self.now.heads c.args.self.now.halves) i (owner_at c.args.self.now.halves (twin c.in-Some.at) - 1)) a
    ∙ ap (parted (links c.args.self.now.heads c.args.self.now.halves) c.args.end) b)

pub returns-in_default-clause-arena : goal.returns-in_default-clause-arena
returns-in_default-clause-arena c = c.requires.arena

pub returns-in_default-clause-view : goal.returns-in_default-clause-view
returns-in_default-clause-view c = absurd (c.in_default.ensures.none c.requires.named)

pub returns-in_default-clause-same : goal.returns-in_default-clause-same
returns-in_default-clause-same c = same_self c.args.self.now
