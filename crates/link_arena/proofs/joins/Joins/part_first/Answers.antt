use Rattle.std.proofs.Common.{arith, ◌≡◌, ◌+◌, ◌∙◌, ℕ, [], ap, map, refl, subst, suc}
use Rattle.link_arena.specs.Lists.{lists, list_at, owners}
use Rattle.link_arena.proofs.Shown.{at_shown}
use Rattle.link_arena.specs.Twins.{links, other}
use Rattle.link_arena.proofs.Found.{part_first_of}
use Rattle.link_arena.proofs.Free.{same_self}
use Rattle.link_arena.proofs.joins.Joins.part_first.Goals as goal

pub returns-in-Some-clause-parted : goal.returns-in-Some-clause-parted
returns-in-Some-clause-parted c =
    part_first_of c.args.self.now.heads c.args.self.now.halves c.requires.arena c.args.end c.in-Some.at (links c.part_by.new.self.heads c.part_by.new.self.halves)
    c.in-Some.ensures.some.1 c.part_by.ensures.view

pub first_of-requires-clause-arena : goal.first_of-requires-clause-arena
first_of-requires-clause-arena c = c.requires.arena

pub part_by-requires-clause-arena : goal.part_by-requires-clause-arena
part_by-requires-clause-arena c = c.requires.arena

pub part_by-requires-clause-half_within : goal.part_by-requires-clause-half_within
part_by-requires-clause-half_within c = c.in-Some.ensures.some.0

pub part_by-requires-clause-used : goal.part_by-requires-clause-used
part_by-requires-clause-used c = λ none. absurd (omega (arith, c.in-Some.ensures.some.1, none))

pub returns-in-None-clause-arena : goal.returns-in-None-clause-arena
returns-in-None-clause-arena c = c.requires.arena

pub returns-in-None-clause-none : goal.returns-in-None-clause-none
returns-in-None-clause-none c =
    let a : c.args.end + 1 ≡ suc c.args.end = omega arith in
    let none : list_at c.args.self.now.heads c.args.self.now.halves (suc c.args.end) ≡ [] =
    subst (λ (i : ℕ). list_at c.args.self.now.heads c.args.self.now.halves i ≡ []) a c.in-None.ensures.none in (
      at_shown (owners c.args.self.now.halves) (lists c.args.self.now.heads c.args.self.now.halves) c.args.end ∙ ap (map (other (owners c.args.self.now.halves))) none,
      refl,
    )

pub returns-in-Some-clause-arena : goal.returns-in-Some-clause-arena
returns-in-Some-clause-arena c = c.part_by.ensures.arena

pub returns-in-Some-clause-same : goal.returns-in-Some-clause-same
returns-in-Some-clause-same c = c.part_by.ensures.same

pub returns-in-Some-clause-free : goal.returns-in-Some-clause-free
returns-in-Some-clause-free c = c.part_by.ensures.free

pub returns-in-None-clause-same : goal.returns-in-None-clause-same
returns-in-None-clause-same c = same_self c.args.self.now
