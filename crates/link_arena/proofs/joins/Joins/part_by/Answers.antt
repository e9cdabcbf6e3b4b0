use Rattle.std.proofs.Common.{arith, ◌≡◌, ◌<◌, ◌∙◌, ap, length}
use Rattle.std.proofs.lemmas.List.{length-map}
use Rattle.link_arena.specs.Lists.{lists, list_of, owner_at}
use Rattle.link_arena.proofs.Members.{filed_in}
use Rattle.link_arena.proofs.Filed.{in_some_list}
use Rattle.link_arena.proofs.Shown.{length-moved}
use Rattle.link_arena.proofs.Arenas.{parted_steps}
use Rattle.link_arena.proofs.Free.{same_twice, free_parted}
use Rattle.link_arena.proofs.joins.Joins.part_by.Goals as goal

pub returns-clause-arena : goal.returns-clause-arena
returns-clause-arena c =
    (parted_steps c.args.self.now.heads c.args.self.now.halves c.move_to.new.self.heads c.move_to.new.self.halves c.move_to-2.new.self.heads c.move_to-2.new.self.halves
    c.args.at c.twin_of-twin.result c.twin_of-twin.ensures c.requires.arena c.requires.used
    c.move_to-2.ensures.filed c.move_to.ensures.lists c.move_to.ensures.owners c.move_to-2.ensures.lists c.move_to-2.ensures.owners).arena

pub returns-clause-view : goal.returns-clause-view
returns-clause-view c =
    (parted_steps c.args.self.now.heads c.args.self.now.halves c.move_to.new.self.heads c.move_to.new.self.halves c.move_to-2.new.self.heads c.move_to-2.new.self.halves
    c.args.at c.twin_of-twin.result c.twin_of-twin.ensures c.requires.arena c.requires.used
    c.move_to-2.ensures.filed c.move_to.ensures.lists c.move_to.ensures.owners c.move_to-2.ensures.lists c.move_to-2.ensures.owners).view

pub move_to-requires-clause-within : goal.move_to-requires-clause-within
move_to-requires-clause-within c =
    let L = lists c.args.self.now.heads c.args.self.now.halves in
    let o = owner_at c.args.self.now.halves c.args.at in
    let within : o < length L = in_some_list L o c.args.at (filed_in c.requires.arena.filed c.args.at c.requires.half_within) in
    omega (arith, within, length-map c.args.self.now.heads (list_of c.args.self.now.halves))

pub move_to-requires-2-clause-within : goal.move_to-requires-2-clause-within
move_to-requires-2-clause-within c =
    let L = lists c.args.self.now.heads c.args.self.now.halves in
    let o = owner_at c.args.self.now.halves c.args.at in
    let within : o < length L = in_some_list L o c.args.at (filed_in c.requires.arena.filed c.args.at c.requires.half_within) in
    let count : length (lists c.move_to.new.self.heads c.move_to.new.self.halves) ≡ length L = ap length c.move_to.ensures.lists ∙ length-moved L o 0 c.args.at in
    omega (arith, within, count, length-map c.move_to.new.self.heads (list_of c.move_to.new.self.halves))

pub returns-clause-same : goal.returns-clause-same
returns-clause-same c = same_twice c.args.self.now c.move_to.new.self c.move_to-2.new.self c.move_to.ensures.same c.move_to-2.ensures.same

pub returns-clause-free : goal.returns-clause-free
returns-clause-free c =
    free_parted c.args.self.now c.move_to.new.self c.move_to-2.new.self c.args.at c.twin_of-twin.result
    c.twin_of-twin.ensures c.requires.arena c.requires.used c.move_to.ensures.lists c.move_to.ensures.owners c.move_to-2.ensures.lists
