use Rattle.link_arena.specs.Lists.{list_at}
use Rattle.std.proofs.Common.{take, refl, arith, ◌≡◌, ◌+◌, ◌<◌, ◌∙◌, ℕ, ap, length, subst, sym}
use Rattle.std.proofs.lemmas.List.{length-append}
use Rattle.link_arena.specs.Twins.{free_row}
use Rattle.link_arena.proofs.Grown.{grown_arena, grown_threaded, grown_out, grown_out_next}
use Rattle.link_arena.proofs.Members.{in_from}
use Rattle.link_arena.proofs.Free.{same_twice}
use Rattle.link_arena.proofs.joins.Joins.thread_row.Goals as goal

pub returns-clause-arena : goal.returns-clause-arena
returns-clause-arena c = (grown_arena c.args.self.now.heads (take c.args.at c.args.self.now.halves) c.args.self.now.halves c.args.at _ c.link.new.self.heads c.link.new.self.halves
    c.link-2.new.self.heads c.link-2.new.self.halves c.requires refl c.link.ensures.after c.link.ensures.owners c.link-2.ensures.after c.link-2.ensures.owners).arena

pub returns-clause-same : goal.returns-clause-same
returns-clause-same c = same_twice c.args.self.now c.link.new.self c.link-2.new.self c.link.ensures.same c.link-2.ensures.same

pub returns-clause-view : goal.returns-clause-view
returns-clause-view c = (grown_arena c.args.self.now.heads (take c.args.at c.args.self.now.halves) c.args.self.now.halves c.args.at _ c.link.new.self.heads c.link.new.self.halves
    c.link-2.new.self.heads c.link-2.new.self.halves c.requires refl c.link.ensures.after c.link.ensures.owners c.link-2.ensures.after c.link-2.ensures.owners).view

pub returns-clause-room : goal.returns-clause-room
returns-clause-room c = (grown_arena c.args.self.now.heads (take c.args.at c.args.self.now.halves) c.args.self.now.halves c.args.at _ c.link.new.self.heads c.link.new.self.halves
    c.link-2.new.self.heads c.link-2.new.self.halves c.requires refl c.link.ensures.after c.link.ensures.owners c.link-2.ensures.after c.link-2.ensures.owners).room

pub link-requires-clause-threaded : goal.link-requires-clause-threaded
link-requires-clause-threaded c = grown_threaded c.args.self.now.heads (take c.args.at c.args.self.now.halves) c.args.self.now.halves c.args.at c.requires

pub link-requires-clause-out : goal.link-requires-clause-out
link-requires-clause-out c = λ j h. grown_out c.args.self.now.heads (take c.args.at c.args.self.now.halves) c.args.self.now.halves c.args.at c.args.at c.requires (omega arith) j
    (in_from (list_at c.args.self.now.heads c.args.self.now.halves j) c.args.at h)

pub link-requires-2-clause-out : goal.link-requires-2-clause-out
link-requires-2-clause-out c = λ j h.
    grown_out_next c.args.self.now.heads (take c.args.at c.args.self.now.halves) c.args.self.now.halves c.args.at (c.args.at + 1) c.link.new.self.heads c.link.new.self.halves
    c.requires (omega arith) c.link.ensures.after j (in_from (list_at c.link.new.self.heads c.link.new.self.halves j) (c.args.at + 1) h)

pub link-requires-clause-within : goal.link-requires-clause-within
link-requires-clause-within c = c.requires.within

pub link-requires-clause-half_within : goal.link-requires-clause-half_within
link-requires-clause-half_within c =
    let len : length c.args.self.now.halves ≡ length (take c.args.at c.args.self.now.halves) + 2 = ap length c.requires.is ∙ length-append (take c.args.at c.args.self.now.halves) free_row in
    omega (arith, c.requires.len)

pub link-requires-2-clause-threaded : goal.link-requires-2-clause-threaded
link-requires-2-clause-threaded c = c.link.ensures.after.threaded

pub link-requires-2-clause-within : goal.link-requires-2-clause-within
link-requires-2-clause-within c = subst (λ (n : ℕ). 0 < n) (sym c.link.ensures.same.lists) c.requires.within

pub link-requires-2-clause-half_within : goal.link-requires-2-clause-half_within
link-requires-2-clause-half_within c =
    let len : length c.args.self.now.halves ≡ length (take c.args.at c.args.self.now.halves) + 2 = ap length c.requires.is ∙ length-append (take c.args.at c.args.self.now.halves) free_row in
    omega (arith, c.requires.len, c.link.ensures.half_count)
