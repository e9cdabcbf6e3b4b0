use Rattle.std.proofs.Common.{arith}
use Rattle.object_tables.specs.Containment.{IsContainer}
use Rattle.object_tables.proofs.ContainmentLemmas.{live-below}
use Rattle.object_tables.proofs.ClimbLemmas.{marked-within, way-within, way-begin, way-more, way-smaller, way-step, way-marked, way-cycle, way-around, way-met, way-top, last-marked}
use Rattle.object_tables.proofs.model.Model.mark_way.Goals as goal

pub returns-then-mark-stamp-clause-marked : goal.returns-then-mark-stamp-clause-marked
returns-then-mark-stamp-clause-marked c =
    let up : IsContainer c.args.self.now c.loop-container.at.0 c.in-Some.container.0 = (c.in-Some.field-0-1.0, c.in-Some.ensures.contained) in
    way-marked c.args.self.now c.args.marks.now c.loop-container.marks c.args.o.0 c.loop-container.at.0 c.requires.marked c.loop-container.invariant
    (last-marked c.args.self.now c.loop-container.marks c.loop-container.at.0 c.in-Some.container.0 c.end.ensures.kept up (omega arith))

pub returns-then-mark-stamp-clause-cycle : goal.returns-then-mark-stamp-clause-cycle
returns-then-mark-stamp-clause-cycle c =
    let up : IsContainer c.args.self.now c.loop-container.at.0 c.in-Some.container.0 = (c.in-Some.field-0-1.0, c.in-Some.ensures.contained) in
    way-cycle c.args.self.now c.args.marks.now c.loop-container.marks c.args.o.0 c.loop-container.at.0 c.in-Some.container.0 c.requires.marked c.loop-container.invariant up c.if-mark-stamp.true

pub returns-then-mark-stamp-clause-around : goal.returns-then-mark-stamp-clause-around
returns-then-mark-stamp-clause-around c =
    let up : IsContainer c.args.self.now c.loop-container.at.0 c.in-Some.container.0 = (c.in-Some.field-0-1.0, c.in-Some.ensures.contained) in
    way-around c.args.self.now c.args.marks.now c.loop-container.marks c.args.o.0 c.loop-container.at.0 c.in-Some.container.0 c.end.ensures.kept c.loop-container.invariant up

pub returns-then-mark-ne0-clause-marked : goal.returns-then-mark-ne0-clause-marked
returns-then-mark-ne0-clause-marked c =
    let up : IsContainer c.args.self.now c.loop-container.at.0 c.in-Some.container.0 = (c.in-Some.field-0-1.0, c.in-Some.ensures.contained) in
    way-marked c.args.self.now c.args.marks.now c.loop-container.marks c.args.o.0 c.loop-container.at.0 c.requires.marked c.loop-container.invariant
    (last-marked c.args.self.now c.loop-container.marks c.loop-container.at.0 c.in-Some.container.0 c.end.ensures.kept up (omega arith))

pub returns-then-mark-ne0-clause-none : goal.returns-then-mark-ne0-clause-none
returns-then-mark-ne0-clause-none c =
    let up : IsContainer c.args.self.now c.loop-container.at.0 c.in-Some.container.0 = (c.in-Some.field-0-1.0, c.in-Some.ensures.contained) in
    way-met c.args.self.now c.args.marks.now c.loop-container.marks c.args.o.0 c.loop-container.at.0 c.in-Some.container.0 c.end.ensures.kept c.requires.marked c.loop-container.invariant up c.if-mark-stamp.false (omega arith)

pub loop-container-preserved : goal.loop-container-preserved
loop-container-preserved c =
    let up : IsContainer c.args.self.now c.loop-container.at.0 c.in-Some.container.0 = (c.in-Some.field-0-1.0, c.in-Some.ensures.contained) in
    way-step c.args.self.now c.args.marks.now c.loop-container.marks c.args.o.0 c.loop-container.at.0 c.in-Some.container.0 c.end.ensures.kept c.loop-container.invariant up c.in-Some.ensures.live c.if-mark-ne0.false

pub returns-clause-marked : goal.returns-clause-marked
returns-clause-marked c =
    way-marked c.args.self.now c.args.marks.now c.loop-container.marks c.args.o.0 c.loop-container.at.0 c.requires.marked c.loop-container.invariant (λ a up. absurd (c.in_default.ensures.top a up.0 up.1))

pub returns-clause-none : goal.returns-clause-none
returns-clause-none c =
    way-top c.args.self.now c.args.marks.now c.loop-container.marks c.args.o.0 c.loop-container.at.0 c.end.ensures.kept c.loop-container.invariant c.in_default.ensures.top

pub loop-container-init : goal.loop-container-init
loop-container-init c = way-begin c.args.self.now c.args.marks.now c.args.o.0 c.requires.marked c.requires.live c.requires.new

pub loop-container-smaller : goal.loop-container-smaller
loop-container-smaller c = way-smaller c.loop-container.marks c.args.o.0 c.in-Some.container.0 (way-within c.args.self.now c.args.marks.now c.loop-container.marks c.args.o.0 c.loop-container.at.0 c.in-Some.container.0 c.loop-container.invariant c.in-Some.ensures.live) c.if-mark-ne0.false

pub returns-then-mark-stamp-clause-more : goal.returns-then-mark-stamp-clause-more
returns-then-mark-stamp-clause-more c = way-more c.args.self.now c.args.marks.now c.loop-container.marks c.args.o.0 c.loop-container.at.0 c.loop-container.invariant

pub returns-then-mark-stamp-clause-here : goal.returns-then-mark-stamp-clause-here
returns-then-mark-stamp-clause-here c = c.loop-container.invariant.start

pub returns-then-mark-ne0-clause-more : goal.returns-then-mark-ne0-clause-more
returns-then-mark-ne0-clause-more c = way-more c.args.self.now c.args.marks.now c.loop-container.marks c.args.o.0 c.loop-container.at.0 c.loop-container.invariant

pub returns-then-mark-ne0-clause-here : goal.returns-then-mark-ne0-clause-here
returns-then-mark-ne0-clause-here c = c.loop-container.invariant.start

pub returns-clause-more : goal.returns-clause-more
returns-clause-more c = way-more c.args.self.now c.args.marks.now c.loop-container.marks c.args.o.0 c.loop-container.at.0 c.loop-container.invariant

pub returns-clause-here : goal.returns-clause-here
returns-clause-here c = c.loop-container.invariant.start

pub bounds-marks-o : goal.bounds-marks-o
bounds-marks-o c = marked-within c.args.self.now c.args.marks.now c.args.o.0 c.args.o.0 c.requires.marked c.requires.live

pub bounds-marks-container : goal.bounds-marks-container
bounds-marks-container c = way-within c.args.self.now c.args.marks.now c.loop-container.marks c.args.o.0 c.loop-container.at.0 c.in-Some.container.0 c.loop-container.invariant c.in-Some.ensures.live

pub bounds-marks-container-in-Some : goal.bounds-marks-container-in-Some
bounds-marks-container-in-Some c = way-within c.args.self.now c.args.marks.now c.loop-container.marks c.args.o.0 c.loop-container.at.0 c.in-Some.container.0 c.loop-container.invariant c.in-Some.ensures.live

pub overflow_add-stamp : goal.overflow_add-stamp
overflow_add-stamp c = let below = live-below c.args.self.now c.args.o.0 c.requires.live in omega arith
