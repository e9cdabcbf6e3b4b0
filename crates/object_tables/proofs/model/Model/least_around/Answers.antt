use Rattle.std.proofs.Common.{subst, arith}
use Rattle.object_tables.specs.Containment.{IsContainer}
use Rattle.object_tables.proofs.ContainmentLemmas.{cycle-live, cycle-begin, cycle-step, cycle-top}
use Rattle.object_tables.proofs.ClimbLemmas.{round-begin, round-step, round-least, lesser_one}
use Rattle.object_tables.proofs.model.Model.least_around.Goals as goal

pub container-requires : goal.container-requires
container-requires c = c.loop-step.invariant.live

pub loop-step-init : goal.loop-step-init
loop-step-init c = record {
  live = cycle-live c.args.self.now c.args.o.0 c.requires;
  back = cycle-begin c.args.self.now c.args.o.0 c.requires;
  round = round-begin c.args.self.now c.args.o.0 c.requires;
}

pub loop-step-preserved : goal.loop-step-preserved
loop-step-preserved c =
    let m = c.args.self.now in
    let up : IsContainer m c.loop-step.at.0 c.in-Some.container.0 = (c.in-Some.field-0-1.0, c.in-Some.ensures.contained) in
    record {
      live = c.in-Some.ensures.live;
      back = cycle-step m c.loop-step.at.0 c.args.o.0 c.loop-step._step _ c.in-Some.container.0 c.end-step-end.ensures.kept c.loop-step.invariant.back up c.if-container-o.false;
      round = round-step m c.args.o.0 c.loop-step.at.0 c.loop-step.least.0 c.loop-step._step c.in-Some.container.0 c.lesser-least.result.0 c.end-step-end.ensures.kept c.loop-step.invariant.round up
          c.lesser-least.ensures.first c.lesser-least.ensures.second (lesser_one c.loop-step.least c.in-Some.container c.lesser-least.result c.lesser-least.ensures.one);
    }

pub returns-then-container-o : goal.returns-then-container-o
returns-then-container-o c =
    let m = c.args.self.now in
    let up : IsContainer m c.loop-step.at.0 c.in-Some.container.0 = (c.in-Some.field-0-1.0, c.in-Some.ensures.contained) in
    record {
      cycle = c.loop-step.invariant.round.cycle;
      least = round-least m c.args.o.0 c.loop-step.at.0 c.loop-step.least.0 c.loop-step._step c.end-step-end.ensures.kept c.loop-step.invariant.round (subst (λ b. IsContainer m c.loop-step.at.0 b) c.if-container-o.true up);
    }

pub returns-in-None : goal.returns-in-None
returns-in-None c = absurd (cycle-top c.args.self.now c.loop-step.at.0 c.args.o.0 c.loop-step._step _ c.loop-step.invariant.back c.in-None.ensures.top)

pub returns : goal.returns
returns c = let few = c.loop-step.invariant.back.few in let more = c.loop-step.invariant.back.more in let count = c.end-step-end.ensures.number in absurd (omega arith)
