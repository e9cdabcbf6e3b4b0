use Rattle.std.proofs.Common.{◌++◌, [], ◌∷◌, refl, subst, rules}
use Rattle.object_tables.specs.Containment.{IsContainer}
use Rattle.object_tables.proofs.ContainmentLemmas.{path-push, path-cycle, cycle-begin, cycle-step, cycle-up, cycle-top}
use Rattle.object_tables.proofs.model.Model.is_on_cycle.Goals as goal

pub loop-step-init : goal.loop-step-init
loop-step-init c = record {
  live = c.requires.live;
  way = ([], refl);
  back = cycle-begin c.args.self.now c.args.o.0;
}

pub loop-step-preserved : goal.loop-step-preserved
loop-step-preserved c =
    let m = c.args.self.now in
    let up : IsContainer m c.loop-step.at.0 c.in-Some.container.0 = (c.in-Some.field-0-1.0, c.in-Some.ensures.contained) in
    let (path, h) = c.loop-step.invariant.way in
    record {
      live = c.in-Some.ensures.live;
      way = (path ++ c.in-Some.container.0 ∷ [], path-push m c.args.o.0 path c.loop-step.at.0 c.in-Some.container.0 h up);
      back = λ cycle. cycle-step m c.loop-step.at.0 c.args.o.0 c.loop-step._step _ c.in-Some.container.0 c.end-step-end.ensures.kept (c.loop-step.invariant.back cycle) up c.if-container-o.false;
    }

pub returns-then-container-o : goal.returns-then-container-o
returns-then-container-o c =
    let m = c.args.self.now in
    let up : IsContainer m c.loop-step.at.0 c.in-Some.container.0 = (c.in-Some.field-0-1.0, c.in-Some.ensures.contained) in
    let (path, h) = c.loop-step.invariant.way in
    ((λ _. path-cycle m c.args.o.0 path c.loop-step.at.0 h (subst (λ b. IsContainer m c.loop-step.at.0 b) c.if-container-o.true up)), (λ _. search rules))

pub returns-then-container-o-2 : goal.returns-then-container-o-2
returns-then-container-o-2 c =
    let m = c.args.self.now in
    let up : IsContainer m c.loop-step.at.0 c.in-Some.container.0 = (c.in-Some.field-0-1.0, c.in-Some.ensures.contained) in
    let (path, h) = c.loop-step.invariant.way in (
      (λ no. absurd (search rules)),
      (λ cycle. absurd (c.requires.before c.in-Some.container.0 c.if-container-o-2.true
          (cycle-up m c.args.o.0 path c.loop-step.at.0 c.loop-step._step _ c.in-Some.container.0 c.end-step-end.ensures.kept h (c.loop-step.invariant.back cycle) up))),
    )

pub returns-in-None : goal.returns-in-None
returns-in-None c = (
  (λ no. absurd (search rules)),
  (λ cycle. absurd (cycle-top c.args.self.now c.loop-step.at.0 c.args.o.0 c.loop-step._step _ (c.loop-step.invariant.back cycle) c.in-None.ensures.top)),
)
