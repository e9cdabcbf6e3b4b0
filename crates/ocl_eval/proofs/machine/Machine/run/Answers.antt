use Rattle.std.proofs.Common.{◌≡◌, length, sym, ◌∙◌, ap, arith}
use Rattle.ocl_eval.specs.Frames.{Wanted, standing, stack_outcome, outcome}
use Rattle.ocl_eval.specs.Worlds.{with_calls, meaning_of}
use Rattle.ocl_eval.proofs.FrameLaws.{pushed}
use Rattle.ocl_eval.proofs.QueryLaws.{led_by_outcomes, led_to_end}
use Rattle.ocl_eval.proofs.machine.Machine.run.Goals as goal
use Rattle.ocl_eval.proofs.machine.Machine.run.Goals.{in-Part+in_ok-control-in-Part, in-Calls+in_ok-control-in-Calls, in-Query+in_ok-control-in-Query, in-Value+in-Some+in_ok-control-in-Some}

pub loop-preserved : goal.loop-preserved
loop-preserved c =
    let m = c.loop.self in
    let to = c.match-control.control in
    let w0 = c.args.self.now.world in
    let wanted : Wanted = record { calls = w0.calls; scope = c.args.self.now.scope; out = meaning_of w0 c.args.part.now c.args.self.now.scope } in
    elim c.match-control.branch [
      | in-Part+in_ok-control-in-Part w ↦
          led_by_outcomes w0 wanted _ _
          (λ n. ap (λ k. outcome n k to) w.self-is ∙ ap (outcome n w.enter.new.self) w.control-is ∙ w.in_ok-control-in-Part.ensures n ∙ sym (ap (outcome n m) w.in-Part.is)) c.loop.invariant
      | in-Calls+in_ok-control-in-Calls w ↦
          led_by_outcomes w0 wanted _ _
          (λ n. ap (λ k. outcome n k to) w.self-is ∙ ap (outcome n w.make_calls.new.self) w.control-is ∙ w.in_ok-control-in-Calls.ensures n ∙ sym (ap (outcome n m) w.in-Calls.is))
          c.loop.invariant
      | in-Query+in_ok-control-in-Query w ↦
          led_by_outcomes w0 wanted _ _ (λ n. ap (λ k. outcome n k to) w.self-is ∙ ap (outcome n w.call_query.new.self) w.control-is)
          (w.in_ok-control-in-Query.ensures w0 wanted (led_by_outcomes w0 wanted _ _ (λ n. sym (ap (outcome n m) w.in-Query.is)) c.loop.invariant))
      | in-Value+in-Some+in_ok-control-in-Some w ↦
          led_by_outcomes w0 wanted _ _ (λ n. ap (λ k. outcome n k to) w.self-is ∙ ap (outcome n w.hand_on.new.self) w.control-is)
          (w.in_ok-control-in-Some.ensures w0 wanted
          (led_by_outcomes w0 wanted _ _
          (λ n. sym (ap (outcome n m) w.in-Value.is
          ∙ ap (λ xs. stack_outcome (with_calls m.world 0) m.memo xs (standing n m w.in-Value.out)) w.in-Some.ensures.items
          ∙ pushed (with_calls m.world 0) m.memo w.pop.new.self.items w.in-Some.top (standing n m w.in-Value.out)))
          c.loop.invariant))
    ]

pub returns-in-None-clause-value : goal.returns-in-None-clause-value
returns-in-None-clause-value c =
    let m = c.loop.self in
    let w0 = c.args.self.now.world in
    let wanted : Wanted = record { calls = w0.calls; scope = c.args.self.now.scope; out = meaning_of w0 c.args.part.now c.args.self.now.scope } in
    let none : length m.stack.items ≡ 0 = omega (arith, c.in-None.ensures.cases.0, m.stack.ok.0) in
    (led_to_end m c.in-Value.out w0 wanted none (led_by_outcomes w0 wanted _ _ (λ n. sym (ap (outcome n m) c.in-Value.is)) c.loop.invariant)).0

pub returns-in-None-clause-scope : goal.returns-in-None-clause-scope
returns-in-None-clause-scope c =
    let m = c.loop.self in
    let w0 = c.args.self.now.world in
    let wanted : Wanted = record { calls = w0.calls; scope = c.args.self.now.scope; out = meaning_of w0 c.args.part.now c.args.self.now.scope } in
    let none : length m.stack.items ≡ 0 = omega (arith, c.in-None.ensures.cases.0, m.stack.ok.0) in
    (led_to_end m c.in-Value.out w0 wanted none (led_by_outcomes w0 wanted _ _ (λ n. sym (ap (outcome n m) c.in-Value.is)) c.loop.invariant)).1
