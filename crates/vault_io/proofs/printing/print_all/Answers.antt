use Rattle.std.proofs.Common.{arith, ap, ◌∙◌, ◌≡◌, ◌-◌, length, length-drop, take, drop}
use Rattle.std.proofs.lemmas.List.{take_all}
use Rattle.vault_io.specs.Sinks.{appended}
use Rattle.vault_io.proofs.Steps.{appended_on}
use Rattle.vault_io.proofs.printing.print_all.Goals as goal

pub loop-done-preserved : goal.loop-done-preserved
loop-done-preserved g c =
    let took = c.in_ok-done.ensures.bytes in
    let rest = drop c.loop-done.done c.args.bytes.now in
    let all : take (length c.args.bytes.now - c.loop-done.done) rest ≡ rest =
    take_all _ _ (omega (arith, length-drop c.loop-done.done c.args.bytes.now)) in
    record {
      within = omega (arith, ap length all, took.within, length-drop c.loop-done.done c.args.bytes.now);
      bytes = took.bytes ∙ ap (λ xs. appended (g.K.Sink.told c.loop-done.out) (take c.in_ok-done.field-0 xs)) all
          ∙ ap (λ told. appended told (take c.in_ok-done.field-0 rest)) c.loop-done.invariant.bytes
          ∙ appended_on (g.K.Sink.told c.args.out.now) c.args.bytes.now c.loop-done.done c.in_ok-done.field-0;
      later = omega (arith, c.loop-done.invariant.later, c.write.ensures.faults);
    }
