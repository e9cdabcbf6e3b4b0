use Rattle.std.proofs.Common.{◌≡◌, ◌≤◌, ◌-◌, length, take}
use Rattle.vault_io.specs.Sinks.{appended}
use Rattle.vault_io.proofs.printing.print_all.Given as goal

abbrev pub invariant-loop-done : goal.invariant-loop-done
invariant-loop-done g l =
    let told = g.K.Sink.told in
    let faults = g.K.Sink.faults in
    record {
      within : l.done ≤ length l.bytes;
      bytes : told l.out ≡ appended (told l.fn.out) (take l.done l.bytes);
      later : faults l.fn.out ≤ faults l.out;
    }

abbrev pub decreases-loop-done : goal.decreases-loop-done
decreases-loop-done g l = length l.bytes - l.done
