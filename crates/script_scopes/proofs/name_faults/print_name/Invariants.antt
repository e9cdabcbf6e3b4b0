use Rattle.std.proofs.Common.{◌≡◌}
use Rattle.script_scopes.specs.Occurrences.{printed_name}
use Rattle.script_scopes.proofs.name_faults.print_name.Given as goal

abbrev pub invariant-loop-c : goal.invariant-loop-c
invariant-loop-c l = l.out ≡ printed_name l.yielded
