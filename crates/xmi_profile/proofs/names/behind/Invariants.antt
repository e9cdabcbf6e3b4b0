use Rattle.std.proofs.Common.{◌≡◌, None}
use Rattle.std.specs.List.{fold}
use Rattle.xmi_profile.specs.Scanning.{behind_on}
use Rattle.xmi_profile.proofs.names.behind.Given as goal

abbrev pub invariant-loop-c : goal.invariant-loop-c
invariant-loop-c l = l.found ≡ fold (behind_on l.mark) None l.yielded
