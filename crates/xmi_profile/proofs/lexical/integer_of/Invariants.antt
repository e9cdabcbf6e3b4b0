use Rattle.std.proofs.Common.{◌≡◌}
use Rattle.std.specs.List.{fold}
use Rattle.xmi_profile.specs.Lexical.{IsSmall, Start, scan_on}
use Rattle.xmi_profile.proofs.lexical.integer_of.Given as goal

abbrev pub invariant-loop-c : goal.invariant-loop-c
invariant-loop-c l = record {
  scan : l.scan ≡ fold scan_on Start l.yielded;
  small : IsSmall l.scan;
}
