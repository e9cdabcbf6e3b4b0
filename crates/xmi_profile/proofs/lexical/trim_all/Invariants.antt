use Rattle.std.proofs.Common.{◌≡◌}
use Rattle.std.specs.List.{fold}
use Rattle.xmi_profile.specs.Lexical.{trim_on}
use Rattle.xmi_profile.proofs.lexical.trim_all.Given as goal

abbrev pub invariant-loop-c : goal.invariant-loop-c
invariant-loop-c l = l.trim ≡ fold trim_on l.initial.trim l.yielded
