use Rattle.std.proofs.Common.{◌≡◌, Some}
use Rattle.std.specs.List.{fold}
use Rattle.model_files.specs.Bounds.{spelled_on}
use Rattle.model_files.proofs.bounds.read_digits.Given as goal

abbrev pub invariant-loop-c : goal.invariant-loop-c
invariant-loop-c l = l.so_far ≡ fold spelled_on (Some 0) l.yielded
