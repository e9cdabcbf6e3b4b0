use Rattle.std.proofs.Common.{◌≡◌}
use Rattle.std.specs.List.{fold}
use Rattle.ocl_eval.specs.declared.spelling.Spelling.TheVariants.{Start}
use Rattle.ocl_eval.specs.Spellings.{spelled_on}
use Rattle.ocl_eval.proofs.spelling.to_integer.Given as goal

abbrev pub invariant-loop-c : goal.invariant-loop-c
invariant-loop-c l = l.so_far ≡ fold spelled_on Start l.yielded
