use Rattle.std.proofs.Common.{take}
use Rattle.std.specs.Prelude.{All, ◌<◌, ◌^◌}
use Rattle.enforce_steps.proofs.counting.few_numbers.Given as goal

abbrev pub invariant-loop-number : goal.invariant-loop-number
invariant-loop-number l = All (λ v. v < 2 ^ 32) (take l.number-index l.numbers)
