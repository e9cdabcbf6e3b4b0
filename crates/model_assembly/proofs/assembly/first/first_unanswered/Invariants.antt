use Rattle.std.proofs.Common.{◌≡◌, take, false}
use Rattle.std.specs.Prelude.{All}
use Rattle.model_assembly.specs.AssemblyFirsts.{is_unanswered}
use Rattle.model_assembly.proofs.assembly.first.first_unanswered.Given as goal

-- none so far
abbrev pub invariant-loop-i : goal.invariant-loop-i
invariant-loop-i l = All (λ n. is_unanswered l.meta l.namings l.sayings n ≡ false) (take l.i l.namings)
