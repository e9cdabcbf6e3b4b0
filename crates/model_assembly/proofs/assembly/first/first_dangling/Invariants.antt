use Rattle.std.proofs.Common.{◌≡◌, take, false}
use Rattle.std.specs.Prelude.{All}
use Rattle.model_assembly.specs.AssemblyFirsts.{is_dangling}
use Rattle.model_assembly.proofs.assembly.first.first_dangling.Given as goal

-- none so far
abbrev pub invariant-loop-i : goal.invariant-loop-i
invariant-loop-i l = All (λ e. is_dangling l.meta l.classes e ≡ false) (take l.i l.entries)
