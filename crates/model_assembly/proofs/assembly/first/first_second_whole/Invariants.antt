use Rattle.std.proofs.Common.{◌≡◌, ◌<◌, ℕ, length}
use Rattle.model_assembly.specs.AssemblyNamings.{IsSecondWhole}
use Rattle.model_assembly.proofs.assembling.FirstLaws.{AreParts}
use Rattle.model_assembly.proofs.assembly.first.first_second_whole.Given as goal

-- none so far, and what makes which object a part
abbrev pub invariant-loop-i : goal.invariant-loop-i
invariant-loop-i l = ((j : ℕ) → j < l.i → IsSecondWhole l.meta l.namings j → ⊥) × (length l.parts ≡ l.count) × AreParts l.meta l.namings l.i l.parts
