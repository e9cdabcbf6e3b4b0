use Rattle.std.proofs.Common.{take}
use Rattle.std.specs.Prelude.{All}
use Rattle.repair_cases.specs.Roots.{IsGiven}
use Rattle.repair_cases.proofs.binding_comparisons.are_given.Given as goal

abbrev pub invariant-loop-dom : goal.invariant-loop-dom
invariant-loop-dom l = All (IsGiven l.roots.values) (take l.dom-index l.domains)
