use Rattle.std.proofs.Common.{◌<◌, ℕ}
use Rattle.mof_metamodel.specs.Metamodels.{IsCircular}
use Rattle.mof_metamodel.proofs.circles.first_circle.Given as goal

-- no class so far reaches itself
abbrev pub invariant-loop-c : goal.invariant-loop-c
invariant-loop-c l = (d : ℕ) → d < l.c → IsCircular l.hierarchy d → ⊥
