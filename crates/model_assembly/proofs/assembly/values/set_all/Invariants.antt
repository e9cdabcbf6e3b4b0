use Rattle.std.proofs.Common.{◌≡◌}
use Rattle.model_assembly.specs.AssemblyValues.{valued}
use Rattle.model_assembly.proofs.assembly.values.set_all.Given as goal

-- the values so far
abbrev pub invariant-loop-i : goal.invariant-loop-i
invariant-loop-i l = l.model ≡ valued l.fn.model l.values l.i
