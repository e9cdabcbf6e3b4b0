use Rattle.std.proofs.Common.{◌≡◌, map, take}
use Rattle.mof_metamodel.proofs.duplicates.literals_of.Given as goal

-- the literals so far
abbrev pub invariant-loop-literal : goal.invariant-loop-literal
invariant-loop-literal l = map (λ n. n.now) l.names.items ≡ take l.literal-index l.literals
