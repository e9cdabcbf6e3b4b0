use Rattle.std.proofs.Common.{◌≡◌, drop}
use Rattle.mof_metamodel.specs.MetaFaults.{first_of, unless, is_name, qualified}
use Rattle.mof_metamodel.proofs.checks.bad_literal.Given as goal

-- nothing is found so far
abbrev pub invariant-loop-literal : goal.invariant-loop-literal
invariant-loop-literal l = first_of (λ t. unless (is_name t) (qualified l.outer t)) (drop l.literal-index l.literals) ≡ first_of (λ t. unless (is_name t) (qualified l.outer t)) l.literals
