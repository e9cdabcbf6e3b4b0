use Rattle.std.proofs.Common.{◌≡◌, ◌≤◌, take, length}
use Rattle.std.specs.Prelude.{sum_by}
use Rattle.mof_metamodel.proofs.checks.has_few_literals.Given as goal

-- the count so far, which is within the limit
abbrev pub invariant-loop-one : goal.invariant-loop-one
invariant-loop-one l = (l.count ≡ sum_by (λ x. length x.literals) (take l.one-index l.enums)) × (l.count ≤ 65536)
