use Rattle.std.proofs.Common.{◌≡◌, ◌≤◌, take, length}
use Rattle.std.specs.Prelude.{sum_by}
use Rattle.mof_metamodel.proofs.checks.has_few_props.Given as goal

-- the count so far, which is within the limit
abbrev pub invariant-loop-class : goal.invariant-loop-class
invariant-loop-class l = (l.count ≡ sum_by (λ x. length x.props) (take l.class-index l.classes)) × (l.count ≤ 65536)
