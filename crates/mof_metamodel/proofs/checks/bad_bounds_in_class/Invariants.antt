use Rattle.std.proofs.Common.{◌≡◌, drop}
use Rattle.mof_metamodel.specs.MetaFaults.{first_of, unless, has_bounds, qualified}
use Rattle.mof_metamodel.proofs.checks.bad_bounds_in_class.Given as goal

-- nothing is found so far
abbrev pub invariant-loop-prop : goal.invariant-loop-prop
invariant-loop-prop l = first_of (λ p. unless (has_bounds p.lower p.upper) (qualified l.class.name p.name)) (drop l.prop-index l.class.props) ≡ first_of (λ p. unless (has_bounds p.lower p.upper) (qualified l.class.name p.name)) l.class.props
