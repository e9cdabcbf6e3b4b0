use Rattle.std.proofs.Common.{◌≡◌, drop}
use Rattle.mof_metamodel.specs.MetaFaults.{first_of, unless, is_prop_name, qualified}
use Rattle.mof_metamodel.proofs.checks.bad_prop_name.Given as goal

-- nothing is found so far
abbrev pub invariant-loop-prop : goal.invariant-loop-prop
invariant-loop-prop l = first_of (λ p. unless (is_prop_name p.name) (qualified l.outer p.name)) (drop l.prop-index l.props) ≡ first_of (λ p. unless (is_prop_name p.name) (qualified l.outer p.name)) l.props
