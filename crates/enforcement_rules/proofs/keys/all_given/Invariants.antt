use Rattle.std.proofs.Common.{◌≡◌, drop}
use Rattle.std.specs.List.{list_all}
use Rattle.enforcement_rules.specs.KeyTests.{is_given}
use Rattle.enforcement_rules.specs.NumberSets.{has}
use Rattle.enforcement_rules.proofs.keys.all_given.Given as goal

abbrev pub invariant-loop-p : goal.invariant-loop-p
invariant-loop-p l = list_all (is_given (has l.given)) (drop l.p-index l.props) ≡ list_all (is_given (has l.given)) l.props
