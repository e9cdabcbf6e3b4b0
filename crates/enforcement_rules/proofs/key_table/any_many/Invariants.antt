use Rattle.std.proofs.Common.{◌≡◌, drop}
use Rattle.std.specs.List.{list_any}
use Rattle.enforcement_rules.specs.KeyTests.{is_many_prop}
use Rattle.enforcement_rules.proofs.key_table.any_many.Given as goal

abbrev pub invariant-loop-p : goal.invariant-loop-p
invariant-loop-p l = list_any (is_many_prop l.meta) (drop l.p-index l.props) ≡ list_any (is_many_prop l.meta) l.props
