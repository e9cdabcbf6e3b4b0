use Rattle.std.proofs.Common.{◌≡◌, ◌++◌, take}
use Rattle.mof_metamodel.specs.Tables.{prop_numbers}
use Rattle.enforcement_rules.proofs.key_cycles.put_numbers.Given as goal

abbrev pub invariant-loop-p : goal.invariant-loop-p
invariant-loop-p l = l.out ≡ l.fn.out ++ prop_numbers (take l.p-index l.props)
