use Rattle.std.proofs.Common.{◌≡◌, ◌++◌, ◌-◌}
use Rattle.std.specs.List.{range_with_len}
use Rattle.mof_metamodel.specs.Tables.{prop_numbers}
use Rattle.mof_metamodel.proofs.ordered.add_own.Given as goal

-- the properties so far stand behind the others
abbrev pub invariant-loop-p : goal.invariant-loop-p
invariant-loop-p l = prop_numbers l.order ≡ prop_numbers l.fn.order ++ range_with_len l.first (l.p - l.first)
