use Rattle.std.proofs.Common.{◌≡◌}
use Rattle.mof_metamodel.specs.Tables.{name_number, table}
use Rattle.mof_metamodel.proofs.prop_names.name_numbers.Given as goal

-- a number for each property so far
abbrev pub invariant-loop-p : goal.invariant-loop-p
invariant-loop-p l = l.numbers.items ≡ table (name_number l.named) l.p
