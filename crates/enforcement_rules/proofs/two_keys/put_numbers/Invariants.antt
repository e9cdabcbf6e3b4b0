use Rattle.std.proofs.Common.{◌≡◌, ◌++◌, take}
use Rattle.mof_metamodel.specs.Tables.{class_numbers}
use Rattle.enforcement_rules.proofs.two_keys.put_numbers.Given as goal

abbrev pub invariant-loop-c : goal.invariant-loop-c
invariant-loop-c l = l.out ≡ l.fn.out ++ class_numbers (take l.c-index l.classes)
