use Rattle.std.proofs.Common.{◌≡◌}
use Rattle.mof_metamodel.specs.Metamodels.{first_own}
use Rattle.mof_metamodel.specs.Tables.{table}
use Rattle.mof_metamodel.proofs.numbering.first_numbers.Given as goal

-- the next number is how many properties the classes so far own
abbrev pub invariant-loop-class : goal.invariant-loop-class
invariant-loop-class l = (l.next ≡ first_own l.desc l.class-index) × (l.firsts.items ≡ table (first_own l.desc) l.class-index)
