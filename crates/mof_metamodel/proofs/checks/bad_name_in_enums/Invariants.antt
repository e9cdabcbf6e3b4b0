use Rattle.std.proofs.Common.{◌≡◌, drop}
use Rattle.mof_metamodel.specs.MetaFaults.{first_of, bad_name_in_enum}
use Rattle.mof_metamodel.proofs.checks.bad_name_in_enums.Given as goal

-- nothing is found so far
abbrev pub invariant-loop-one : goal.invariant-loop-one
invariant-loop-one l = first_of bad_name_in_enum (drop l.one-index l.enums) ≡ first_of bad_name_in_enum l.enums
