use Rattle.std.proofs.Common.{arith}
use Rattle.std.proofs.lemmas.Grind.{common_steps}
use Rattle.ocl_types.proofs.typing_collections.given_type.Goals as goal

pub returns-in_err-duplicate-in-Nothing : goal.returns-in_err-duplicate-in-Nothing
returns-in_err-duplicate-in-Nothing c = grind (arith, common_steps)

pub returns-in_err-exactly-in-Index : goal.returns-in_err-exactly-in-Index
returns-in_err-exactly-in-Index c = grind (arith, common_steps)

pub returns-in_err-duplicate-in-Index : goal.returns-in_err-duplicate-in-Index
returns-in_err-duplicate-in-Index c = grind (arith, common_steps)

pub returns-in_ok-duplicate-in-Nothing : goal.returns-in_ok-duplicate-in-Nothing
returns-in_ok-duplicate-in-Nothing c = grind (arith, common_steps)

pub returns-in-Element : goal.returns-in-Element
returns-in-Element c = grind (arith, common_steps)

pub returns-in-Collection : goal.returns-in-Collection
returns-in-Collection c = grind (arith, common_steps)

pub returns-in-SameKind : goal.returns-in-SameKind
returns-in-SameKind c = grind (arith, common_steps)

pub returns-in_ok-duplicate-in-Index : goal.returns-in_ok-duplicate-in-Index
returns-in_ok-duplicate-in-Index c = grind (arith, common_steps)
