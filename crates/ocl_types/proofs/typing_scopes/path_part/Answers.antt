use Rattle.std.proofs.Common.{arith}
use Rattle.std.proofs.lemmas.Grind.{common_steps}
use Rattle.ocl_types.specs.TypingScopes.{path_part}
use Rattle.ocl_types.proofs.typing_scopes.path_part.Goals as goal

pub returns-in-empty : goal.returns-in-empty
unfolding path_part
returns-in-empty c = grind (arith, common_steps)

pub returns-in-len1 : goal.returns-in-len1
unfolding path_part
returns-in-len1 c = grind (arith, common_steps)

pub returns-in-len2-up : goal.returns-in-len2-up
unfolding path_part
returns-in-len2-up c = grind (arith, common_steps)
