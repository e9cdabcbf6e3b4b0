use Rattle.std.proofs.Common.{arith}
use Rattle.model_assembly.proofs.assembly.check.depth_fault.Goals as goal

pub returns-else-is_too_deep : goal.returns-else-is_too_deep
returns-else-is_too_deep c = record {
  valid = c.requires;
  depth = λ o d live depth. (let most = c.in_ok-is_too_deep.ensures.most o d live depth in let low = c.if-is_too_deep.false in omega (arith, most, low));
}
