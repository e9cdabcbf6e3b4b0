use Rattle.std.proofs.Common.{refl}
use Rattle.link_arena.proofs.half.put_last.Goals as goal

pub returns-clause-len : goal.returns-clause-len
returns-clause-len c = refl
