use Rattle.std.proofs.Common.{subst}
use Rattle.link_arena.specs.Links.{Linkage, IsSimple}
use Rattle.link_arena.proofs.Simple.{simple}
use Rattle.link_arena.proofs.arena.Arena.end_count.Goals as goal

pub returns-clause-simple : goal.returns-clause-simple
returns-clause-simple c = subst (λ (v : Linkage). IsSimple v.links) c.self.view_is (simple c.self.inside.joins.heads c.self.inside.joins.halves c.self.invariant.arena)
