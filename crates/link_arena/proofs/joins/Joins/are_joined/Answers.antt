use Rattle.link_arena.proofs.Simple.{simple}
use Rattle.link_arena.proofs.joins.Joins.are_joined.Goals as goal

pub returns-else-head : goal.returns-else-head
returns-else-head c = (
  λ t. (simple c.args.self.now.heads c.args.self.now.halves c.requires.arena).symmetric c.args.second c.args.first (c.leads_to-else-head.ensures.0 t),
  λ h. c.leads_to-else-head.ensures.1 ((simple c.args.self.now.heads c.args.self.now.halves c.requires.arena).symmetric c.args.first c.args.second h),
)
