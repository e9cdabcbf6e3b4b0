use Rattle.std.proofs.Common.{refl}
use Rattle.link_arena.proofs.joins.Joins.leads_to.Goals as goal

pub returns-in-Some : goal.returns-in-Some
returns-in-Some c = (λ yes. c.in-Some.ensures.joined, λ has. refl)
