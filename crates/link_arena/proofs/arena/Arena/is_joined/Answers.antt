use Rattle.std.proofs.Common.{arith, ap, length, subst}
use Rattle.std.specs.Prelude.{◌↔◌, IsTrue, Contains}
use Rattle.link_arena.specs.Links.{Linkage, others_of}
use Rattle.link_arena.proofs.Found.{length_links}
use Rattle.link_arena.proofs.arena.Arena.is_joined.Goals as goal

pub are_joined-requires-clause-first_within : goal.are_joined-requires-clause-first_within
are_joined-requires-clause-first_within c =
    omega (arith, length_links c.self.inside.joins.heads c.self.inside.joins.halves, ap (λ (v : Linkage). length v.links) c.self.view_is, c.requires.first_within)

pub are_joined-requires-clause-second_within : goal.are_joined-requires-clause-second_within
are_joined-requires-clause-second_within c =
    omega (arith, length_links c.self.inside.joins.heads c.self.inside.joins.halves, ap (λ (v : Linkage). length v.links) c.self.view_is, c.requires.second_within)

pub returns : goal.returns
returns c = subst (λ (v : Linkage). IsTrue c.are_joined.result ↔ Contains (others_of v.links c.args.first) c.args.second) c.self.view_is c.are_joined.ensures
