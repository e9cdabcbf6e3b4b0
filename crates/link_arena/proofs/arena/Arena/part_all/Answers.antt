use Rattle.std.proofs.Common.{arith, ◌∙◌, ap, length}
use Rattle.link_arena.specs.Links.{Linkage, with_links, all_parted}
use Rattle.link_arena.specs.Twins.{links}
use Rattle.link_arena.proofs.Found.{length_links}
use Rattle.link_arena.proofs.Roomy.{roomy_same}
use Rattle.link_arena.proofs.arena.Arena.part_all.Goals as goal

pub returns : goal.returns
returns c =
    let was : Linkage =
    record { links = links c.self.inside.joins.heads c.self.inside.joins.halves; spare_ends = c.self.inside.spare_ends; spare_joins = c.self.inside.spare_joins } in
    ap (with_links was) c.part_each.ensures.view ∙ ap (λ (v : Linkage). with_links v (all_parted v.links c.args.end)) c.self.view_is

pub part_each-requires-clause-arena : goal.part_each-requires-clause-arena
part_each-requires-clause-arena c = c.self.invariant.arena

pub part_each-requires-clause-within : goal.part_each-requires-clause-within
part_each-requires-clause-within c =
    omega (arith, length_links c.self.inside.joins.heads c.self.inside.joins.halves, ap (λ (v : Linkage). length v.links) c.self.view_is, c.requires)

pub invariant_of-self : goal.invariant_of-self
invariant_of-self c =
    roomy_same c.self.inside.joins c.part_each.new.self _ _ _ _ c.self.inside.spare_joins c.self.invariant c.part_each.ensures.arena c.part_each.ensures.same
    (omega (arith, c.self.invariant.joins, c.part_each.ensures.free))
