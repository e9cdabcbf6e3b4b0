use Rattle.std.proofs.Common.{arith, ◌≡◌, ◌<◌, ◌+◌, ◌∙◌, length, map, ap, sym, subst}
use Rattle.link_arena.specs.declared.half.Head.{Head}
use Rattle.link_arena.specs.Links.{Linkage, others_of, IsSimple}
use Rattle.link_arena.specs.Lists.{list_of, owners}
use Rattle.link_arena.specs.Twins.{links, other, IsListed}
use Rattle.link_arena.proofs.Found.{length_links}
use Rattle.link_arena.proofs.Simple.{simple}
use Rattle.link_arena.proofs.InOrder.{end_listed, view_at}
use Rattle.link_arena.proofs.arena.Arena.others.Goals as goal

pub head-requires : goal.head-requires
head-requires c = omega (arith, length_links c.self.inside.joins.heads c.self.inside.joins.halves, ap (λ (v : Linkage). length v.links) c.self.view_is, c.requires)

pub new-requires : goal.new-requires
new-requires c =
    let count : length (links c.self.inside.joins.heads c.self.inside.joins.halves) ≡ length c.args.self.now.links = ap (λ (v : Linkage). length v.links) c.self.view_is in
    let within : c.args.end + 1 < length c.self.inside.joins.heads = omega (arith, length_links c.self.inside.joins.heads c.self.inside.joins.halves) in
    subst (λ (h : Head). IsListed c.self.inside.joins.halves (list_of c.self.inside.joins.halves h)) (sym c.head.ensures)
    (end_listed c.self.inside.joins.heads c.self.inside.joins.halves c.self.invariant.arena c.args.end (c.args.end + 1) (omega arith) within)

pub returns-clause-list : goal.returns-clause-list
returns-clause-list c =
    let count : length (links c.self.inside.joins.heads c.self.inside.joins.halves) ≡ length c.args.self.now.links = ap (λ (v : Linkage). length v.links) c.self.view_is in
    let within : c.args.end + 1 < length c.self.inside.joins.heads = omega (arith, length_links c.self.inside.joins.heads c.self.inside.joins.halves) in
    c.new.ensures
    ∙ (ap (λ (h : Head). map (other (owners c.self.inside.joins.halves)) (list_of c.self.inside.joins.halves h)) c.head.ensures
    ∙ (sym (view_at c.self.inside.joins.heads c.self.inside.joins.halves c.args.end (c.args.end + 1) (omega arith) within)
    ∙ ap (λ (v : Linkage). others_of v.links c.args.end) c.self.view_is))

pub returns-clause-simple : goal.returns-clause-simple
returns-clause-simple c = subst (λ (v : Linkage). IsSimple v.links) c.self.view_is (simple c.self.inside.joins.heads c.self.inside.joins.halves c.self.invariant.arena)
