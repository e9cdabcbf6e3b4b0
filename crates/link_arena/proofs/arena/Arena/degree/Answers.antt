use Rattle.std.proofs.Common.{arith, ◌≡◌, ◌<◌, ◌+◌, ◌∙◌, length, ap, sym}
use Rattle.link_arena.specs.declared.half.Head.{Head}
use Rattle.link_arena.specs.Links.{Linkage, others_of}
use Rattle.link_arena.specs.Twins.{links}
use Rattle.link_arena.proofs.Found.{length_links}
use Rattle.link_arena.proofs.InOrder.{degree_at}
use Rattle.link_arena.proofs.arena.Arena.degree.Goals as goal

pub head-requires : goal.head-requires
head-requires c = omega (arith, length_links c.self.inside.joins.heads c.self.inside.joins.halves, ap (λ (v : Linkage). length v.links) c.self.view_is, c.requires)

pub returns : goal.returns
returns c =
    let count : length (links c.self.inside.joins.heads c.self.inside.joins.halves) ≡ length c.args.self.now.links = ap (λ (v : Linkage). length v.links) c.self.view_is in
    let within : c.args.end + 1 < length c.self.inside.joins.heads = omega (arith, length_links c.self.inside.joins.heads c.self.inside.joins.halves) in
    ap (λ (h : Head). h.len) c.head.ensures
    ∙ (sym (degree_at c.self.inside.joins.heads c.self.inside.joins.halves c.args.end (c.args.end + 1) (omega arith) within)
    ∙ ap (λ (v : Linkage). length (others_of v.links c.args.end)) c.self.view_is)
