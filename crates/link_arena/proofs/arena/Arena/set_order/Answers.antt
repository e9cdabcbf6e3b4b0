use Rattle.std.proofs.Common.{arith, ◌≡◌, ◌∙◌, ℕ, set, ap, length, subst, sym, IsPermutation}
use Rattle.std.proofs.lemmas.List.{with_items_is}
use Rattle.std.specs.Vec.{vec_capacity, with_items}
use Rattle.link_arena.specs.Links.{Linkage, with_links, others_of}
use Rattle.link_arena.specs.Twins.{links, IsRoomy}
use Rattle.link_arena.proofs.Found.{length_links}
use Rattle.link_arena.proofs.Roomy.{roomy_same}
use Rattle.link_arena.proofs.arena.Arena.set_order.Goals as goal

pub returns : goal.returns
returns c =
    let was : Linkage =
    record { links = links c.self.inside.joins.heads c.self.inside.joins.halves; spare_ends = c.self.inside.spare_ends; spare_joins = c.self.inside.spare_joins } in
    ap (with_links was) c.reorder.ensures.view ∙ ap (λ (v : Linkage). with_links v (set v.links c.args.end c.args.order.now)) c.self.view_is

pub reorder-requires-clause-arena : goal.reorder-requires-clause-arena
reorder-requires-clause-arena c = c.self.invariant.arena

pub reorder-requires-clause-within : goal.reorder-requires-clause-within
reorder-requires-clause-within c =
    omega (arith, length_links c.self.inside.joins.heads c.self.inside.joins.halves, ap (λ (v : Linkage). length v.links) c.self.view_is, c.requires.within)

pub reorder-requires-clause-room : goal.reorder-requires-clause-room
reorder-requires-clause-room c = omega (arith, ap length c.as_mut_slice.ensures.value, c.self.invariant.marked)

pub reorder-requires-clause-same : goal.reorder-requires-clause-same
reorder-requires-clause-same c =
    subst (λ (v : Linkage). IsPermutation c.args.order.now (others_of v.links c.args.end)) (sym c.self.view_is) c.requires.same

pub invariant_of-self : goal.invariant_of-self
invariant_of-self c =
    let marks : length c.reorder.new.marks ≡ c.self.inside.marks.len = omega arith in
    let count : length (with_items c.self.inside.marks c.reorder.new.marks).items ≡ length c.self.inside.marks.items =
    omega (
      arith,
      ap length (with_items_is c.self.inside.marks c.reorder.new.marks marks),
      ap length c.as_mut_slice.ensures.value,
      c.as_mut_slice.ensures.len,
      marks,
    ) in
    subst (λ (n : ℕ). IsRoomy c.reorder.new.self n (vec_capacity c.self.inside.marks) c.self.inside.spare_ends c.self.inside.spare_joins) (sym count)
    (roomy_same c.self.inside.joins c.reorder.new.self _ _ _ _ c.self.inside.spare_joins c.self.invariant c.reorder.ensures.arena c.reorder.ensures.same
    (omega (arith, c.self.invariant.joins, c.reorder.ensures.free)))
