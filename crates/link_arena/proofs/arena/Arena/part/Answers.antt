use Rattle.std.proofs.Common.{arith, ◌<◌, ◌∙◌, length, ap, sym, subst}
use Rattle.std.specs.Prelude.{Contains}
use Rattle.link_arena.specs.Links.{Linkage, with_links, others_of, parted, IsSimple}
use Rattle.link_arena.specs.Twins.{links}
use Rattle.link_arena.proofs.Found.{length_links}
use Rattle.link_arena.proofs.Simple.{simple}
use Rattle.link_arena.proofs.Roomy.{roomy_same}
use Rattle.link_arena.proofs.arena.Arena.part.Goals as goal

pub returns : goal.returns
returns c =
    let was : Linkage =
    record { links = links c.self.inside.joins.heads c.self.inside.joins.halves; spare_ends = c.self.inside.spare_ends; spare_joins = c.self.inside.spare_joins } in
    ap (with_links was) c.part_pair.ensures.view ∙ ap (λ (v : Linkage). with_links v (parted v.links c.args.first c.args.second)) c.self.view_is

pub part_pair-requires-clause-arena : goal.part_pair-requires-clause-arena
part_pair-requires-clause-arena c = c.self.invariant.arena

pub part_pair-requires-clause-second_within : goal.part_pair-requires-clause-second_within
part_pair-requires-clause-second_within c =
    let has : Contains (others_of (links c.self.inside.joins.heads c.self.inside.joins.halves) c.args.first) c.args.second =
    subst (λ (v : Linkage). Contains (others_of v.links c.args.first) c.args.second) (sym c.self.view_is) c.requires in
    let h : c.args.second < length (links c.self.inside.joins.heads c.self.inside.joins.halves) =
    (simple c.self.inside.joins.heads c.self.inside.joins.halves c.self.invariant.arena).within c.args.first c.args.second has in
    omega (arith, length_links c.self.inside.joins.heads c.self.inside.joins.halves)

pub part_pair-requires-clause-first_within : goal.part_pair-requires-clause-first_within
part_pair-requires-clause-first_within c =
    let has : Contains (others_of (links c.self.inside.joins.heads c.self.inside.joins.halves) c.args.first) c.args.second =
    subst (λ (v : Linkage). Contains (others_of v.links c.args.first) c.args.second) (sym c.self.view_is) c.requires in
    let ok : IsSimple (links c.self.inside.joins.heads c.self.inside.joins.halves) = simple c.self.inside.joins.heads c.self.inside.joins.halves c.self.invariant.arena in
    let h : c.args.first < length (links c.self.inside.joins.heads c.self.inside.joins.halves) =
    ok.within c.args.second c.args.first (ok.symmetric c.args.first c.args.second has) in
    omega (arith, length_links c.self.inside.joins.heads c.self.inside.joins.halves)

pub part_pair-requires-clause-named : goal.part_pair-requires-clause-named
part_pair-requires-clause-named c = subst (λ (v : Linkage). Contains (others_of v.links c.args.first) c.args.second) (sym c.self.view_is) c.requires

pub invariant_of-self : goal.invariant_of-self
invariant_of-self c =
    roomy_same c.self.inside.joins c.part_pair.new.self _ _ _ _ c.self.inside.spare_joins c.self.invariant c.part_pair.ensures.arena c.part_pair.ensures.same
    (omega (arith, c.self.invariant.joins, c.part_pair.ensures.free))
