use Rattle.std.proofs.Common.{◌≢◌, ◌∙◌, ℕ, subst}
use Rattle.std.specs.Prelude.{Contains}
use Rattle.link_arena.specs.Links.{others_of}
use Rattle.link_arena.specs.Twins.{links}
use Rattle.link_arena.proofs.Simple.{simple}
use Rattle.link_arena.proofs.Parting.{parted_comm}
use Rattle.link_arena.proofs.joins.Joins.part_pair.Goals as goal

pub part_at-requires-else-head-clause-named : goal.part_at-requires-else-head-clause-named
part_at-requires-else-head-clause-named c =
    (simple c.args.self.now.heads c.args.self.now.halves c.requires.arena).symmetric c.args.first c.args.second c.requires.named

pub returns-else-head-clause-view : goal.returns-else-head-clause-view
returns-else-head-clause-view c =
    let P : ℕ → Type 0 = λ (x : ℕ). Contains (others_of (links c.args.self.now.heads c.args.self.now.halves) c.args.first) x in
    let apart : c.args.second ≢ c.args.first =
    λ e. (simple c.args.self.now.heads c.args.self.now.halves c.requires.arena).loopless c.args.first (subst P e c.requires.named) in
    c.part_at-else-head.ensures.view ∙ parted_comm _ c.args.second c.args.first apart
