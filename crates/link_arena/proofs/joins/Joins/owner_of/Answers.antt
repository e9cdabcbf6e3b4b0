use Rattle.std.proofs.Common.{◌<◌, ◌∙◌, ap, length, subst, sym}
use Rattle.link_arena.specs.declared.half.Half.{Half}
use Rattle.link_arena.specs.Lists.{JoinTables, owner_at}
use Rattle.link_arena.proofs.Threaded.{get_or-mapped}
use Rattle.link_arena.proofs.joins.Joins.owner_of.Goals as goal

pub returns : goal.returns
returns c =
    let within : c.args.at < length c.self.inside.halves.items = subst (λ (j : JoinTables). c.args.at < length j.halves) (sym c.self.view_is) c.requires in
    ap (λ (h : Half). h.owner) c.index.ensures
    ∙ (sym (get_or-mapped (λ (h : Half). h.owner) c.self.inside.halves.items c.args.at c.index.result.now 0 within)
    ∙ ap (λ (j : JoinTables). owner_at j.halves c.args.at) c.self.view_is)
