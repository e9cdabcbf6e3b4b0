use Rattle.std.proofs.Common.{◌<◌, ◌∙◌, ap, get_or, length, subst, sym}
use Rattle.link_arena.specs.declared.half.Half.{Half}
use Rattle.link_arena.specs.Lists.{JoinTables, nexts}
use Rattle.link_arena.proofs.Threaded.{get_or-mapped}
use Rattle.link_arena.proofs.joins.Joins.next_of.Goals as goal

pub returns : goal.returns
returns c =
    let within : c.args.at < length c.self.inside.halves.items = subst (λ (j : JoinTables). c.args.at < length j.halves) (sym c.self.view_is) c.requires in
    ap (λ (h : Half). h.next) c.index.ensures
    ∙ (sym (get_or-mapped (λ (h : Half). h.next) c.self.inside.halves.items c.args.at c.index.result.now 0 within)
    ∙ ap (λ (j : JoinTables). get_or (nexts j.halves) c.args.at 0) c.self.view_is)
