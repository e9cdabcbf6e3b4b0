use Rattle.std.proofs.Common.{arith, ap}
use Rattle.link_arena.specs.Links.{Linkage}
use Rattle.object_tables.proofs.GrowLemmas.{grown_first}
use Rattle.object_tables.proofs.tables.ends.need_no_end.Goals as goal

pub returns-clause-grown : goal.returns-clause-grown
returns-clause-grown c = grown_first _ _ _ _ _ _ _ c.requires (let e = c.len.ensures in let z =
    c.if-len-ne0.false in omega arith) c.in_ok-add_end.ensures.homes (ap (λ (v : Linkage). v.links) c.in_ok-add_end.ensures.arena)
