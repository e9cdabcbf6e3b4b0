use Rattle.object_tables.proofs.ConditionLemmas.{rearranged-exactly}
use Rattle.object_tables.proofs.model.contents.are_rearranged.Goals as goal

pub returns : goal.returns
returns c =
    rearranged-exactly c.eq.result _ _ c.in_ok-xs.xs.items c.in_ok-ys.ys.items c.in_ok-xs.ensures.permutation c.in_ok-ys.ensures.permutation c.in_ok-xs.ensures.sorted c.in_ok-ys.ensures.sorted c.eq.ensures
