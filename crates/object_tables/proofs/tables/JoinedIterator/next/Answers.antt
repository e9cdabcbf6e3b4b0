use Rattle.std.proofs.Common.{◌<◌, length}
use Rattle.std.proofs.lemmas.List.Elements.{All-rest, All-same, All-nil}
use Rattle.object_tables.proofs.tables.JoinedIterator.next.Goals as goal
use Rattle.object_tables.proofs.tables.JoinedIterator.next.Goals.{in-Some, in-None}

pub invariant_of-self : goal.invariant_of-self
invariant_of-self c =
    elim c.match-next.branch [
      | in-Some w ↦ All-rest (λ e. e < length c.self.inside.homes.now) _ _ _ w.in-Some.ensures.steps c.self.invariant
      | in-None w ↦ All-same (λ e. e < length c.self.inside.homes.now) _ _ w.in-None.ensures.steps.1 (All-nil (λ e. e < length c.self.inside.homes.now))
    ]
