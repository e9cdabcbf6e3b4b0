use Rattle.std.proofs.Common.{ℕ, ◌++◌, List, ap, subst, sym}
use Rattle.std.specs.Prelude.{All}
use Rattle.std.proofs.lemmas.List.Elements.{All-rest}
use Rattle.object_tables.specs.declared.incoming.Incoming.TheInside.{Inside}
use Rattle.object_tables.specs.Incoming.{IsOfProperty}
use Rattle.object_tables.proofs.incoming.IncomingIterator.next.Goals as goal
use Rattle.object_tables.proofs.incoming.IncomingIterator.next.Goals.{in-Some, in-None+in-Some-next}

pub invariant_of-self-2 : goal.invariant_of-self-2
invariant_of-self-2 c =
    let P : ℕ × ℕ → Type 0 = IsOfProperty c.self.inside.meta.now c.self.inside.tables.now in
    let Q : Inside → Type 0 = λ (i : Inside). All (IsOfProperty i.meta.now i.tables.now) (i.wholes ++ i.others) in
    elim c.match-next.branch [
      | in-Some w ↦
          subst Q (sym w.self-inside-is)
          (All-rest P _ _ _ (ap (λ (l : List (ℕ × ℕ)). l ++ c.self.inside.others) w.in-Some.ensures.steps) c.self.invariant)
      | in-None+in-Some-next w ↦
          let others : All P c.self.inside.others = subst (λ (l : List (ℕ × ℕ)). All P (l ++ c.self.inside.others)) w.in-None.ensures.steps.0 c.self.invariant in
          let left : All P w.next-in-None.new.self = All-rest P _ _ _ w.in-Some-next.ensures.steps others in
          subst Q (sym w.self-inside-is) (subst (λ (l : List (ℕ × ℕ)). All P (l ++ w.next-in-None.new.self)) (sym w.in-None.ensures.steps.1) left)
    ]
