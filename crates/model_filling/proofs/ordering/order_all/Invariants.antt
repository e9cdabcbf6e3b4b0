use Rattle.std.proofs.Common.{ℕ, ◌<◌}
use Rattle.object_tables.specs.Models.{IsReferenceOf}
use Rattle.model_filling.specs.Filling.{IsFilled, IsOrderedAt}
use Rattle.model_filling.proofs.ordering.order_all.Given as goal

-- the objects so far are in order
abbrev pub invariant-loop-o : goal.invariant-loop-o
invariant-loop-o g l =
    let wanted = g.C.Contents.held l.contents in
    record {
      filled : IsFilled wanted l.model;
      ordered : (a : ℕ) → a < l.o → (p : ℕ) → IsReferenceOf wanted a p → IsOrderedAt wanted l.model a p;
    }
