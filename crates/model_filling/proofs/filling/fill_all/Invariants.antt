use Rattle.std.proofs.Common.{ℕ, ◌<◌}
use Rattle.object_tables.specs.Validity.{IsPropertyOf}
use Rattle.model_filling.specs.Filling.{IsPartOf, IsFilledAt}
use Rattle.model_filling.proofs.filling.fill_all.Given as goal

-- the objects so far are filled
abbrev pub invariant-loop-o : goal.invariant-loop-o
invariant-loop-o g l =
    let wanted = g.C.Contents.held l.contents in
    record {
      part : IsPartOf wanted l.model;
      filled : (a : ℕ) → a < l.o → (p : ℕ) → IsPropertyOf wanted a p → IsFilledAt wanted l.model a p;
    }
