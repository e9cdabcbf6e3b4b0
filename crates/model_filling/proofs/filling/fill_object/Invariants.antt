use Rattle.std.proofs.Common.{ℕ, ◌<◌}
use Rattle.model_filling.specs.Filling.{IsFilledAt, Fills}
use Rattle.model_filling.proofs.PropertyLaws.{prop_in}
use Rattle.model_filling.proofs.filling.fill_object.Given as goal

-- the object is filled at the properties so far
abbrev pub invariant-loop-p : goal.invariant-loop-p
invariant-loop-p g l =
    let wanted = g.C.Contents.held l.contents in
    record {
      fills : Fills wanted l.fn.model l.model;
      filled : (k : ℕ) → k < l.p-index → IsFilledAt wanted l.model l.o.0 (prop_in l.p-items k);
    }
