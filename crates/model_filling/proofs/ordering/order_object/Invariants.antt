use Rattle.std.proofs.Common.{ℕ, ◌<◌}
use Rattle.object_tables.specs.Models.{IsReferenceOf}
use Rattle.model_filling.specs.Filling.{IsOrderedAt, Orders}
use Rattle.model_filling.proofs.PropertyLaws.{prop_in}
use Rattle.model_filling.proofs.ordering.order_object.Given as goal

-- the object is in order at the references so far
abbrev pub invariant-loop-p : goal.invariant-loop-p
invariant-loop-p g l =
    let wanted = g.C.Contents.held l.contents in
    record {
      orders : Orders wanted l.fn.model l.model;
      ordered : (k : ℕ) → k < l.p-index → IsReferenceOf wanted l.o.0 (prop_in l.p-items k) → IsOrderedAt wanted l.model l.o.0 (prop_in l.p-items k);
    }
