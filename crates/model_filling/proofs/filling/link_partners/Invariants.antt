use Rattle.std.proofs.Common.{ℕ, ◌<◌, get_or}
use Rattle.object_tables.specs.Models.{IsLinked}
use Rattle.model_filling.specs.Filling.{Fills}
use Rattle.model_filling.proofs.filling.link_partners.Given as goal

-- the objects so far are partners
abbrev pub invariant-loop-b : goal.invariant-loop-b
invariant-loop-b g l =
    let wanted = g.C.Contents.held l.contents in
    record {
      fills : Fills wanted l.fn.model l.model;
      linked : (k : ℕ) → k < l.b-index → IsLinked l.model l.p.0 l.o.0 (get_or l.b-items k (record { 0 = 0 })).0;
    }
