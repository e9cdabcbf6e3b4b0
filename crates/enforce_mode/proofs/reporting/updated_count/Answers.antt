use Rattle.std.proofs.Common.{◌+◌, sym, ap, ◌∙◌, arith}
use Rattle.repair_semantics.specs.Reports.{is_updated}
use Rattle.enforce_mode.proofs.ReportLaws.{counted_with, counted_without}
use Rattle.enforce_mode.proofs.reporting.updated_count.Goals as goal
use Rattle.enforce_mode.proofs.reporting.updated_count.Goals.{then-is_updated, else-is_updated}

pub loop-o-preserved : goal.loop-o-preserved
loop-o-preserved c = elim c.if-is_updated.branch [
  | then-is_updated w ↦ record {
    few = omega arith;
    is = w.count-is ∙ ap (λ k. k + 1) c.loop-o.invariant.is
        ∙ sym (counted_with (is_updated c.args.target.now c.args.made.now) c.loop-o.o (sym c.is_updated.ensures ∙ w.if-is_updated.true));
  }
  | else-is_updated w ↦ record {
    few = omega arith;
    is = w.count-is ∙ c.loop-o.invariant.is
        ∙ sym (counted_without (is_updated c.args.target.now c.args.made.now) c.loop-o.o (sym c.is_updated.ensures ∙ w.if-is_updated.false));
  }
]
