use Rattle.std.proofs.Common.{◌+◌, sym, ap, ◌∙◌, arith}
use Rattle.repair_semantics.specs.Reports.{is_removed}
use Rattle.enforce_mode.proofs.ReportLaws.{counted_with, counted_without}
use Rattle.enforce_mode.proofs.reporting.deleted_count.Goals as goal
use Rattle.enforce_mode.proofs.reporting.deleted_count.Goals.{then-is_removed, else-is_removed}

pub loop-o-preserved : goal.loop-o-preserved
loop-o-preserved c = elim c.if-is_removed.branch [
  | then-is_removed w ↦ record {
    few = omega arith;
    is = w.count-is ∙ ap (λ k. k + 1) c.loop-o.invariant.is
        ∙ sym (counted_with (is_removed c.args.target.now c.args.made.now) c.loop-o.o (sym c.is_removed.ensures ∙ w.if-is_removed.true));
  }
  | else-is_removed w ↦ record {
    few = omega arith;
    is = w.count-is ∙ c.loop-o.invariant.is
        ∙ sym (counted_without (is_removed c.args.target.now c.args.made.now) c.loop-o.o (sym c.is_removed.ensures ∙ w.if-is_removed.false));
  }
]
