use Rattle.std.proofs.Common.{sym, ◌∙◌, arith, true, false}
use Rattle.repair_semantics.specs.Reports.{same_slot}
use Rattle.enforce_mode.proofs.ReportLaws.{all_from}
use Rattle.enforce_mode.proofs.reporting.are_same_slots.Goals as goal

pub returns-then-not-is_same_slot : goal.returns-then-not-is_same_slot
returns-then-not-is_same_slot c =
    sym (sym c.loop-p.invariant
    ∙ all_from (same_slot c.args.target.now c.args.made.now c.args.o.0) c.args.props.now c.loop-p.p-index _ false (omega arith)
    (sym c.is_same_slot.ensures ∙ c.if-not-is_same_slot.true))

pub loop-p-preserved : goal.loop-p-preserved
loop-p-preserved c =
    sym (all_from (same_slot c.args.target.now c.args.made.now c.args.o.0) c.args.props.now c.loop-p.p-index _ true (omega arith)
    (sym c.is_same_slot.ensures ∙ c.if-not-is_same_slot.false))
    ∙ c.loop-p.invariant
