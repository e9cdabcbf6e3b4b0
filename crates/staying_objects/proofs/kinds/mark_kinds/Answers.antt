use Rattle.std.proofs.Common.{◌+◌, ◌∙◌, arith, subst, sym}
use Rattle.staying_objects.proofs.KindLaws.{AddsBefore, adds-none, adds-yes, adds-no, adds-all}
use Rattle.staying_objects.proofs.kinds.mark_kinds.Goals as goal
use Rattle.staying_objects.proofs.kinds.mark_kinds.Goals.{then-is_kind_of, else-is_kind_of}

pub loop-c-init : goal.loop-c-init
loop-c-init c = adds-none c.args.meta.now c.args.class.0 c.args.marks.now c.requires

pub loop-c-preserved : goal.loop-c-preserved
loop-c-preserved c =
    elim c.if-is_kind_of.branch [
      | then-is_kind_of w ↦
          subst (λ ms. AddsBefore c.args.meta.now c.args.class.0 c.args.marks.now ms (c.loop-c.c + 1)) (sym w.marks-is)
          (adds-yes c.args.meta.now c.args.class.0 c.args.marks.now c.loop-c.marks c.loop-c.c c.loop-c.invariant
          (omega (arith, c.loop-c-test.true, c.class_count-c-end.ensures.count))
          (sym c.is_kind_of.ensures ∙ w.if-is_kind_of.true))
      | else-is_kind_of w ↦
          subst (λ ms. AddsBefore c.args.meta.now c.args.class.0 c.args.marks.now ms (c.loop-c.c + 1)) (sym w.marks-is)
          (adds-no c.args.meta.now c.args.class.0 c.args.marks.now c.loop-c.marks c.loop-c.c c.loop-c.invariant
          (sym c.is_kind_of.ensures ∙ w.if-is_kind_of.false))
    ]

pub returns : goal.returns
returns c = adds-all c.args.meta.now c.args.class.0 c.args.marks.now c.loop-c.marks c.loop-c.c c.loop-c.invariant (omega arith)
