use Rattle.std.proofs.Common.{◌∙◌, ◌∷◌, ◌++◌, [], arith, subst, sym, get_or, take}
use Rattle.mof_metamodel.specs.Tables.{class_numbers}
use Rattle.staying_objects.specs.Kinds.{AreKinds, AddsKinds}
use Rattle.staying_objects.proofs.KindLaws.{kinds-more, kinds-same, kinds_upto}
use Rattle.staying_objects.proofs.kinds.mark_all.Goals as goal
use Rattle.staying_objects.proofs.kinds.mark_all.Goals.{then-not-is_marked, else-not-is_marked}

pub loop-class-preserved : goal.loop-class-preserved
loop-class-preserved c =
    let meta = c.args.meta.now in
    let before = class_numbers (take c.loop-class.class-index c.args.classes.now) in
    let class = (get_or c.args.classes.now c.loop-class.class-index (record { 0 = 0 })).0 in
    kinds_upto meta c.args.classes.now c.loop-class.class-index (record { 0 = 0 }) c.if-not-is_marked.marks (omega arith)
    (elim c.if-not-is_marked.branch [
      | then-not-is_marked w ↦
          kinds-more meta before class c.loop-class.marks c.if-not-is_marked.marks c.loop-class.invariant c.if-not-is_marked.auto.marks
          (subst (λ ms. AddsKinds meta class c.loop-class.marks ms) (sym w.marks-is) w.mark_kinds.ensures)
      | else-not-is_marked w ↦
          subst (λ ms. AreKinds meta (before ++ class ∷ []) ms) (sym w.marks-is)
          (kinds-same meta before class c.loop-class.marks c.loop-class.invariant (sym c.is_marked.ensures ∙ w.if-not-is_marked.false))
    ])
