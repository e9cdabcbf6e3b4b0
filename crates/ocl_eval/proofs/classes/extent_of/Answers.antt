use Rattle.std.proofs.Common.{◌∙◌}
use Rattle.ocl_eval.proofs.ClassLaws.{one_more, none_more}
use Rattle.ocl_eval.proofs.classes.extent_of.Goals.{then-conforms_at+in_ok-push, else-conforms_at}
use Rattle.ocl_eval.proofs.classes.extent_of.Goals as goal

pub loop-object-preserved : goal.loop-object-preserved
loop-object-preserved c =
    elim c.if-conforms_at.branch [
      | then-conforms_at+in_ok-push w ↦ one_more c.args.model.now c.args.class.0 c.args.number c.loop-object.object c.conforms_at.result c.loop-object.objects c.if-conforms_at.objects
          c.loop-object.invariant c.conforms_at.ensures w.if-conforms_at.true (w.objects-is ∙ w.in_ok-push.ensures.ok)
      | else-conforms_at w ↦ none_more c.args.model.now c.args.class.0 c.args.number c.loop-object.object c.conforms_at.result c.loop-object.objects c.if-conforms_at.objects
          c.loop-object.invariant c.conforms_at.ensures w.if-conforms_at.false w.objects-is
    ]
