use Rattle.std.proofs.Common.{◌≡◌, map, take}
use Rattle.template_match.specs.Marks.{with_marks}
use Rattle.staying_objects.proofs.marks.mark_objects.Given as goal

abbrev pub invariant-loop-object : goal.invariant-loop-object
invariant-loop-object l = l.marks ≡ with_marks l.fn.marks (map (λ o. o.0) (take l.object-index l.objects))
