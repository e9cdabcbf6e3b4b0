use Rattle.std.proofs.Common.{◌≡◌, drop}
use Rattle.xmi_profile.specs.Filing.{with_class_each}
use Rattle.xmi_profile.proofs.filed_objects.add_class_each.Given as goal

abbrev pub invariant-loop-id : goal.invariant-loop-id
invariant-loop-id l = with_class_each l.class l.classes (drop l.id-index l.ids) ≡ with_class_each l.class l.initial.classes l.ids
