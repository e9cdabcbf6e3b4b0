use Rattle.std.proofs.Common.{◌≡◌, drop}
use Rattle.xmi_profile.specs.Filing.{with_classes}
use Rattle.xmi_profile.proofs.filed_objects.add_classes.Given as goal

abbrev pub invariant-loop-element : goal.invariant-loop-element
invariant-loop-element l = with_classes l.classes (drop l.element-index l.elements) ≡ with_classes l.initial.classes l.elements
