use Rattle.std.proofs.Common.{◌≡◌, drop}
use Rattle.std.specs.Prelude.{chars}
use Rattle.xmi_profile.specs.Numbering.{is_used}
use Rattle.xmi_profile.proofs.numbering.is_used.Given as goal

abbrev pub invariant-loop-element : goal.invariant-loop-element
invariant-loop-element l = is_used (drop l.element-index l.elements) (chars l.name) ≡ is_used l.elements (chars l.name)
