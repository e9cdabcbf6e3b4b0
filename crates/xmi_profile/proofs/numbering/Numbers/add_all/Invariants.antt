use Rattle.std.proofs.Common.{◌≡◌, drop}
use Rattle.xmi_profile.specs.Numbering.{numbered}
use Rattle.xmi_profile.proofs.numbering.Numbers.add_all.Given as goal

abbrev pub invariant-loop-element : goal.invariant-loop-element
invariant-loop-element l = numbered l.self (drop l.element-index l.elements) ≡ numbered l.initial.self l.elements
