use Rattle.std.proofs.Common.{◌≡◌, drop}
use Rattle.xmi_profile.specs.Judging.{first_fault}
use Rattle.xmi_profile.proofs.judging.Judge.first_fault.Given as goal

abbrev pub invariant-loop-element : goal.invariant-loop-element
invariant-loop-element l =
    first_fault l.self.meta.now l.self.ids.now l.found (drop l.element-index l.elements) ≡ first_fault l.self.meta.now l.self.ids.now l.fn.found l.elements
