use Rattle.std.proofs.Common.{◌≡◌, drop}
use Rattle.xmi_profile.specs.Judging.{attrs_fault}
use Rattle.xmi_profile.specs.Scanning.{pairs_of}
use Rattle.xmi_profile.proofs.judging.Judge.attrs_fault.Given as goal

abbrev pub invariant-loop-number : goal.invariant-loop-number
invariant-loop-number l =
    attrs_fault l.self.meta.now l.self.ids.now l.element l.number (pairs_of (drop l.number l.attrs)) ≡ attrs_fault l.self.meta.now l.self.ids.now l.element 0 (pairs_of l.attrs)
