use Rattle.std.proofs.Common.{◌≡◌, drop}
use Rattle.xmi_profile.specs.Filing.{with_elements}
use Rattle.xmi_profile.proofs.filing.Writings.add_elements.Given as goal

abbrev pub invariant-loop-element : goal.invariant-loop-element
invariant-loop-element l =
    with_elements l.filer.meta.now l.filer.numbers.now l.self (drop l.element-index l.elements)
    ≡ with_elements l.filer.meta.now l.filer.numbers.now l.initial.self l.elements
