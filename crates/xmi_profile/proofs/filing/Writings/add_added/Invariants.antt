use Rattle.std.proofs.Common.{◌≡◌, ◌+◌, drop}
use Rattle.xmi_profile.specs.Filing.{with_added}
use Rattle.xmi_profile.proofs.filing.Writings.add_added.Given as goal

abbrev pub invariant-loop-number : goal.invariant-loop-number
invariant-loop-number l =
    with_added l.filer.meta.now l.class.0 l.self (l.first + l.number) (drop l.number l.ids)
    ≡ with_added l.filer.meta.now l.class.0 l.initial.self l.first l.ids
