use Rattle.std.proofs.Common.{◌≡◌, drop, []}
use Rattle.xmi_profile.specs.Filing.{with_attrs}
use Rattle.xmi_profile.specs.Scanning.{pairs_of}
use Rattle.xmi_profile.proofs.filing.Writings.add_attrs.Given as goal

abbrev pub invariant-loop-attr : goal.invariant-loop-attr
invariant-loop-attr l =
    with_attrs l.filer.meta.now l.filer.numbers.now l.o l.class.0 l.self l.met (pairs_of (drop l.attr-index l.attrs))
    ≡ with_attrs l.filer.meta.now l.filer.numbers.now l.o l.class.0 l.initial.self [] (pairs_of l.attrs)
