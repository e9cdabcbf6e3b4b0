use Rattle.std.proofs.Common.{◌≡◌, drop}
use Rattle.mof_metamodel.specs.Tables.{prop_numbers}
use Rattle.xmi_profile.specs.Filing.{with_names}
use Rattle.xmi_profile.proofs.filing.Writings.add_names.Given as goal

abbrev pub invariant-loop-p : goal.invariant-loop-p
invariant-loop-p l =
    with_names l.filer.meta.now l.self l.o l.id (prop_numbers (drop l.p-index l.props))
    ≡ with_names l.filer.meta.now l.initial.self l.o l.id (prop_numbers l.props)
