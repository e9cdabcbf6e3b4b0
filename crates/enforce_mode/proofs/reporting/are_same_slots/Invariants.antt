use Rattle.std.proofs.Common.{◌≡◌, drop}
use Rattle.std.specs.List.{list_all}
use Rattle.mof_metamodel.specs.Tables.{prop_numbers}
use Rattle.repair_semantics.specs.Reports.{same_slot}
use Rattle.enforce_mode.proofs.reporting.are_same_slots.Given as goal

abbrev pub invariant-loop-p : goal.invariant-loop-p
invariant-loop-p l =
    list_all (same_slot l.target l.made l.o.0) (prop_numbers (drop l.p-index l.props))
    ≡ list_all (same_slot l.target l.made l.o.0) (prop_numbers l.props)
