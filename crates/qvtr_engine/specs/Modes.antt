-- How a script is executed in the direction towards its target, by the name of the command (QVT 1.3, section 7.2).
use Rattle.std.specs.Prelude.{ℕ, List, codes, Option, Some, None, if◌then◌else◌}
use Rattle.mof_metamodel.specs.Metamodels.{same_name}
use Rattle.qvtr_engine.specs.declared.mode.Mode.{Mode}
use Rattle.qvtr_engine.specs.declared.mode.Mode.TheVariants.{Check, Enforce, Trace}

abbrev pub mode_name : Mode → List ℕ
mode_name Check = codes "check"
mode_name Enforce = codes "enforce"
mode_name Trace = codes "trace"

abbrev pub mode_named : List ℕ → Option Mode
mode_named word =
    if same_name word (codes "check") then Some Check else if same_name word (codes "enforce") then Some Enforce else if same_name word (codes "trace") then Some Trace else None
