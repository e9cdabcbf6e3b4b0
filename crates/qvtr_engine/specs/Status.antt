-- The exit status of the program.
use Rattle.std.specs.Prelude.{ℕ}
use Rattle.qvtr_engine.specs.declared.status.Status.{Status}
use Rattle.qvtr_engine.specs.declared.status.Status.TheVariants.{Done, No, Usage, Fault, Refused, Conflict, Unmet, Chain, Invalid, Limit, NoMemory, NotEnforceable}

abbrev pub code_of : Status → ℕ
code_of Done = 0
code_of No = 1
code_of Usage = 2
code_of Fault = 3
code_of Refused = 4
code_of Conflict = 5
code_of Unmet = 6
code_of Chain = 7
code_of Invalid = 8
code_of Limit = 9
code_of NoMemory = 10
code_of NotEnforceable = 11
