-- How many calls in when clauses may stand within one another from a relation (QVT 1.3, section 7.10.2).
use Rattle.std.specs.Prelude.{◌<◌, ℕ}
use Rattle.qv_syntax.specs.declared.program.Program.{Program}
use Rattle.qv_syntax.specs.Relations.{IsCallPath}

-- each path of calls from the relation has fewer than s calls in when clauses
abbrev pub HasFewer : Program → ℕ → ℕ → Type 0
HasFewer program s number = (count : ℕ) → IsCallPath program number count → count < s
