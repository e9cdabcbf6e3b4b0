use Rattle.std.proofs.Common.{◌≡◌}
use Rattle.std.specs.Prelude.{None}
use Rattle.mof_metamodel.specs.Tables.{table}
use Rattle.mof_metamodel.proofs.lineages.no_lines.Given as goal

abbrev pub invariant-loop-c : goal.invariant-loop-c
invariant-loop-c l = l.none.items ≡ table (λ _. None) l._c
