use Rattle.std.proofs.Common.{◌≡◌}
use Rattle.mof_metamodel.specs.Metamodels.{lineage_of}
use Rattle.mof_metamodel.specs.Tables.{table}
use Rattle.mof_metamodel.proofs.lineages.all_lineages.Given as goal

-- a row for each class so far
abbrev pub invariant-loop-c : goal.invariant-loop-c
invariant-loop-c l = l.lineages.items ≡ table (lineage_of l.hierarchy) l.c
