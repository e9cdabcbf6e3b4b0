use Rattle.std.proofs.Common.{◌≡◌}
use Rattle.object_tables.specs.Rows.{cleared_upto}
use Rattle.object_tables.proofs.tables.Tables.clear.Given as goal

abbrev pub invariant-loop-k : goal.invariant-loop-k
invariant-loop-k l = l.self ≡ cleared_upto l.initial.self l.o l.k
