use Rattle.std.proofs.Common.{◌+◌, ◌*◌}
use Rattle.relation_calls.specs.Memos.{IsTold}
use Rattle.relation_calls.proofs.matches.+tables.Given as goal

abbrev pub decreases-table_anew : goal.decreases-table_anew
decreases-table_anew l = 10 * l.depth + 2

abbrev pub decreases-make_anew : goal.decreases-make_anew
decreases-make_anew l = 10 * l.depth + 3

abbrev pub decreases-make_table : goal.decreases-make_table
decreases-make_table l = 10 * l.depth + 7

abbrev pub decreases-make_tables : goal.decreases-make_tables
decreases-make_tables l = 10 * l.depth + 8

abbrev pub decreases-table_behind : goal.decreases-table_behind
decreases-table_behind l = 10 * l.depth + 9

abbrev pub invariant-make_tables-loop-conjunct : goal.invariant-make_tables-loop-conjunct
invariant-make_tables-loop-conjunct l = IsTold l.visit.program.now l.visit.models.now l.memo
