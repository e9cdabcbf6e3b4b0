use Rattle.std.proofs.Common.{take}
use Rattle.template_match.specs.Search.{values_of}
use Rattle.relation_calls.specs.Tables.{HasRow, AreKept}
use Rattle.relation_calls.proofs.TableLaws.{EachHas}
use Rattle.relation_calls.proofs.matches.add_rows.Given as goal

abbrev pub invariant-loop-g : goal.invariant-loop-g
invariant-loop-g l = record {
  kept : AreKept l.fn.rows l.rows;
  added : EachHas (HasRow l.domains) l.rows (values_of (take l.g-index l.gs));
}
