use Rattle.std.proofs.Common.{take}
use Rattle.template_match.specs.Search.{values_of}
use Rattle.relation_calls.specs.Tables.{HasPartners, AreKept}
use Rattle.relation_calls.proofs.TableLaws.{EachHas}
use Rattle.relation_calls.proofs.matches.add_all_partners.Given as goal

abbrev pub invariant-loop-b : goal.invariant-loop-b
invariant-loop-b l = record {
  kept : AreKept l.fn.rows l.rows;
  added : EachHas (HasPartners l.visit.program.now l.visit.models.now l.visit.rel.now) l.rows (values_of (take l.b-index l.bs));
}
