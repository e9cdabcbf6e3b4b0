use Rattle.std.proofs.Common.{take}
use Rattle.template_match.specs.Search.{values_of}
use Rattle.relation_calls.specs.Tables.{HasPartnersFrom}
use Rattle.relation_calls.proofs.TableLaws.{EachHas}
use Rattle.relation_calls.proofs.matches.rows_from.Given as goal

abbrev pub invariant-loop-seed : goal.invariant-loop-seed
invariant-loop-seed l = EachHas (HasPartnersFrom l.visit.program.now l.visit.models.now l.visit.rel.now l.joins) l.rows (values_of (take l.seed-index l.seeds))
