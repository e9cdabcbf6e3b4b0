use Rattle.std.proofs.Common.{List, subst}
use Rattle.std.specs.Prelude.{Option, IfSome, Contains}
use Rattle.qvtr_semantics.specs.declared.datum.Datum.{Datum}
use Rattle.qvtr_semantics.specs.Templates.{Values}
use Rattle.template_match.specs.Search.{values_of}
use Rattle.relation_calls.specs.Tables.{HasPartnersFrom}
use Rattle.relation_calls.proofs.TableLaws.{table_matches}
use Rattle.relation_calls.proofs.matches.table_from.Goals as goal

pub returns-in_ok-build-in-Some : goal.returns-in_ok-build-in-Some
returns-in_ok-build-in-Some c =
    let v = c.args.visit.now in
    let all = subst (λ (o : Option (List (List Datum))). IfSome o (λ rows. (f : Values) → Contains (values_of c.args.seeds.now) f
    → HasPartnersFrom v.program.now v.models.now v.rel.now c.args.joins.now rows f)) c.in-Some.is c.in_ok-rows.ensures in
    table_matches v.program.now v.models.now c.requires.visit.formed v.plan.now.rel v.rel.now c.requires.visit.planned.found c.args.joins.now c.requires.sound
    (values_of c.args.seeds.now) c.requires.seeds c.in-Some.rows all c.in_ok-build-in-Some.field-0 c.in_ok-build-in-Some.ensures
