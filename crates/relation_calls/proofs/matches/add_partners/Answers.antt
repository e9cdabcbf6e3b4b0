use Rattle.std.proofs.Common.{List, ap, subst}
use Rattle.std.specs.Prelude.{Contains}
use Rattle.std.proofs.lemmas.Result.{IfOk-weaker}
use Rattle.qv_syntax.specs.declared.program.Dom.{Dom}
use Rattle.qvtr_semantics.specs.Templates.{Values}
use Rattle.template_match.specs.Search.{values_of}
use Rattle.relation_calls.specs.Tables.{HasRow}
use Rattle.relation_calls.proofs.TableLaws.{partners_have}
use Rattle.relation_calls.proofs.matches.add_partners.Goals as goal

pub returns-clause-added : goal.returns-clause-added
returns-clause-added c =
    let v = c.args.visit.now in
    let gs = values_of c.as_slice-2.result.now in
    IfOk-weaker c.add_rows.result _ _
    (λ all added so. partners_have v.program.now v.models.now v.rel.now c.add_rows.new.rows c.args.b.now.values (values_of c.in_ok-gs.gs) gs (ap values_of c.as_slice-2.ensures)
    (c.in_ok-gs.ensures.exact v.rel.now c.requires.visit.planned)
    (subst (λ (ds : List Dom). (g : Values) → Contains gs g → HasRow ds c.add_rows.new.rows g) c.as_slice.ensures (added so)))
    c.add_rows.ensures.added
