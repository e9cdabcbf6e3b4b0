use Rattle.std.proofs.Common.{ap}
use Rattle.std.proofs.lemmas.Result.{IfOk-weaker}
use Rattle.template_match.specs.Search.{values_of}
use Rattle.relation_calls.proofs.TableLaws.{joined_sources, sources_have}
use Rattle.relation_calls.proofs.matches.add_from.Goals as goal

pub add_all_partners-requires-clause-sources : goal.add_all_partners-requires-clause-sources
add_all_partners-requires-clause-sources c =
    let v = c.args.visit.now in
    joined_sources v.program.now v.models.now v.rel.now c.args.joins.now c.args.seed.now.values (values_of c.in_ok-bs.bs) (values_of c.as_slice.result.now) (ap values_of c.as_slice.ensures)
    (c.in_ok-bs.ensures.exact v.rel.now c.requires.visit.planned)

pub returns-clause-added : goal.returns-clause-added
returns-clause-added c =
    let v = c.args.visit.now in
    IfOk-weaker c.add_all_partners.result _ _
    (λ all added so. sources_have v.program.now v.models.now v.rel.now c.add_all_partners.new.rows c.args.joins.now c.args.seed.now.values (values_of c.in_ok-bs.bs)
    (values_of c.as_slice.result.now) (ap values_of c.as_slice.ensures) (c.in_ok-bs.ensures.exact v.rel.now c.requires.visit.planned) (added so))
    c.add_all_partners.ensures.added
