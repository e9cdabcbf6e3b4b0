use Rattle.std.proofs.Common.{ℕ, ◌<◌, ◌+◌, arith, length}
use Rattle.relation_calls.specs.Tables.{HasPartnersFrom}
use Rattle.relation_calls.proofs.StepLaws.{value_here}
use Rattle.relation_calls.proofs.TableLaws.{from_stay, more_have, all_have}
use Rattle.relation_calls.proofs.matches.rows_from.Goals as goal

pub add_from-requires-clause-seed : goal.add_from-requires-clause-seed
add_from-requires-clause-seed c =
    let within : c.loop-seed.seed-index < length c.args.seeds.now = omega arith in
    c.requires.seeds c.seed-item.result.values (value_here c.args.seeds.now c.loop-seed.seed-index c.seed-item.result within c.seed-item.is)

pub loop-seed-preserved : goal.loop-seed-preserved
loop-seed-preserved c =
    let v = c.args.visit.now in
    let i : ℕ = c.loop-seed.seed-index in
    let within : i < length c.args.seeds.now = omega arith in
    more_have (HasPartnersFrom v.program.now v.models.now v.rel.now c.args.joins.now) (from_stay v.program.now v.models.now v.rel.now c.args.joins.now) c.args.seeds.now i c.seed-item.result within
    c.seed-item.is (i + 1) (omega arith) c.loop-seed.rows _ c.in_ok-add_from.ensures.kept c.loop-seed.invariant (c.in_ok-add_from.ensures.added c.if-not-branch.false)

pub returns : goal.returns
returns c =
    let v = c.args.visit.now in
    all_have (HasPartnersFrom v.program.now v.models.now v.rel.now c.args.joins.now) c.loop-seed.rows c.args.seeds.now c.loop-seed.seed-index (omega arith) c.loop-seed.invariant
