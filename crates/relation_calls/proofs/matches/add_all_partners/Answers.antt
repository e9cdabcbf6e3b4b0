use Rattle.std.proofs.Common.{ℕ, ◌<◌, ◌+◌, arith, length}
use Rattle.relation_calls.specs.Tables.{HasPartners}
use Rattle.relation_calls.proofs.StepLaws.{value_here}
use Rattle.relation_calls.proofs.TableLaws.{partners_stay, more_have, all_have}
use Rattle.relation_calls.proofs.matches.add_all_partners.Goals as goal

pub add_partners-requires-clause-source : goal.add_partners-requires-clause-source
add_partners-requires-clause-source c =
    let within : c.loop-b.b-index < length c.args.bs.now = omega arith in
    c.requires.sources c.b-item.result.values (value_here c.args.bs.now c.loop-b.b-index c.b-item.result within c.b-item.is)

pub loop-b-preserved : goal.loop-b-preserved
loop-b-preserved c =
    let v = c.args.visit.now in
    let i : ℕ = c.loop-b.b-index in
    let within : i < length c.args.bs.now = omega arith in
    record {
      kept = λ row has. c.in_ok-add_partners.ensures.kept row (c.loop-b.invariant.kept row has);
      added = more_have (HasPartners v.program.now v.models.now v.rel.now) (partners_stay v.program.now v.models.now v.rel.now) c.args.bs.now i c.b-item.result within c.b-item.is
          (i + 1) (omega arith) c.loop-b.rows _ c.in_ok-add_partners.ensures.kept c.loop-b.invariant.added (c.in_ok-add_partners.ensures.added c.if-not-branch.false);
    }

pub returns-clause-added : goal.returns-clause-added
returns-clause-added c = λ so.
    let v = c.args.visit.now in
    all_have (HasPartners v.program.now v.models.now v.rel.now) c.loop-b.rows c.args.bs.now c.loop-b.b-index (omega arith) c.loop-b.invariant.added
