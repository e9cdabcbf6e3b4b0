use Rattle.std.proofs.Common.{ℕ, ◌≡◌, ◌<◌, length, subst, arith}
use Rattle.std.specs.Prelude.{get_or}
use Rattle.std.proofs.lemmas.Result.{on_ok_weaker}
use Rattle.relation_calls.specs.Visits.{upto_of}
use Rattle.relation_calls.proofs.FrameLaws.{taken}
use Rattle.relation_calls.proofs.StepLaws.{value_here}
use Rattle.relation_calls.proofs.stepping.judge_next.Goals as goal

pub judge-requires-clause-source : goal.judge-requires-clause-source
judge-requires-clause-source c =
    let within : c.len-next.result < length c.args.bs.now = omega arith in
    c.requires.sources c.index-bs-next.result.values (value_here c.args.bs.now c.len-next.result c.index-bs-next.result within c.index-bs-next.is)

pub judge-requires-clause-linked : goal.judge-requires-clause-linked
judge-requires-clause-linked c =
    let within : c.len-next.result < length c.args.bs.now = omega arith in
    c.requires.linked c.index-bs-next.result.values (value_here c.args.bs.now c.len-next.result c.index-bs-next.result within c.index-bs-next.is)

pub returns : goal.returns
returns c =
    let v = c.args.visit.now in
    let b = c.index-bs-next.result in
    let bs = c.args.bs.now in
    let old = c.args.progress.now in
    let within : length old.outcomes < length bs = omega (arith, c.len-next.ensures) in
    let is = subst (λ (n : ℕ). b ≡ get_or bs n b) c.len-next.ensures c.index-bs-next.is in
    on_ok_weaker c.take.result
    (taken v.program.now v.models.now (upto_of v) v.rel.now bs old c.take.new.self c.in_ok-judgement.judgement b within is c.requires.progress c.in_ok-judgement.ensures)
    c.take.ensures
