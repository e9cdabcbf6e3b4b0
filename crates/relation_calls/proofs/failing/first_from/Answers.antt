use Rattle.std.proofs.lemmas.Result.{err_from_is_err_and}
use Rattle.relation_calls.specs.Faults.{IsFault}
use Rattle.relation_calls.specs.Seeds.{SeenFrom}
use Rattle.relation_calls.proofs.VisitLaws.{ends_with}
use Rattle.relation_calls.proofs.HeldLaws.{linked_first}
use Rattle.relation_calls.proofs.TopLaws.{found_least, found_sources, found_clean, found_fault}
use Rattle.relation_calls.proofs.failing.first_from.Goals as goal

pub outcomes_of-requires-clause-sources : goal.outcomes_of-requires-clause-sources
outcomes_of-requires-clause-sources c =
    let v = c.args.visit.now in
    found_sources v c.args.seed.now.values c.in_ok-bs.bs c.as_slice.result.now c.as_slice.ensures c.in_ok-bs.ensures.enough

pub outcomes_of-requires-clause-linked : goal.outcomes_of-requires-clause-linked
outcomes_of-requires-clause-linked c = λ b has all g target d calls.
    linked_first c.args.visit.now.program.now c.args.visit.now.models.now c.args.visit.now.upto.now c.requires.first d

pub returns-in_err-outcomes-clause-fault : goal.returns-in_err-outcomes-clause-fault
returns-in_err-outcomes-clause-fault c =
    let v = c.args.visit.now in
    let e = c.in_err-outcomes.field-0.0 in
    let p = err_from_is_err_and c.from_residual-in_err-outcomes.result c.from_residual-in_err-outcomes.ensures.1 in
    ends_with (IsFault (SeenFrom v c.args.seed.now.values)) c.from_residual-in_err-outcomes.result e p.0 p.1 (cc p.2)
    (found_fault v c.args.seed.now.values c.in_ok-bs.bs c.as_slice.result.now c.as_slice.ensures c.in_ok-bs.ensures.enough e c.in_err-outcomes.ensures.fault)

pub returns-clause-value : goal.returns-clause-value
returns-clause-value c =
    let v = c.args.visit.now in
    found_least v c.args.seed.now.values c.in_ok-bs.bs c.as_slice.result.now c.as_slice.ensures c.in_ok-bs.ensures.enough
    c.in_ok-bs.ensures.sorted c.in_ok-outcomes.outcomes c.as_slice-3.result.now c.in_ok-outcomes.ensures.value
    c.as_slice-2.result.now c.as_slice-2.ensures c.as_slice-3.ensures c.in_ok-first_alone.field-0 c.in_ok-first_alone.ensures

pub returns-clause-clean : goal.returns-clause-clean
returns-clause-clean c =
    let v = c.args.visit.now in
    found_clean v c.args.seed.now.values c.in_ok-bs.bs c.as_slice.result.now c.as_slice.ensures c.in_ok-bs.ensures.enough c.in_ok-outcomes.ensures.clean
