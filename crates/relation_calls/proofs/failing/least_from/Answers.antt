use Rattle.std.proofs.Common.{List, ap, ◌∙◌, ℕ, ◌<◌, ◌+◌, arith, length, sym, subst, refl, take}
use Rattle.std.proofs.lemmas.Result.{err_from_is_err_and}
use Rattle.template_match.specs.Search.{values_of}
use Rattle.relation_calls.specs.Faults.{IsFault}
use Rattle.relation_calls.specs.Seeds.{IsAloneFromAny, SeenFrom, SeenFromAny, IsLeastFound, lesser}
use Rattle.relation_calls.proofs.VisitLaws.{ends_with, clean_no_values}
use Rattle.relation_calls.proofs.StepLaws.{value_here, value_fault, value_clean, values_clean}
use Rattle.relation_calls.proofs.TopLaws.{no_least, next_least, all_least}
use Rattle.relation_calls.proofs.failing.least_from.Goals as goal

pub loop-seed-init : goal.loop-seed-init
loop-seed-init c = record { value = no_least c.args.visit.now _ refl; clean = clean_no_values (SeenFrom c.args.visit.now); told = c.requires.told }

pub first_from-requires-clause-seed : goal.first_from-requires-clause-seed
first_from-requires-clause-seed c =
    let within : c.loop-seed.seed-index < length c.args.seeds.now = omega arith in
    c.requires.seeds c.seed-item.result.values (value_here c.args.seeds.now c.loop-seed.seed-index c.seed-item.result within c.seed-item.is)

pub returns-in_err-first-clause-fault : goal.returns-in_err-first-clause-fault
returns-in_err-first-clause-fault c =
    let v = c.args.visit.now in
    let within : c.loop-seed.seed-index < length c.args.seeds.now = omega arith in
    let e = c.in_err-first.field-0.0 in
    let p = err_from_is_err_and c.from_residual.result c.from_residual.ensures.1 in
    ends_with (IsFault (SeenFromAny v (values_of c.args.seeds.now))) c.from_residual.result e p.0 p.1 (cc p.2)
    (value_fault c.args.seeds.now c.loop-seed.seed-index c.seed-item.result within c.seed-item.is (SeenFrom v) e c.in_err-first.ensures.fault)

pub loop-seed-preserved : goal.loop-seed-preserved
loop-seed-preserved c =
    let v = c.args.visit.now in
    let i : ℕ = c.loop-seed.seed-index in
    let within : i < length c.args.seeds.now = omega arith in
    record {
      value = subst (IsLeastFound v.rel.now.universal (IsAloneFromAny v (values_of (take (i + 1) c.args.seeds.now)))) (sym (c.lesser-least.ensures ∙ ap (λ (vs : List ℕ). lesser vs c.loop-seed.least c.in_ok-first.first) c.as_slice.ensures))
          (next_least v c.args.seeds.now i c.seed-item.result within c.seed-item.is (i + 1) c.loop-seed.least c.in_ok-first.first (omega arith) c.loop-seed.invariant.value c.in_ok-first.ensures.value);
      clean = value_clean c.args.seeds.now i c.seed-item.result within c.seed-item.is (SeenFrom v) (i + 1) (omega arith) c.loop-seed.invariant.clean c.in_ok-first.ensures.clean;
      told = c.in_ok-first.ensures.told;
    }

pub returns-clause-value : goal.returns-clause-value
returns-clause-value c = all_least c.args.visit.now c.args.seeds.now c.loop-seed.seed-index c.loop-seed.least (omega arith) c.loop-seed.invariant.value

pub returns-clause-clean : goal.returns-clause-clean
returns-clause-clean c = values_clean c.args.seeds.now c.loop-seed.seed-index (omega arith) (SeenFrom c.args.visit.now) c.loop-seed.invariant.clean
