use Rattle.std.proofs.Common.{◌≤◌, ◌<◌, ◌≡◌, ◌+◌, ℕ, List, [], ◌∷◌, suc, max, length, take, sym, subst, arith}
use Rattle.std.specs.Prelude.{Some}
use Rattle.qvtr_semantics.specs.declared.limits.TheConstants.{MAX_CALLS}
use Rattle.qv_syntax.specs.declared.program.Conj.{Conj}
use Rattle.relation_calls.specs.Calm.{CallCalm, IsHeightIn}
use Rattle.relation_calls.proofs.CalmLaws.{height_rel, more_heights}
use Rattle.relation_calls.proofs.ListLaws.{all_taken}
use Rattle.relation_calls.proofs.calm.+calm.Goals as goal

few_of_both : (a b most k : ℕ) → k ≡ max a b → a ≤ most → b ≤ most → k ≤ most
few_of_both a b most k is few less = omega arith

pub height_by-returns-in_ok-behind-in-Some-clause-value : goal.height_by-returns-in_ok-behind-in-Some-clause-value
height_by-returns-in_ok-behind-in-Some-clause-value t c = λ number found.
    let p = c.args.visit.now.program.now in
    let rel = c.args.rel.now in
    let whens = subst (λ (cl : List Conj). IsHeightIn p cl (Some c.in-Some.field-0)) c.as_slice.ensures
    (subst (IsHeightIn p c.as_slice.result.now) c.in-Some.is c.in_ok-height_in.ensures.value) in
    let wheres = subst (λ (cl : List Conj). IsHeightIn p cl c.in_ok-behind-in-Some.behind) c.as_slice-in-Some.ensures c.in_ok-behind-in-Some.ensures.value in
    height_rel p rel c.in-Some.field-0 whens c.in_ok-behind-in-Some.behind c.one_more.result wheres c.one_more.ensures number found

pub height_in-loop-conjunct-preserved : goal.height_in-loop-conjunct-preserved
height_in-loop-conjunct-preserved t c =
    let p = c.args.visit.now.program.now in
    let i : ℕ = c.loop-conjunct.conjunct-index in
    let within : i < length c.args.clause.now = omega arith in
    let item = c.conjunct-item.result in
    let here = subst (IsHeightIn p (item ∷ [])) c.in-Some.is c.in_ok-height.ensures.value in
    record {
      few = few_of_both c.loop-conjunct.longest c.in-Some.height (suc MAX_CALLS) c.max-longest.result c.max-longest.ensures c.loop-conjunct.invariant.few here.0;
      calm = subst (λ (k : ℕ). CallCalm p k (take (i + 1) c.args.clause.now)) (sym c.max-longest.ensures)
          (more_heights p c.args.clause.now i (i + 1) item (omega arith) within c.conjunct-item.is c.loop-conjunct.longest c.in-Some.height c.loop-conjunct.invariant.calm here.1);
      told = c.in_ok-height.ensures.told;
    }

pub height_in-returns-clause-value : goal.height_in-returns-clause-value
height_in-returns-clause-value t c =
    let p = c.args.visit.now.program.now in (
      c.loop-conjunct.invariant.few,
      subst (λ (cl : List Conj). CallCalm p c.loop-conjunct.longest cl) (all_taken c.args.clause.now c.loop-conjunct.conjunct-index (omega arith)) c.loop-conjunct.invariant.calm,
    )
