use Rattle.std.proofs.Common.{◌≡◌, ◌-◌, List, [], length, ap, sym, subst}
use Rattle.std.specs.Prelude.{MatchOption}
use Rattle.std.proofs.lemmas.Result.{IfOk-weaker, IfErr-weaker}
use Rattle.qvtr_semantics.specs.declared.limits.TheConstants.{MAX_CALLS}
use Rattle.qvtr_semantics.specs.declared.binding.Binding.{Binding}
use Rattle.qvtr_semantics.specs.Templates.{Values}
use Rattle.qvtr_semantics.specs.Calls.{free}
use Rattle.qvtr_semantics.specs.Satisfaction.{Failing}
use Rattle.template_match.specs.Search.{values_of}
use Rattle.relation_calls.specs.declared.name.CallName.{CallName}
use Rattle.relation_calls.specs.Names.{chain_named}
use Rattle.relation_calls.specs.Seen.{AreClean, TopChain}
use Rattle.relation_calls.specs.Faults.{IsFault}
use Rattle.relation_calls.specs.Founds.{IsLeastOf}
use Rattle.relation_calls.specs.Visits.{upto_of, left_of}
use Rattle.relation_calls.specs.Seeds.{AreSeeds, IsAloneFromAny, SeenFromAny, IsLeastFound}
use Rattle.relation_calls.proofs.TopLaws.{top_seeds, top_value, top_clean, top_fault}
use Rattle.relation_calls.proofs.failing.least_failing.Goals as goal

pub least_from-requires-clause-seeds : goal.least_from-requires-clause-seeds
least_from-requires-clause-seeds c =
    let v = c.args.visit.now in
    let are = subst (λ (bs : List Binding). AreSeeds v.program.now v.models.now v.rel.now (values_of bs)) (sym c.as_slice.ensures) c.in_ok-seeds.ensures in
    top_seeds v.program.now v.models.now v.plan.now.rel v.rel.now c.requires.top (values_of c.as_slice.result.now) are

pub returns-clause-value : goal.returns-clause-value
returns-clause-value c =
    let v = c.args.visit.now in
    let are = subst (λ (bs : List Binding). AreSeeds v.program.now v.models.now v.rel.now (values_of bs)) (sym c.as_slice.ensures) c.in_ok-seeds.ensures in
    let all : left_of v ≡ MAX_CALLS = ap (λ (ns : List CallName). MAX_CALLS - length (chain_named ns)) c.requires.first in
    IfOk-weaker c.least_from.result (IsLeastFound v.rel.now.universal (IsAloneFromAny v (values_of c.as_slice.result.now)))
    (λ found. MatchOption found ((b : Values) → ¬ Failing v.program.now v.models.now v.plan.now.rel b) (λ b. IsLeastOf v.program.now v.models.now v.plan.now.rel b.values))
    (λ o least. top_value v.program.now v.models.now v.plan.now.rel v.rel.now c.requires.top (values_of c.as_slice.result.now) are (left_of v) all o least) c.least_from.ensures.value

pub returns-clause-clean : goal.returns-clause-clean
returns-clause-clean c =
    let v = c.args.visit.now in
    let are = subst (λ (bs : List Binding). AreSeeds v.program.now v.models.now v.rel.now (values_of bs)) (sym c.as_slice.ensures) c.in_ok-seeds.ensures in
    let none : upto_of v ≡ [] = ap chain_named c.requires.first in
    IfOk-weaker c.least_from.result (λ o. AreClean (SeenFromAny v (values_of c.as_slice.result.now)))
    (λ o. AreClean (TopChain v.program.now v.models.now (record { rel = v.plan.now.rel; roots = free v.rel.now })))
    (λ o clean. top_clean v.program.now v.models.now v.plan.now.rel v.rel.now c.requires.top (values_of c.as_slice.result.now) are (upto_of v) none clean) c.least_from.ensures.clean

pub returns-clause-fault : goal.returns-clause-fault
returns-clause-fault c =
    let v = c.args.visit.now in
    let are = subst (λ (bs : List Binding). AreSeeds v.program.now v.models.now v.rel.now (values_of bs)) (sym c.as_slice.ensures) c.in_ok-seeds.ensures in
    let none : upto_of v ≡ [] = ap chain_named c.requires.first in
    IfErr-weaker c.least_from.result (IsFault (SeenFromAny v (values_of c.as_slice.result.now)))
    (IsFault (TopChain v.program.now v.models.now (record { rel = v.plan.now.rel; roots = free v.rel.now })))
    (λ e f. top_fault v.program.now v.models.now v.plan.now.rel v.rel.now c.requires.top (values_of c.as_slice.result.now) are (upto_of v) none e f) c.least_from.ensures.fault
