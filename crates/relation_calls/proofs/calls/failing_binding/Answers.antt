use Rattle.std.proofs.Common.{◌∙◌, ◌<◌, ℕ, List, length, sym, subst}
use Rattle.std.specs.Prelude.{MatchOption, IfOk}
use Rattle.std.proofs.lemmas.Option.{slice_get_within}
use Rattle.std.proofs.lemmas.Result.{IfOk-weaker, IfErr-weaker}
use Rattle.qv_syntax.specs.declared.program.Rel.{Rel}
use Rattle.qvtr_semantics.specs.declared.binding.Binding.{Binding}
use Rattle.qvtr_semantics.specs.Templates.{Values}
use Rattle.qvtr_semantics.specs.Calls.{free}
use Rattle.qvtr_semantics.specs.Satisfaction.{IsTop, Failing}
use Rattle.relation_calls.specs.declared.name.CallName.{CallName}
use Rattle.relation_calls.specs.Names.{chain_named}
use Rattle.relation_calls.specs.Seen.{AreClean, TopChain}
use Rattle.relation_calls.specs.Faults.{IsFault}
use Rattle.relation_calls.specs.Founds.{IsLeastOf}
use Rattle.relation_calls.specs.Visits.{IsChain}
use Rattle.relation_calls.proofs.AskingLaws.{visited, planned_at}
use Rattle.relation_calls.proofs.RefusalLaws.{no_chain}
use Rattle.relation_calls.proofs.TopLaws.{top_at, clean_at, fault_at}
use Rattle.relation_calls.proofs.calls.failing_binding.Goals as goal

pub plan_of-requires : goal.plan_of-requires
plan_of-requires c = let (rel, top) = c.requires.top in slice_get_within c.args.program.now.rels c.args.number rel top.is

pub bounds-as_slice-number : goal.bounds-as_slice-number
bounds-as_slice-number c =
    let (rel, top) = c.requires.top in
    subst (λ (rs : List Rel). c.args.number < length rs) (sym c.as_slice.ensures) (slice_get_within c.args.program.now.rels c.args.number rel top.is)

pub least_failing-requires-clause-visit : goal.least_failing-requires-clause-visit
least_failing-requires-clause-visit c =
    let (called, top) = c.requires.top in
    let rel = c.index-as_slice-number.result in
    let is = visited c.args.program.now c.args.number called rel c.as_slice.result.now c.as_slice.ensures top.is c.index-as_slice-number.is in
    record {
      formed = c.requires.formed;
      planned = planned_at c.args.program.now c.args.number rel c.in_ok-plan.plan c.in_ok-plan.ensures is;
      chain = subst (λ (ns : List CallName). IsChain (chain_named ns)) (sym (c.as_slice-2.ensures ∙ c.new-none.ensures)) no_chain;
    }

pub least_failing-requires-clause-first : goal.least_failing-requires-clause-first
least_failing-requires-clause-first c = c.as_slice-2.ensures ∙ c.new-none.ensures

pub least_failing-requires-clause-top : goal.least_failing-requires-clause-top
least_failing-requires-clause-top c =
    let (called, top) = c.requires.top in
    let rel = c.index-as_slice-number.result in
    let is = visited c.args.program.now c.args.number called rel c.as_slice.result.now c.as_slice.ensures top.is c.index-as_slice-number.is in
    top_at c.args.program.now c.args.models.now c.args.number c.in_ok-plan.plan.rel called rel top is (c.in_ok-plan.ensures rel is).number_is

pub returns-clause-value : goal.returns-clause-value
returns-clause-value c =
    let (called, top) = c.requires.top in
    subst (λ (n : ℕ). IfOk c.least_failing.result (λ found. MatchOption found ((b : Values) → ¬ Failing c.args.program.now c.args.models.now n b) (λ (b : Binding). IsLeastOf c.args.program.now c.args.models.now n b.values)))
    (c.in_ok-plan.ensures called top.is).number_is c.least_failing.ensures.value

pub returns-clause-clean : goal.returns-clause-clean
returns-clause-clean c =
    let (called, top) = c.requires.top in
    let rel = c.index-as_slice-number.result in
    let is = visited c.args.program.now c.args.number called rel c.as_slice.result.now c.as_slice.ensures top.is c.index-as_slice-number.is in
    IfOk-weaker c.least_failing.result (λ o. AreClean (TopChain c.args.program.now c.args.models.now (record { rel = c.in_ok-plan.plan.rel; roots = free rel })))
    (λ o. (r : Rel) → IsTop c.args.program.now c.args.number r → AreClean (TopChain c.args.program.now c.args.models.now (record { rel = c.args.number; roots = free r })))
    (λ o clean. clean_at c.args.program.now c.args.models.now c.args.number c.in_ok-plan.plan.rel called rel top is (c.in_ok-plan.ensures rel is).number_is clean) c.least_failing.ensures.clean

pub returns-clause-fault : goal.returns-clause-fault
returns-clause-fault c =
    let (called, top) = c.requires.top in
    let rel = c.index-as_slice-number.result in
    let is = visited c.args.program.now c.args.number called rel c.as_slice.result.now c.as_slice.ensures top.is c.index-as_slice-number.is in
    IfErr-weaker c.least_failing.result (IsFault (TopChain c.args.program.now c.args.models.now (record { rel = c.in_ok-plan.plan.rel; roots = free rel })))
    (λ e. (r : Rel) → IsTop c.args.program.now c.args.number r → IsFault (TopChain c.args.program.now c.args.models.now (record { rel = c.args.number; roots = free r })) e)
    (λ e f. fault_at c.args.program.now c.args.models.now c.args.number c.in_ok-plan.plan.rel called rel top is (c.in_ok-plan.ensures rel is).number_is e f) c.least_failing.ensures.fault
