use Rattle.std.proofs.Common.{◌≡◌, ◌∙◌, List, [], sym, ap, subst}
use Rattle.std.specs.Prelude.{◌↔◌, IsTrue}
use Rattle.std.specs.List.{list_any}
use Rattle.std.proofs.lemmas.Result.{err_from_is_err_and}
use Rattle.qvtr_semantics.specs.Calls.{Match}
use Rattle.qvtr_semantics.specs.Chains.{MatchChain}
use Rattle.relation_calls.specs.declared.name.CallName.{CallName}
use Rattle.relation_calls.specs.Faults.{IsFault}
use Rattle.relation_calls.specs.Names.{call_named, chain_named}
use Rattle.relation_calls.specs.Outcomes.{is_partnered}
use Rattle.relation_calls.specs.Visits.{IsChain}
use Rattle.relation_calls.proofs.AskingLaws.{match_value}
use Rattle.relation_calls.proofs.HeldLaws.{linked_first}
use Rattle.relation_calls.proofs.OutsideLaws.{match_chains_clean, match_chains_fault}
use Rattle.relation_calls.proofs.RefusalLaws.{no_chain}
use Rattle.relation_calls.proofs.VisitLaws.{ends_with}
use Rattle.relation_calls.proofs.asking.is_match_anew.Goals as goal

pub explore-requires-clause-chain : goal.explore-requires-clause-chain
explore-requires-clause-chain c = subst (λ (ns : List CallName). IsChain (chain_named ns)) (sym (c.as_slice.ensures ∙ c.new-none.ensures)) no_chain

pub explore-requires-clause-linked : goal.explore-requires-clause-linked
explore-requires-clause-linked c = λ d calls.
    linked_first c.args.program.now c.args.models.now c.as_slice.result.now (c.as_slice.ensures ∙ c.new-none.ensures) d

pub returns-in_err-found-clause-fault : goal.returns-in_err-found-clause-fault
returns-in_err-found-clause-fault c =
    let d = call_named c.args.name.now in
    let none : c.as_slice.result.now ≡ [] = c.as_slice.ensures ∙ c.new-none.ensures in
    let e = c.in_err-found.field-0.0 in
    let p = err_from_is_err_and c.from_residual.result c.from_residual.ensures.1 in
    ends_with (IsFault (MatchChain c.args.program.now c.args.models.now d)) c.from_residual.result e p.0 p.1 (cc p.2)
    (match_chains_fault c.args.program.now c.args.models.now d c.as_slice.result.now none e c.in_err-found.ensures.fault)

pub returns-clause-clean : goal.returns-clause-clean
returns-clause-clean c =
    let none : c.as_slice.result.now ≡ [] = c.as_slice.ensures ∙ c.new-none.ensures in
    match_chains_clean c.args.program.now c.args.models.now (call_named c.args.name.now) c.as_slice.result.now none c.in_ok-found.ensures.clean

pub returns-clause-value : goal.returns-clause-value
returns-clause-value c =
    let d = call_named c.args.name.now in
    let none : c.as_slice.result.now ≡ [] = c.as_slice.ensures ∙ c.new-none.ensures in
    let a = c.requires.askable in
    let found = c.in_ok-found.found in
    subst (λ x. IsTrue x ↔ Match c.args.program.now c.args.models.now d) (sym (c.is_any_partnered.ensures ∙ ap (list_any is_partnered) c.as_slice-2.ensures))
    (match_value c.args.program.now c.args.models.now c.requires.formed a.rel found d c.as_slice.result.now none a.found (c.in_ok-found.ensures.value a.rel a.found))
