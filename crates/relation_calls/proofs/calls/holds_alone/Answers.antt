use Rattle.std.proofs.Common.{◌≡◌, ◌∙◌, ◌-◌, List, [], length, not, sym, ap, subst}
use Rattle.std.specs.Prelude.{◌↔◌, IsTrue}
use Rattle.std.specs.List.{list_any}
use Rattle.std.proofs.lemmas.Result.{err_from_is_err_and}
use Rattle.qvtr_semantics.specs.declared.limits.TheConstants.{MAX_CALLS}
use Rattle.qvtr_semantics.specs.Calls.{Holds}
use Rattle.qvtr_semantics.specs.Chains.{HoldsChain}
use Rattle.relation_calls.specs.declared.name.CallName.{CallName}
use Rattle.relation_calls.specs.Names.{call_named, chain_named}
use Rattle.relation_calls.specs.Seen.{Seen, AreClean}
use Rattle.relation_calls.specs.Faults.{IsFault}
use Rattle.relation_calls.specs.Outcomes.{is_alone}
use Rattle.relation_calls.specs.Founds.{IsFound}
use Rattle.relation_calls.specs.Visits.{IsChain}
use Rattle.relation_calls.proofs.RefusalLaws.{no_chain}
use Rattle.relation_calls.proofs.VisitLaws.{ends_with}
use Rattle.relation_calls.proofs.HeldLaws.{linked_first, linked_behind}
use Rattle.relation_calls.proofs.OutsideLaws.{refused_alone, held_value, held_clean, held_fault}
use Rattle.relation_calls.proofs.calls.holds_alone.Goals as goal

pub longer_chain-requires : goal.longer_chain-requires
longer_chain-requires c = subst (λ (ns : List CallName). IsChain (chain_named ns)) (sym (c.as_slice.ensures ∙ c.new-none.ensures)) no_chain

pub explore-requires-clause-chain : goal.explore-requires-clause-chain
explore-requires-clause-chain c = subst (λ (ns : List CallName). IsChain (chain_named ns)) (sym c.as_slice-2.ensures) c.in_ok-upto.ensures.whole

pub explore-requires-clause-linked : goal.explore-requires-clause-linked
explore-requires-clause-linked c = λ e calls.
    let d = call_named c.args.name.now in
    let none : c.as_slice.result.now ≡ [] = c.as_slice.ensures ∙ c.new-none.ensures in
    linked_behind c.args.program.now c.args.models.now (chain_named c.as_slice.result.now) d e c.as_slice-2.result.now (ap chain_named c.as_slice-2.ensures ∙ c.in_ok-upto.ensures.longer)
    (linked_first c.args.program.now c.args.models.now c.as_slice.result.now none d) calls

pub returns-in_err-upto-clause-fault : goal.returns-in_err-upto-clause-fault
returns-in_err-upto-clause-fault c =
    let d = call_named c.args.name.now in
    let none : c.as_slice.result.now ≡ [] = c.as_slice.ensures ∙ c.new-none.ensures in
    let e = c.in_err-upto.field-0.0 in
    let p = err_from_is_err_and c.from_residual.result c.from_residual.ensures.1 in
    ends_with (IsFault (HoldsChain c.args.program.now c.args.models.now d)) c.from_residual.result e p.0 p.1 (cc p.2)
    (refused_alone c.args.program.now c.args.models.now d c.as_slice.result.now none e c.in_err-upto.ensures.fault)

pub returns-in_err-found-clause-fault : goal.returns-in_err-found-clause-fault
returns-in_err-found-clause-fault c =
    let d = call_named c.args.name.now in
    let none : c.as_slice.result.now ≡ [] = c.as_slice.ensures ∙ c.new-none.ensures in
    let e = c.in_err-found.field-0.0 in
    let p = err_from_is_err_and c.from_residual-in_err-found.result c.from_residual-in_err-found.ensures.1 in
    ends_with (IsFault (HoldsChain c.args.program.now c.args.models.now d)) c.from_residual-in_err-found.result e p.0 p.1 (cc p.2)
    (held_fault c.args.program.now c.args.models.now d c.in_ok-upto.upto c.as_slice.result.now none c.in_ok-upto.ensures.longer c.in_ok-upto.ensures.whole e
    (subst (λ (ns : List CallName). IsFault (Seen c.args.program.now c.args.models.now (chain_named ns) d) e) c.as_slice-2.ensures c.in_err-found.ensures.fault))

pub returns-clause-clean : goal.returns-clause-clean
returns-clause-clean c =
    let d = call_named c.args.name.now in
    let none : c.as_slice.result.now ≡ [] = c.as_slice.ensures ∙ c.new-none.ensures in
    held_clean c.args.program.now c.args.models.now d c.in_ok-upto.upto c.as_slice.result.now none c.in_ok-upto.ensures.longer c.in_ok-upto.ensures.whole
    (subst (λ (ns : List CallName). AreClean (Seen c.args.program.now c.args.models.now (chain_named ns) d)) c.as_slice-2.ensures c.in_ok-found.ensures.clean)

pub returns-clause-value : goal.returns-clause-value
returns-clause-value c =
    let d = call_named c.args.name.now in
    let none : c.as_slice.result.now ≡ [] = c.as_slice.ensures ∙ c.new-none.ensures in
    let a = c.requires.askable in
    let found = c.in_ok-found.found in
    let of = subst (λ (ns : List CallName). IsFound c.args.program.now c.args.models.now (MAX_CALLS - length (chain_named ns)) a.rel d.roots found) c.as_slice-2.ensures (c.in_ok-found.ensures.value a.rel a.found) in
    subst (λ x. IsTrue (not x) ↔ Holds c.args.program.now c.args.models.now d) (sym (c.is_any_alone.ensures ∙ ap (list_any is_alone) c.as_slice-3.ensures))
    (held_value c.args.program.now c.args.models.now d c.in_ok-upto.upto c.as_slice.result.now none c.in_ok-upto.ensures.longer c.in_ok-upto.ensures.whole a.rel found a.found of)
