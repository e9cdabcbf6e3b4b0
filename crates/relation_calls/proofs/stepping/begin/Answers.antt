use Rattle.std.proofs.Common.{List, sym, subst}
use Rattle.std.proofs.lemmas.Option.{slice_get_within}
use Rattle.relation_calls.specs.declared.name.CallName.{CallName}
use Rattle.relation_calls.specs.Names.{call_named, chain_named}
use Rattle.relation_calls.specs.Visits.{IsChain, upto_of}
use Rattle.relation_calls.proofs.FrameLaws.{begun}
use Rattle.relation_calls.proofs.stepping.begin.Goals as goal

pub plan_of-requires : goal.plan_of-requires
plan_of-requires c = slice_get_within c.args.visit.now.program.now.rels c.args.call.now.name.rel c.requires.askable.rel c.requires.askable.found

pub called_bindings-requires-clause-chain : goal.called_bindings-requires-clause-chain
called_bindings-requires-clause-chain c = subst (λ (ns : List CallName). IsChain (chain_named ns)) (sym c.as_slice.ensures) c.requires.chain.chain

pub returns-clause-begun : goal.returns-clause-begun
returns-clause-begun c =
    let v = c.args.visit.now in
    let a = c.requires.askable in
    let found = c.in_ok-bindings.ensures.found a.rel a.found in
    begun v.program.now v.models.now (upto_of v) _ (call_named c.args.call.now.name) a.rel c.requires.key (c.in_ok-plan.ensures a.rel a.found) c.requires.chain found.0 found.1
    c.new-progress.ensures.outcomes c.new-progress.ensures.owed c.new-progress.ensures.height c.new-progress.ensures.partners
