use Rattle.std.proofs.Common.{[], ◌∷◌, ◌++◌, ◌≡◌, sym, subst}
use Rattle.std.specs.Prelude.{IfOk, IfErr}
use Rattle.std.proofs.lemmas.Result.{IfErr-weaker}
use Rattle.relation_calls.specs.declared.clause_call.Clause.{Clause}
use Rattle.relation_calls.specs.Faults.{IsFault}
use Rattle.relation_calls.specs.Frames.{IsChainFor}
use Rattle.relation_calls.specs.Names.{call_named, chain_named}
use Rattle.relation_calls.specs.Owing.{MayFollow, SeenByCall}
use Rattle.relation_calls.specs.Seen.{SeenBehind}
use Rattle.relation_calls.specs.Visits.{upto_of}
use Rattle.relation_calls.proofs.AskingLaws.{refused_fault}
use Rattle.relation_calls.proofs.FrameLaws.{when_chain, where_chains}
use Rattle.relation_calls.proofs.stepping.chain_for.Goals as goal

pub longer_chain-requires : goal.longer_chain-requires
longer_chain-requires c = c.requires.visit.chain

pub returns-in-When-clause-chain : goal.returns-in-When-clause-chain
returns-in-When-clause-chain c =
    let v = c.args.visit.now in
    let d = call_named c.args.call.now.name in
    subst (λ (k : Clause). IsChainFor v.program.now v.models.now (upto_of v) k d (chain_named c.new.result)) (sym c.in-When.is)
    (when_chain v.program.now v.models.now (upto_of v) d c.new.result c.new.ensures)

pub returns-in-Where-clause-chain : goal.returns-in-Where-clause-chain
returns-in-Where-clause-chain c =
    let v = c.args.visit.now in
    let d = call_named c.args.call.now.name in
    let linked = subst (λ (k : Clause). MayFollow v.program.now v.models.now (upto_of v) k d) c.in-Where.is c.requires.follows in
    subst (λ (k : Clause). IfOk c.longer_chain.result (λ names. IsChainFor v.program.now v.models.now (upto_of v) k d (chain_named names))) (sym c.in-Where.is)
    (where_chains v.program.now v.models.now (upto_of v) d c.requires.visit.chain linked c.longer_chain.result c.longer_chain.ensures.longer c.longer_chain.ensures.whole)

pub returns-in-Where-clause-fault : goal.returns-in-Where-clause-fault
returns-in-Where-clause-fault c =
    let v = c.args.visit.now in
    let d = call_named c.args.call.now.name in
    subst (λ (k : Clause). IfErr c.longer_chain.result (IsFault (SeenByCall v.program.now v.models.now (upto_of v) k d))) (sym c.in-Where.is)
    (IfErr-weaker c.longer_chain.result (IsFault (λ chain. chain ≡ upto_of v ++ d ∷ [])) (IsFault (SeenBehind v.program.now v.models.now (upto_of v) d))
    (refused_fault v.program.now v.models.now (upto_of v) d) c.longer_chain.ensures.fault)
