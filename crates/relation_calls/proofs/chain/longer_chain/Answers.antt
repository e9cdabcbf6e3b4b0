use Rattle.std.proofs.Common.{sym, ◌∙◌, arith}
use Rattle.std.proofs.lemmas.Bool.{true≢false}
use Rattle.std.proofs.lemmas.List.{length-map}
use Rattle.relation_calls.specs.Names.{call_named, chain_named}
use Rattle.relation_calls.proofs.RefusalLaws.{cycle_fault, deep_fault, longer_chain}
use Rattle.relation_calls.proofs.chain.longer_chain.Goals as goal

pub returns-then-is_among-clause-fault : goal.returns-then-is_among-clause-fault
returns-then-is_among-clause-fault c =
    cycle_fault (chain_named c.args.upto.now) (call_named c.args.name.now) c.in_ok-names.names c.in_ok-names.ensures c.requires (c.is_among.ensures.0 c.if-is_among.true)

pub returns-then-upto-ge-MAX_CALLS-clause-fault : goal.returns-then-upto-ge-MAX_CALLS-clause-fault
returns-then-upto-ge-MAX_CALLS-clause-fault c =
    let long = length-map c.args.upto.now call_named in
    deep_fault (chain_named c.args.upto.now) (call_named c.args.name.now) c.in_ok-names.names c.in_ok-names.ensures c.requires
    (λ h. true≢false (sym (c.is_among.ensures.1 h) ∙ c.if-is_among.false)) (omega (arith, long))

pub returns-clause-whole : goal.returns-clause-whole
returns-clause-whole c =
    let long = length-map c.args.upto.now call_named in
    longer_chain (chain_named c.args.upto.now) (call_named c.args.name.now) c.in_ok-names.names c.in_ok-names.ensures c.requires
    (λ h. true≢false (sym (c.is_among.ensures.1 h) ∙ c.if-is_among.false)) (omega (arith, long))
