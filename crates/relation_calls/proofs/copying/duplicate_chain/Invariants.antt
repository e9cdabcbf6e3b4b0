use Rattle.std.proofs.Common.{◌≡◌, take}
use Rattle.relation_calls.specs.Names.{chain_named}
use Rattle.relation_calls.proofs.copying.duplicate_chain.Given as goal

abbrev pub invariant-loop-name : goal.invariant-loop-name
invariant-loop-name l = chain_named l.names ≡ chain_named (take l.name-index l.chain)
