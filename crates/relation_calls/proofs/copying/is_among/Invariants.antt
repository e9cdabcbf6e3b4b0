use Rattle.std.proofs.Common.{take}
use Rattle.std.specs.Prelude.{Contains}
use Rattle.relation_calls.specs.Names.{call_named, chain_named}
use Rattle.relation_calls.proofs.copying.is_among.Given as goal

abbrev pub invariant-loop-other : goal.invariant-loop-other
invariant-loop-other l = ¬ Contains (chain_named (take l.other-index l.chain)) (call_named l.name)
