use Rattle.std.proofs.Common.{◌≡◌, take}
use Rattle.relation_calls.proofs.call_key.keys_of.Given as goal

abbrev pub invariant-loop-value : goal.invariant-loop-value
invariant-loop-value l = l.keys.items ≡ take l.value-index l.values
