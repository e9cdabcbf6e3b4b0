use Rattle.std.proofs.Common.{◌≡◌, ◌++◌, take}
use Rattle.std.specs.List.{flat_map}
use Rattle.enforcement_rules.specs.ReaderTests.{mention_rules}
use Rattle.enforcement_rules.proofs.readers.put_mentions.Given as goal

abbrev pub invariant-loop-mention : goal.invariant-loop-mention
invariant-loop-mention l = l.rules ≡ l.fn.rules ++ flat_map (mention_rules l.program l.meta l.q) (take l.mention-index l.found)
