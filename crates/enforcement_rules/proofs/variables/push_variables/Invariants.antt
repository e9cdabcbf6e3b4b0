use Rattle.std.proofs.Common.{◌≡◌, ◌++◌, take}
use Rattle.enforcement_rules.specs.Mentions.{variables_among}
use Rattle.enforcement_rules.proofs.variables.push_variables.Given as goal

abbrev pub invariant-loop-mention : goal.invariant-loop-mention
invariant-loop-mention l = l.out ≡ l.fn.out ++ variables_among l.count (take l.mention-index l.found)
