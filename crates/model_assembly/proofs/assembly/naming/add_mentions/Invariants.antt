use Rattle.std.proofs.Common.{◌≡◌, ◌++◌, map, take}
use Rattle.model_assembly.specs.AssemblyNamings.{saying_of_mention}
use Rattle.model_assembly.proofs.assembly.naming.add_mentions.Given as goal

-- those so far
abbrev pub invariant-loop-mention : goal.invariant-loop-mention
invariant-loop-mention l = l.sayings.items ≡ l.fn.sayings.items ++ map saying_of_mention (take l.mention-index l.mentions)
