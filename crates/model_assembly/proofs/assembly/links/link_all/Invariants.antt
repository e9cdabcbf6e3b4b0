use Rattle.std.proofs.Common.{◌≡◌, drop}
use Rattle.model_assembly.specs.AssemblyLinks.{linked_all, MayBeLinked, ArePairs}
use Rattle.model_assembly.proofs.assembly.links.link_all.Given as goal

-- the links so far, and then those of the rest
abbrev pub invariant-loop-naming : goal.invariant-loop-naming
invariant-loop-naming l = (linked_all l.model (drop l.naming-index l.namings) ≡ linked_all l.fn.model l.namings) × ArePairs l.model l.pairs.set.keys × MayBeLinked l.model (drop l.naming-index l.namings)
    × (l.model.meta ≡ l.fn.model.meta)
