use Rattle.std.proofs.Common.{◌≡◌, map, take}
use Rattle.model_files.specs.Described.{prop_of}
use Rattle.model_files.proofs.description.props_of.Given as goal

abbrev pub invariant-loop-p : goal.invariant-loop-p
invariant-loop-p l = l.descs ≡ map (λ p. prop_of l.model l.root.0 p.0) (take l.p-index l.props)
