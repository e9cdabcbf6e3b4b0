use Rattle.std.proofs.Common.{◌≡◌, take}
use Rattle.std.specs.List.{list_any}
use Rattle.model_assembly.proofs.assembly.met.Met.all_of.Given as goal

-- those so far are met
abbrev pub invariant-loop-key : goal.invariant-loop-key
invariant-loop-key g l = (other : g.row.K.Denot) → list_any (g.K.PartialEq.eq other) l.met.set.keys ≡ list_any (g.K.PartialEq.eq other) (take l.key-index l.keys)
