use Rattle.std.proofs.Common.{◌≡◌, drop}
use Rattle.qvtr_engine.specs.FoundFiles.{item_named}
use Rattle.qvtr_engine.proofs.numbering_inputs.place_of.Given as goal

-- the first of the name is the first of those that are left
abbrev pub invariant-loop-i : goal.invariant-loop-i
invariant-loop-i g l = item_named (drop l.i l.found) l.name ≡ item_named l.found l.name
