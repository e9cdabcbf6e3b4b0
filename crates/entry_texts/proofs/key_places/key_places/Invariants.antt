use Rattle.std.proofs.Common.{take}
use Rattle.entry_texts.specs.Naming.{ArePlaces}
use Rattle.entry_texts.proofs.key_places.key_places.Given as goal

-- the keys so far have their places
abbrev pub invariant-loop-place : goal.invariant-loop-place
invariant-loop-place l = ArePlaces l.program (take l.place l.program.keys) l.places
