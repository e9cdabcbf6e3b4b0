use Rattle.std.proofs.Common.{◌≡◌, map, take}
use Rattle.qvtr_engine.specs.CheckedNames.{name_of}
use Rattle.qvtr_engine.specs.RequestView.{request_view}
use Rattle.qvtr_engine.proofs.input_names.given_names.Given as goal

-- the names so far
abbrev pub invariant-loop-i : goal.invariant-loop-i
invariant-loop-i l = l.given ≡ map name_of (take l.i (request_view l.request).files)
