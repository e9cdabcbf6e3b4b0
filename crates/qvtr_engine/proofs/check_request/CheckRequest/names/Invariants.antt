use Rattle.std.proofs.Common.{◌≡◌, map, take}
use Rattle.qvtr_engine.specs.RequestView.{request_view}
use Rattle.qvtr_engine.proofs.check_request.CheckRequest.names.Given as goal

-- the names so far
abbrev pub invariant-loop-i : goal.invariant-loop-i
invariant-loop-i l =
    map (λ t. t.now) l.names.items ≡ map (λ b. b.name) (take l.i (request_view l.self).files)
