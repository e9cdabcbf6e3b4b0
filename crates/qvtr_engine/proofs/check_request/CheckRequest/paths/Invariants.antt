use Rattle.std.proofs.Common.{◌≡◌, ◌∷◌, map, take}
use Rattle.qvtr_engine.specs.RequestView.{request_view}
use Rattle.qvtr_engine.proofs.check_request.CheckRequest.paths.Given as goal

-- the paths so far
abbrev pub invariant-loop-i : goal.invariant-loop-i
invariant-loop-i l =
    map (λ t. t.now) l.paths.items ≡ (request_view l.self).script ∷ map (λ b. b.path) (take l.i (request_view l.self).files)
