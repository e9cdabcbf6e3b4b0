use Rattle.std.proofs.Common.{◌≡◌, drop}
use Rattle.qvtr_engine.specs.CheckedNames.{target_of}
use Rattle.qvtr_engine.specs.RequestView.{request_view}
use Rattle.qvtr_engine.specs.Target.{path_named, target_path}
use Rattle.qvtr_engine.proofs.check_request.CheckRequest.target_path.Given as goal

-- the target's path is the first of its name among the words that are left
abbrev pub invariant-loop-i : goal.invariant-loop-i
invariant-loop-i l =
    path_named (drop l.i (request_view l.self).files) (target_of (request_view l.self)) ≡ target_path (request_view l.self)
