use Rattle.std.proofs.Common.{◌≡◌, drop}
use Rattle.std.specs.List.{list_all}
use Rattle.qvtr_engine.specs.RequestView.{request_view}
use Rattle.qvtr_engine.specs.RequestWords as spec
use Rattle.qvtr_engine.proofs.check_request.CheckRequest.has_parts.Given as goal

-- the words that are left have parts exactly where all have
abbrev pub invariant-loop-i : goal.invariant-loop-i
invariant-loop-i l =
    list_all spec.has_parts (drop l.i (request_view l.self).files) ≡ list_all spec.has_parts (request_view l.self).files
