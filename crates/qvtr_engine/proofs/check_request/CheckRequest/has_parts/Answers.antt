use Rattle.std.proofs.Common.{◌≡◌, ◌+◌, true, false, List, drop, ap}
use Rattle.std.specs.Prelude.{◌&&◌}
use Rattle.std.specs.List.{list_all}
use Rattle.qvtr_engine.specs.CheckView.{bound_view}
use Rattle.qvtr_engine.specs.CheckWords.{Bound}
use Rattle.qvtr_engine.specs.RequestView.{request_view}
use Rattle.qvtr_engine.specs.RequestWords.{has_parts}
use Rattle.qvtr_engine.proofs.RequestLaws.{one_on, decided}
use Rattle.qvtr_engine.proofs.check_request.CheckRequest.has_parts.Goals as goal

pub returns-then-not-has_parts : goal.returns-then-not-has_parts
returns-then-not-has_parts c =
    let files : List Bound = (request_view c.args.self.now).files in
    let told : has_parts (bound_view c.file.result) ≡ false = cc in
    decided (list_all has_parts) files c.loop-i.i (bound_view c.file.result) false (list_all has_parts files) c.file.ensures
    (ap (λ b. b && list_all has_parts (drop (c.loop-i.i + 1) files)) told) c.loop-i.invariant

pub loop-i-preserved : goal.loop-i-preserved
loop-i-preserved c =
    let files : List Bound = (request_view c.args.self.now).files in
    let told : has_parts (bound_view c.file.result) ≡ true = cc in
    one_on (list_all has_parts) files c.loop-i.i (bound_view c.file.result) (list_all has_parts files) c.file.ensures
    (ap (λ b. b && list_all has_parts (drop (c.loop-i.i + 1) files)) told) c.loop-i.invariant
