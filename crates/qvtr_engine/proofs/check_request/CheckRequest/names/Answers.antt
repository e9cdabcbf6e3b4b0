use Rattle.std.proofs.Common.{List, [], ◌∷◌, map, ◌∙◌, ap}
use Rattle.std.proofs.lemmas.List.{map-append}
use Rattle.qvtr_engine.specs.CheckView.{bound_view}
use Rattle.qvtr_engine.specs.CheckWords.{Bound}
use Rattle.qvtr_engine.specs.RequestView.{request_view}
use Rattle.qvtr_engine.proofs.RequestLaws.{mapped_more}
use Rattle.qvtr_engine.proofs.check_request.CheckRequest.names.Goals as goal

pub loop-i-preserved : goal.loop-i-preserved
loop-i-preserved c =
    let files : List Bound = (request_view c.args.self.now).files in
    ap (map (λ t. t.now)) c.in_ok-push.ensures.items ∙ map-append (λ t. t.now) c.loop-i.names.items (c.as_bytes.result ∷ [])
    ∙ mapped_more (λ b. b.name) files c.loop-i.i (bound_view c.file.result) (map (λ t. t.now) c.loop-i.names.items) c.as_bytes.result.now c.file.ensures
    c.as_bytes.ensures.value c.loop-i.invariant
