use Rattle.std.proofs.Common.{List, [], ◌∷◌, ◌++◌, map, refl, ◌∙◌, ap}
use Rattle.std.proofs.lemmas.List.{map-append}
use Rattle.qvtr_engine.specs.CheckView.{bound_view}
use Rattle.qvtr_engine.specs.CheckWords.{Bound}
use Rattle.qvtr_engine.specs.RequestView.{request_view}
use Rattle.qvtr_engine.proofs.RequestLaws.{mapped_more}
use Rattle.qvtr_engine.proofs.check_request.CheckRequest.paths.Goals as goal

pub loop-i-preserved : goal.loop-i-preserved
loop-i-preserved c =
    let files : List Bound = (request_view c.args.self.now).files in
    ap (map (λ t. t.now)) c.in_ok-push-2.ensures.items ∙ map-append (λ t. t.now) c.loop-i.paths.items (c.as_bytes-in-loop-i.result ∷ [])
    ∙ ap (λ ps. ps ++ c.as_bytes-in-loop-i.result.now ∷ []) c.loop-i.invariant
    ∙ ap (λ ps. (request_view c.args.self.now).script ∷ ps)
    (mapped_more (λ b. b.path) files c.loop-i.i (bound_view c.file.result) _ c.as_bytes-in-loop-i.result.now c.file.ensures c.as_bytes-in-loop-i.ensures.value refl)
