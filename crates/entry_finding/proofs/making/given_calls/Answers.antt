use Rattle.std.proofs.Common.{List, [], ◌∷◌, ◌++◌, sym, ◌∙◌, ap}
use Rattle.std.specs.List.{filter_map}
use Rattle.std.proofs.lemmas.List.Elements.{filter_map-append}
use Rattle.entry_making.specs.declared.numbered_call.NumberedCall.{NumberedCall}
use Rattle.entry_finding.proofs.making.given_calls.Goals as goal

pub loop-call-preserved : goal.loop-call-preserved
loop-call-preserved c =
    c.in_ok-push_call.ensures ∙ ap (λ (cs : List NumberedCall). cs ++ filter_map (λ x. x) (c.in-Some.call ∷ [])) c.loop-call.invariant
    ∙ sym (filter_map-append (λ x. x) c.loop-call.yielded (c.in-Some.call ∷ []))
