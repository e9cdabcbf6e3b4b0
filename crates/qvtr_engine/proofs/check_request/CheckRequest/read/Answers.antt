use Rattle.std.proofs.Common.{map, sym, ◌∙◌}
use Rattle.std.specs.Prelude.{string_bytes}
use Rattle.std.proofs.lemmas.Result.{err_from_is_err_and}
use Rattle.qvtr_engine.specs.RequestView.{request_view}
use Rattle.qvtr_engine.proofs.RequestLaws.{texts_in}
use Rattle.qvtr_engine.proofs.RequestWordLaws.{request_good, request_bad, request_unread, three_or_more}
use Rattle.qvtr_engine.proofs.check_request.CheckRequest.read.Goals as goal

pub returns-in_err-arguments-clause-usage : goal.returns-in_err-arguments-clause-usage
returns-in_err-arguments-clause-usage c =
    let p = err_from_is_err_and c.from_residual.result c.from_residual.ensures.1 in
    rw (p.1, p.2) (λ is. request_unread (map string_bytes c.args.further.now) (c.in_err-arguments.ensures.usage is))

pub of_arguments-request-requires : goal.of_arguments-request-requires
of_arguments-request-requires c = three_or_more (λ s. s.now) c.in_ok-arguments.arguments.items c.in_ok-arguments.ensures.ok.1

pub returns-in-Ok-true-clause-ok : goal.returns-in-Ok-true-clause-ok
returns-in-Ok-true-clause-ok c =
    request_good (map string_bytes c.args.further.now) (texts_in c.in_ok-arguments.arguments.items) (request_view c.of_arguments-request.result) c.in_ok-arguments.ensures.ok
    c.of_arguments-request.ensures (sym c.in-Ok-true.ensures ∙ c.in-Ok-true.field-0-test)

pub returns-in-Ok-false-clause-usage : goal.returns-in-Ok-false-clause-usage
returns-in-Ok-false-clause-usage c = λ _.
    request_bad (map string_bytes c.args.further.now) (texts_in c.in_ok-arguments.arguments.items) (request_view c.of_arguments-request.result) c.in_ok-arguments.ensures.ok
    c.of_arguments-request.ensures (sym c.in-Ok-false.ensures ∙ c.in-Ok-false.field-0-test)
