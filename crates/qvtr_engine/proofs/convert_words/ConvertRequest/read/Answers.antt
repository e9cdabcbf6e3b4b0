use Rattle.std.proofs.Common.{◌≡◌, map, sym, ◌∙◌, ap}
use Rattle.std.specs.Prelude.{string_bytes}
use Rattle.std.proofs.lemmas.Result.{IfOk-weaker, IfErr-weaker, err_from_is_err_and}
use Rattle.qvtr_engine.specs.ConvertWords.{convert_from, convert_of}
use Rattle.qvtr_engine.proofs.ConvertLaws.{convert_read, convert_unread}
use Rattle.qvtr_engine.proofs.RequestLaws.{texts_in}
use Rattle.qvtr_engine.proofs.convert_words.ConvertRequest.read.Goals as goal

pub returns-in_err-arguments-clause-usage : goal.returns-in_err-arguments-clause-usage
returns-in_err-arguments-clause-usage c =
    let p = err_from_is_err_and c.from_residual.result c.from_residual.ensures.1 in
    rw (p.1, p.2) (λ is. convert_unread (map string_bytes c.args.further.now) (c.in_err-arguments.ensures.usage is))

pub returns-clause-ok : goal.returns-clause-ok
returns-clause-ok c =
    let read : convert_of (map string_bytes c.args.further.now) ≡ convert_from (texts_in c.as_slice.result.now) =
    convert_read (map string_bytes c.args.further.now) (texts_in c.in_ok-arguments.arguments.items) c.in_ok-arguments.ensures.ok
    ∙ ap (λ xs. convert_from (texts_in xs)) (sym c.as_slice.ensures.value) in
    IfOk-weaker c.of_good_arguments.result _ _ (λ r e. read ∙ e) c.of_good_arguments.ensures.ok

pub returns-clause-usage : goal.returns-clause-usage
returns-clause-usage c =
    let read : convert_of (map string_bytes c.args.further.now) ≡ convert_from (texts_in c.as_slice.result.now) =
    convert_read (map string_bytes c.args.further.now) (texts_in c.in_ok-arguments.arguments.items) c.in_ok-arguments.ensures.ok
    ∙ ap (λ xs. convert_from (texts_in xs)) (sym c.as_slice.ensures.value) in
    IfErr-weaker c.of_good_arguments.result _ _ (λ e none is. read ∙ none is) c.of_good_arguments.ensures.usage
