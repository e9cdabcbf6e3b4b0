use Rattle.std.proofs.Common.{map, sym, ◌∙◌, ap}
use Rattle.std.specs.Prelude.{string_bytes}
use Rattle.std.proofs.lemmas.Result.{err_from_is_err_and}
use Rattle.qvtr_engine.specs.GenWords.{gen_from}
use Rattle.qvtr_engine.proofs.GenWordLaws.{gen_read, gen_unread}
use Rattle.qvtr_engine.proofs.RequestLaws.{texts_in}
use Rattle.qvtr_engine.proofs.gen_words.GenRequest.read.Goals as goal

pub returns-in_err-arguments-clause-usage : goal.returns-in_err-arguments-clause-usage
returns-in_err-arguments-clause-usage c =
    let p = err_from_is_err_and c.from_residual.result c.from_residual.ensures.1 in
    rw (p.1, p.2) (λ is. gen_unread (map string_bytes c.args.further.now) (c.in_err-arguments.ensures.usage is))

pub returns-in-Some-clause-ok : goal.returns-in-Some-clause-ok
returns-in-Some-clause-ok c =
    gen_read (map string_bytes c.args.further.now) (texts_in c.in_ok-arguments.arguments.items) c.in_ok-arguments.ensures.ok
    ∙ ap (λ xs. gen_from (texts_in xs)) (sym c.as_slice.ensures.value) ∙ sym c.in-Some.ensures

pub returns-clause-usage : goal.returns-clause-usage
returns-clause-usage c = λ _.
    gen_read (map string_bytes c.args.further.now) (texts_in c.in_ok-arguments.arguments.items) c.in_ok-arguments.ensures.ok
    ∙ ap (λ xs. gen_from (texts_in xs)) (sym c.as_slice.ensures.value) ∙ sym c.in-None.ensures
