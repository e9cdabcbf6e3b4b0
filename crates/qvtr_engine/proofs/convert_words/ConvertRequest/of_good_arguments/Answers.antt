use Rattle.std.proofs.Common.{◌≡◌, length, sym, ◌∙◌}
use Rattle.std.proofs.lemmas.List.{length-map}
use Rattle.std.proofs.lemmas.Result.{IfErr-weaker}
use Rattle.qvtr_engine.specs.ConvertView.{convert_view}
use Rattle.qvtr_engine.proofs.ConvertLaws.{convert_bad, convert_formless, convert_when}
use Rattle.qvtr_engine.proofs.RequestLaws.{texts_in}
use Rattle.qvtr_engine.proofs.convert_words.ConvertRequest.of_good_arguments.Goals as goal

pub returns-in-Some-clause-ok : goal.returns-in-Some-clause-ok
returns-in-Some-clause-ok c =
    let four : length (texts_in c.args.arguments.now) ≡ 4 = length-map c.args.arguments.now (λ s. s.now) ∙ c.requires in
    convert_when convert_view (texts_in c.args.arguments.now) (convert_view c.in-Some.request) c.when_good.result four (sym c.in-Some.ensures) c.when_good.ensures.same c.when_good.ensures.ok

pub returns-in-Some-clause-usage : goal.returns-in-Some-clause-usage
returns-in-Some-clause-usage c =
    let four : length (texts_in c.args.arguments.now) ≡ 4 = length-map c.args.arguments.now (λ s. s.now) ∙ c.requires in
    IfErr-weaker c.when_good.result _ _ (λ e bad is. convert_bad (texts_in c.args.arguments.now) (convert_view c.in-Some.request) four (sym c.in-Some.ensures) (bad is))
    c.when_good.ensures.usage

pub returns-in-None-clause-usage : goal.returns-in-None-clause-usage
returns-in-None-clause-usage c = λ _.
    convert_formless (texts_in c.args.arguments.now) (length-map c.args.arguments.now (λ s. s.now) ∙ c.requires) (sym c.in-None.ensures)
