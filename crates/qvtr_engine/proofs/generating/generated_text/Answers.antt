use Rattle.std.proofs.lemmas.Result.{IfOk-weaker}
use Rattle.qvtr_engine.proofs.generating.generated_text.Goals as goal

pub returns : goal.returns
returns c =
    IfOk-weaker c.summary_text.result _ _ (λ text is. record { summary = c.in_ok-summary.summary; is = c.in_ok-summary.ensures; text_is = is }) c.summary_text.ensures
