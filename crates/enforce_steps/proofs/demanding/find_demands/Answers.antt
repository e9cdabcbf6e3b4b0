use Rattle.answer_texts.specs.AskedView.{asked_view}
use Rattle.enforce_steps.proofs.AskableLaws.{can_be_enforced}
use Rattle.enforce_steps.proofs.demanding.find_demands.Goals as goal

pub demands-requires : goal.demands-requires
demands-requires c =
    let q = asked_view c.args.asked.now in
    record { premises = (q.metas, can_be_enforced q c.requires.askable c.requires.enforceable) }
