use Rattle.std.proofs.lemmas.Result.{IfOk-weaker}
use Rattle.template_match.proofs.PublicLaws.{no_joins}
use Rattle.template_match.proofs.finding.bindings.Goals as goal

pub returns-clause-exact : goal.returns-clause-exact
returns-clause-exact c =
    IfOk-weaker c.joined_bindings.result _ _ (λ bs h rel planned b. (λ k. ((h rel planned b).0 k).0, λ s. (h rel planned b).1 (s, no_joins b))) c.joined_bindings.ensures.exact
