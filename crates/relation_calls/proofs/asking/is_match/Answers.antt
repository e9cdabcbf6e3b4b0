use Rattle.std.proofs.Common.{◌∙◌, sym, subst}
use Rattle.std.specs.Prelude.{◌↔◌, IsTrue}
use Rattle.qvtr_semantics.specs.Calls.{RelationCall, Match}
use Rattle.qvtr_semantics.specs.Chains.{MatchChain}
use Rattle.relation_calls.specs.Seen.{AreClean}
use Rattle.relation_calls.proofs.asking.is_match.Goals as goal

pub returns-in-Some-clause-value : goal.returns-in-Some-clause-value
returns-in-Some-clause-value c =
    let kept = c.requires.told.matching c.in_ok-key.key c.in-Some.one (sym c.kept_match.ensures ∙ c.in-Some.is) in
    subst (λ (d : RelationCall). IsTrue c.in-Some.one ↔ Match c.args.program.now c.args.models.now d) c.in_ok-key.ensures kept.value

pub returns-in-Some-clause-clean : goal.returns-in-Some-clause-clean
returns-in-Some-clause-clean c =
    let kept = c.requires.told.matching c.in_ok-key.key c.in-Some.one (sym c.kept_match.ensures ∙ c.in-Some.is) in
    subst (λ (d : RelationCall). AreClean (MatchChain c.args.program.now c.args.models.now d)) c.in_ok-key.ensures kept.clean
