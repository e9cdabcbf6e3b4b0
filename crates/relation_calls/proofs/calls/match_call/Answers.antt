use Rattle.std.proofs.Common.{sym, subst}
use Rattle.std.specs.Prelude.{◌↔◌, IsTrue, IfOk, IfErr}
use Rattle.qvtr_semantics.specs.Calls.{RelationCall, Match}
use Rattle.qvtr_semantics.specs.Chains.{MatchChain}
use Rattle.relation_calls.specs.Seen.{AreClean}
use Rattle.relation_calls.specs.Faults.{IsFault}
use Rattle.relation_calls.specs.Askable.{IsAskable}
use Rattle.relation_calls.proofs.calls.match_call.Goals as goal

pub is_match-requires-clause-askable : goal.is_match-requires-clause-askable
is_match-requires-clause-askable c = subst (IsAskable c.args.program.now) (sym c.in_ok-name.ensures) c.requires.askable

pub returns-clause-value : goal.returns-clause-value
returns-clause-value c = subst (λ (d : RelationCall). IfOk c.is_match.result (λ one. IsTrue one ↔ Match c.args.program.now c.args.models.now d)) c.in_ok-name.ensures c.is_match.ensures.value

pub returns-clause-clean : goal.returns-clause-clean
returns-clause-clean c = subst (λ (d : RelationCall). IfOk c.is_match.result (λ one. AreClean (MatchChain c.args.program.now c.args.models.now d))) c.in_ok-name.ensures c.is_match.ensures.clean

pub returns-clause-fault : goal.returns-clause-fault
returns-clause-fault c = subst (λ (d : RelationCall). IfErr c.is_match.result (IsFault (MatchChain c.args.program.now c.args.models.now d))) c.in_ok-name.ensures c.is_match.ensures.fault
