use Rattle.std.proofs.Common.{sym, subst}
use Rattle.std.specs.Prelude.{◌↔◌, IsTrue, IfOk, IfErr}
use Rattle.qvtr_semantics.specs.Calls.{RelationCall, Holds}
use Rattle.qvtr_semantics.specs.Chains.{HoldsChain}
use Rattle.relation_calls.specs.Seen.{AreClean}
use Rattle.relation_calls.specs.Faults.{IsFault}
use Rattle.relation_calls.specs.Askable.{IsAskable}
use Rattle.relation_calls.proofs.calls.holds_call.Goals as goal

pub holds_alone-requires-clause-askable : goal.holds_alone-requires-clause-askable
holds_alone-requires-clause-askable c = subst (IsAskable c.args.program.now) (sym c.in_ok-name.ensures) c.requires.askable

pub returns-clause-value : goal.returns-clause-value
returns-clause-value c = subst (λ (d : RelationCall). IfOk c.holds_alone.result (λ one. IsTrue one ↔ Holds c.args.program.now c.args.models.now d)) c.in_ok-name.ensures c.holds_alone.ensures.value

pub returns-clause-clean : goal.returns-clause-clean
returns-clause-clean c = subst (λ (d : RelationCall). IfOk c.holds_alone.result (λ one. AreClean (HoldsChain c.args.program.now c.args.models.now d))) c.in_ok-name.ensures c.holds_alone.ensures.clean

pub returns-clause-fault : goal.returns-clause-fault
returns-clause-fault c = subst (λ (d : RelationCall). IfErr c.holds_alone.result (IsFault (HoldsChain c.args.program.now c.args.models.now d))) c.in_ok-name.ensures c.holds_alone.ensures.fault
