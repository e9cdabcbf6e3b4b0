use Rattle.relation_calls.specs.Names.{calls_named}
use Rattle.relation_calls.specs.Owing.{IsCallIn}
use Rattle.relation_calls.proofs.OwingLaws.{AreAdded}
use Rattle.relation_calls.proofs.judging.add_calls.Given as goal

abbrev pub invariant-loop-call : goal.invariant-loop-call
invariant-loop-call l = AreAdded (IsCallIn l.clause (calls_named l.calls)) l.fn.owed l.owed
