use Rattle.std.proofs.Common.{take}
use Rattle.relation_calls.specs.Names.{calls_named}
use Rattle.relation_calls.specs.Owing.{IsAnswer}
use Rattle.relation_calls.specs.Visits.{upto_of}
use Rattle.relation_calls.proofs.judging.all_answers.Given as goal

abbrev pub invariant-loop-call : goal.invariant-loop-call
invariant-loop-call l = IsAnswer l.visit.program.now l.visit.models.now (upto_of l.visit) l.clause (calls_named (take l.call-index l.calls)) l.all
