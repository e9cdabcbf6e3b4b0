use Rattle.std.proofs.Common.{take}
use Rattle.template_match.specs.Search.{values_of}
use Rattle.relation_calls.specs.Owing.{IsAnswerOfAny}
use Rattle.relation_calls.proofs.judging.any_partner.Given as goal

abbrev pub invariant-loop-g : goal.invariant-loop-g
invariant-loop-g l = IsAnswerOfAny l.visit (values_of (take l.g-index l.gs)) l.any
