use Rattle.std.specs.Prelude.{Contains}
use Rattle.qvtr_semantics.specs.Templates.{Values}
use Rattle.template_match.specs.Search.{values_of}
use Rattle.relation_calls.specs.declared.clause_call.ClauseCall.{ClauseCall}
use Rattle.relation_calls.specs.declared.clause_call.Clause.TheVariants.{Where}
use Rattle.relation_calls.specs.Owing.{IsCallIn}
use Rattle.relation_calls.specs.Visits.{wheres_of}
use Rattle.relation_calls.proofs.judging.partner_calls.Given as goal

abbrev pub invariant-loop-g : goal.invariant-loop-g
invariant-loop-g l = (c : ClauseCall) → Contains l.owed c → (g : Values) × Contains (values_of l.gs) g × IsCallIn Where (wheres_of l.visit g) c
