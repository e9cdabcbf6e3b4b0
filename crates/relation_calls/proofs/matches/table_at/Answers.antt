use Rattle.std.proofs.Common.{ℕ, subst}
use Rattle.std.specs.Prelude.{IfOk}
use Rattle.relation_calls.specs.Tables.{IsTable}
use Rattle.relation_calls.proofs.AskingLaws.{planned_at}
use Rattle.relation_calls.proofs.matches.table_at.Goals as goal

pub table_of-requires-clause-visit : goal.table_of-requires-clause-visit
table_of-requires-clause-visit c =
    record {
      formed = c.requires.visit.formed;
      planned = planned_at c.args.visit.now.program.now c.args.number c.args.rel.now c.in_ok-plan.plan c.in_ok-plan.ensures c.requires.found;
      chain = c.requires.visit.chain;
    }

pub returns : goal.returns
returns c =
    let v = c.args.visit.now in
    subst (λ (n : ℕ). IfOk c.table_of.result (IsTable v.program.now v.models.now n)) (c.in_ok-plan.ensures c.args.rel.now c.requires.found).number_is c.table_of.ensures
