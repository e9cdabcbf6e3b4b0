use Rattle.relation_calls.specs.declared.clause_call.Clause.TheVariants.{When}
use Rattle.relation_calls.specs.Names.{calls_named}
use Rattle.relation_calls.specs.Owing.{IsCallIn}
use Rattle.relation_calls.proofs.OwingLaws.{all_added}
use Rattle.relation_calls.proofs.judging.when_calls.Goals as goal

pub returns : goal.returns
returns c = all_added (IsCallIn When (calls_named c.args.calls.now)) c.new-owed.result c.add_calls.new.owed c.new-owed.ensures c.in_ok-add_calls.ensures
