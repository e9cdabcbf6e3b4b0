use Rattle.std.proofs.Common.{◌∙◌, sym}
use Rattle.enforcement_rules.proofs.LeastLaws.{some_stays, none_kept}
use Rattle.enforcement_rules.proofs.rules.first_of_all.Goals as goal

pub returns-then-is_some : goal.returns-then-is_some
returns-then-is_some c = some_stays c.args.task.now.metas.now c.args.task.now.program.now c.args.task.now.rel.now 5 12 c.in_ok-of_patterns.of_patterns (sym c.is_some.ensures ∙ c.if-is_some.true) c.in_ok-of_patterns.ensures

pub first_of_keys-requires-clause-kept : goal.first_of_keys-requires-clause-kept
first_of_keys-requires-clause-kept c = none_kept c.args.task.now.metas.now c.args.task.now.program.now c.args.task.now.rel.now 5 c.in_ok-of_patterns.of_patterns (sym c.is_some.ensures ∙ c.if-is_some.false) c.in_ok-of_patterns.ensures

pub first_of_calls-requires-clause-kept : goal.first_of_calls-requires-clause-kept
first_of_calls-requires-clause-kept c = none_kept c.args.task.now.metas.now c.args.task.now.program.now c.args.task.now.rel.now 9 c.in_ok-of_keys.of_keys (sym c.is_some-2.ensures ∙ c.if-is_some-2.false) c.in_ok-of_keys.ensures
