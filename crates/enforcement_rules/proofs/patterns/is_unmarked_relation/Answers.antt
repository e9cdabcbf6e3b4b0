use Rattle.enforcement_rules.proofs.MarkLaws.{unmarked_told}
use Rattle.enforcement_rules.proofs.patterns.is_unmarked_relation.Goals as goal

pub returns : goal.returns
returns c = unmarked_told c.args.program.now c.args.rel.now c.any_unmarked.result c.any_unmarked.ensures
