use Rattle.enforcement_rules.specs.LeastRules.{IsLeastBelow, IsBrokenBy}
use Rattle.enforcement_rules.proofs.LeastLaws.{broken_by}
use Rattle.enforcement_rules.proofs.ListLaws.{if_ok}
use Rattle.enforcement_rules.proofs.enforcement.broken_by.Goals as goal

pub returns : goal.returns
returns c =
    if_ok c.least_broken.result (IsLeastBelow c.args.metas.now c.args.program.now c.args.rel.now 12) (IsBrokenBy c.args.metas.now c.args.program.now c.args.rel.now)
    (λ o h. broken_by c.args.metas.now c.args.program.now c.args.rel.now o c.if-not-rel.false h) c.least_broken.ensures
