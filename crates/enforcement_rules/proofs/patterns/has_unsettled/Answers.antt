use Rattle.enforcement_rules.proofs.SettledLaws.{settled_told}
use Rattle.enforcement_rules.proofs.patterns.has_unsettled.Goals as goal

pub returns : goal.returns
returns c =
    let r = c.requires.relation in
    settled_told c.args.task.now.metas.now c.len-count.ensures.well c.args.task.now.program.now r.number c.args.task.now.rel.now r.meant r.range.vars c.args.known.now c.requires.known _ c.requires.templates c.args.task.now.meta c.requires.target
    c.in_ok-settled.settled c.in_ok-settled.ensures
