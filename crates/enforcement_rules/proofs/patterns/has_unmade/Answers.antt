use Rattle.enforcement_rules.proofs.UnmadeLaws.{unmade_told_of}
use Rattle.enforcement_rules.proofs.patterns.has_unmade.Goals as goal

pub returns : goal.returns
returns c =
    let r = c.requires.relation in
    unmade_told_of c.args.task.now.metas.now c.args.task.now.program.now r.number c.args.task.now.rel.now r.meant r.range.vars _ c.requires.templates c.args.task.now.meta c.requires.target c.any_unmade_of.result
    c.any_unmade_of.ensures
