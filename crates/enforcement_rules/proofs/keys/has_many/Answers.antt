use Rattle.enforcement_rules.specs.NumberSets.{has}
use Rattle.enforcement_rules.proofs.KeyLaws.{many_told_of}
use Rattle.enforcement_rules.proofs.keys.has_many.Goals as goal

pub returns : goal.returns
returns c =
    let r = c.requires.relation in
    many_told_of c.args.task.now.metas.now c.args.task.now.program.now r.number c.args.task.now.rel.now r.meant r.range.vars _ c.requires.templates c.requires.variables c.args.task.now.keys.now c.requires.keys c.requires.one
    (has c.args.existential.now) c.requires.existential c.any_many.result c.any_many.ensures
