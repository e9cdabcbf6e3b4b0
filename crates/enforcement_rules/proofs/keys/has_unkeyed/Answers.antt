use Rattle.enforcement_rules.specs.NumberSets.{has}
use Rattle.enforcement_rules.proofs.KeyLaws.{unkeyed_told_of}
use Rattle.enforcement_rules.proofs.keys.has_unkeyed.Goals as goal

pub returns : goal.returns
returns c =
    let r = c.requires.relation in
    unkeyed_told_of c.args.task.now.metas.now c.args.task.now.program.now r.number c.args.task.now.rel.now r.meant r.range.vars _ c.requires.templates c.requires.variables c.args.task.now.keys.now c.requires.keys c.requires.one
    c.args.task.now.meta (has c.args.existential.now) c.requires.target c.requires.existential c.any_unkeyed.result c.any_unkeyed.ensures
