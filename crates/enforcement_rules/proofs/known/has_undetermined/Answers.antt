use Rattle.enforcement_rules.proofs.KnownLaws.{undetermined_told}
use Rattle.enforcement_rules.proofs.known.has_undetermined.Goals as goal

pub returns : goal.returns
returns c =
    let r = c.requires.relation in
    undetermined_told c.args.task.now.metas.now c.args.task.now.program.now r.number c.args.task.now.rel.now r.meant r.range.vars c.args.known.now c.requires.known c.any_undetermined.result
    c.any_undetermined.ensures
