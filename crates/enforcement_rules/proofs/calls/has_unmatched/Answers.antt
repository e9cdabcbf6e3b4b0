use Rattle.enforcement_rules.proofs.CallLaws.{unmatched_told_of}
use Rattle.enforcement_rules.proofs.calls.has_unmatched.Goals as goal

pub returns : goal.returns
returns c =
    let r = c.requires in
    unmatched_told_of c.args.task.now.metas.now c.args.task.now.program.now r.number c.args.task.now.rel.now r.meant r.range.vars c.is_any_unmatched.result c.is_any_unmatched.ensures
