use Rattle.enforcement_rules.proofs.KnownLaws.{known_below, known_told}
use Rattle.enforcement_rules.proofs.known.known.Goals as goal

pub derived-requires : goal.derived-requires
derived-requires c =
    let r = c.requires in
    known_below c.args.task.now.metas.now c.args.task.now.program.now r.number c.args.task.now.rel.now r.meant r.range.vars c.in_ok-rules.rules c.len.result c.in_ok-rules.ensures c.len.ensures

pub returns : goal.returns
returns c =
    let r = c.requires in
    known_told c.args.task.now.metas.now c.args.task.now.program.now r.number c.args.task.now.rel.now r.meant r.range.vars c.in_ok-rules.rules c.in_ok-rules.ensures c.derived.result c.derived.ensures
