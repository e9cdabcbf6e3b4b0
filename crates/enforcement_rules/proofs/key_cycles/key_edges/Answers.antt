use Rattle.std.proofs.Common.{sym, arith}
use Rattle.enforcement_rules.specs.Standings.{shown_standing}
use Rattle.enforcement_rules.proofs.ListLaws.{mapped_in}
use Rattle.enforcement_rules.proofs.key_cycles.key_edges.Goals as goal

pub put_template-requires-clause-sound : goal.put_template-requires-clause-sound
put_template-requires-clause-sound c =
    c.requires.sound (shown_standing c.standing-item.result)
    (mapped_in shown_standing c.args.templates.now c.standing-item.result (c.loop-standing.standing-index, omega arith, sym c.standing-item.is))
