use Rattle.std.proofs.Common.{sym, arith}
use Rattle.enforcement_rules.specs.Standings.{shown_standing}
use Rattle.enforcement_rules.proofs.ListLaws.{mapped_in}
use Rattle.enforcement_rules.proofs.keys.any_unkeyed.Goals as goal

pub is_unkeyed-requires-clause-sound : goal.is_unkeyed-requires-clause-sound
is_unkeyed-requires-clause-sound c =
    c.requires.sound (shown_standing c.standing-item.result)
    (mapped_in shown_standing c.args.templates.now c.standing-item.result (c.loop-standing.standing-index, omega arith, sym c.standing-item.is))
